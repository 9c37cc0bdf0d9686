-- The play of a circuit is the play of its list of gates.
use Rattle.std.proofs.Common.{◌≡◌, ℕ, suc, List, [], ◌∷◌, ◌++◌, length, refl, ◌∙◌, sym, arith, subst, ◌⊎◌, inl, inr}
use Rattle.std.proofs.lemmas.List.{length_push, get_or_push, get_or_append_left, get_or_at, length-append, append_assoc}
use Rattle.gate_core.specs.Circuit.{Circuit, Calls, Plays}
use Rattle.gate_core.specs.Circuit.Circuit.{give, known, flip, join, meet}
use Rattle.gate_core.specs.Relations.{All2}
use Rattle.gate_core.proofs.Relating.{Same}
use Rattle.gate_core.specs.GateList.{At, PlaysList, PlaysGates, gates_of, numbers}
use Rattle.gate_core.proofs.Pairs.{All2-up}

At-push : {W : Type 0} (ws : List W) (w v : W) (i : ℕ) → At ws i v → At (ws ++ w ∷ []) i v
At-push ws w v i h = (let l = length_push ws w in omega (arith, h.0, l), get_or_append_left ws (w ∷ []) v i h.0 ∙ h.1)

At-new : {W : Type 0} (ws : List W) (w : W) (n : ℕ) → length ws ≡ n → At (ws ++ w ∷ []) n w
At-new ws w n e = (let l = length_push ws w in omega (arith, e, l), get_or_push ws w w n e)

-- what belongs together goes on with one wire more
pub At-more : {W : Type 0} (R : W → ℕ → Type 0) (ws : List W) (n : ℕ) (new : W) → length ws ≡ n → ((w : W) (i : ℕ) → R w i → At ws i w)
    → (w : W) (i : ℕ) → R w i ⊎ ((w ≡ new) × (i ≡ n)) → At (ws ++ new ∷ []) i w
At-more R ws n new e h w i (inl r) = At-push ws new w i (h w i r)
At-more R ws n new e h w i (inr r) = subst (λ v. At (ws ++ new ∷ []) i v) (sym r.0) (subst (λ k. At (ws ++ new ∷ []) k new) (sym r.1) (At-new ws new n e))

-- the play of a circuit is the play of its list of gates
pub Plays-list : {S W A B : Type 0} (m : Calls S W) (Q : (W → ℕ → Type 0) → A → B → Type 0)
    → ((P R : W → ℕ → Type 0) → ((w : W) (i : ℕ) → P w i → R w i) → (a : A) (b : B) → Q P a b → Q R a b)
    → (R : W → ℕ → Type 0) (c : Circuit W A) (d : Circuit ℕ B) (n : ℕ) (ws : List W) (s t : S) (r : A)
    → Same R Q c d → length ws ≡ n → ((w : W) (i : ℕ) → R w i → At ws i w) → Plays m c s r t
    → (vs : List W) × PlaysList m (gates_of n d).0 ws s vs t × Q (λ w i. At vs i w) r (gates_of n d).1
Plays-list m Q mono R (give a) (give b) n ws s t r h e k p =
    (ws, (refl, p.1), subst (λ v. Q (λ w i. At ws i w) v b) p.0 (mono R (λ w i. At ws i w) k a b h))
Plays-list {S} {W} m Q mono R (known b c) (known b' d) n ws s t r h e k p =
    let w = m.known_wire s b in
    let l : length (ws ++ w ∷ []) ≡ suc n = (let q = length_push ws w in omega (arith, q, e)) in
    let rest = Plays-list m Q mono _ (c w) (d n) (suc n) (ws ++ w ∷ []) s t r (h.1 w n) l (At-more R ws n w e k) p in
    (rest.0, subst (λ x. PlaysList m (gates_of (suc n) (d n)).0 (ws ++ m.known_wire s x ∷ []) s rest.0 t) h.0 rest.1, rest.2)
Plays-list {S} {W} m Q mono R (flip x c) (flip i d) n ws s t r h e k p =
    let w = m.not_wire s x in
    let l : length (ws ++ w ∷ []) ≡ suc n = (let q = length_push ws w in omega (arith, q, e)) in
    let rest = Plays-list m Q mono _ (c w) (d n) (suc n) (ws ++ w ∷ []) s t r (h.1 w n) l (At-more R ws n w e k) p in
    (rest.0, (x, k x i h.0, rest.1), rest.2)
Plays-list {S} {W} m Q mono R (join x y c) (join i j d) n ws s t r h e k p =
    let w = m.xor_wire s x y in
    let l : length (ws ++ w ∷ []) ≡ suc n = (let q = length_push ws w in omega (arith, q, e)) in
    let rest = Plays-list m Q mono _ (c w) (d n) (suc n) (ws ++ w ∷ []) s t r (h.2 w n) l (At-more R ws n w e k) p in
    (rest.0, (x, y, k x i h.0, k y j h.1, rest.1), rest.2)
Plays-list {S} {W} m Q mono R (meet x y c) (meet i j d) n ws s t r h e k p =
    let w = p.0 in
    let l : length (ws ++ w ∷ []) ≡ suc n = (let q = length_push ws w in omega (arith, q, e)) in
    let rest = Plays-list m Q mono _ (c w) (d n) (suc n) (ws ++ w ∷ []) p.1 t r (h.2 w n) l (At-more R ws n w e k) p.3 in
    (rest.0, (x, y, w, p.1, k x i h.0, k y j h.1, p.2, rest.1), rest.2)
Plays-list m Q mono R _ _ n ws s t r h e k p = absurd h

-- operands have the first numbers
pub All2-numbers : {W : Type 0} (p ws : List W) (n : ℕ) → length p ≡ n → All2 (λ w i. At (p ++ ws) i w) ws (numbers n (length ws))
All2-numbers p [] n e = tt
All2-numbers {W} p (w ∷ ws) n e = (
  (let l = length-append p (w ∷ ws) in omega (arith, e, l), get_or_at p w ws w n e),
  subst (λ (l : List W). All2 (λ w i. At l i w) ws (numbers (suc n) (length ws))) (append_assoc p (w ∷ []) ws)
      (All2-numbers (p ++ w ∷ []) ws (suc n) (let l = length_push p w in omega (arith, e, l))),
)

-- so a play of a circuit on words is a play of its gates
pub Plays-gates : {S W : Type 0} (m : Calls S W) (c : Circuit W (List W)) (d : Circuit ℕ (List ℕ)) (ws : List W) (n : ℕ) (s t : S) (r : List W)
    → n ≡ length ws → ((R : W → ℕ → Type 0) → All2 R ws (numbers 0 n) → Same R All2 c d) → Plays m c s r t
    → PlaysGates m (gates_of n d) ws s r t
unfolding PlaysGates
Plays-gates {S} {W} m c d ws n s t r e same p =
    let first : All2 (λ w i. At ws i w) ws (numbers 0 n) = subst (λ k. All2 (λ w i. At ws i w) ws (numbers 0 k)) (sym e) (All2-numbers [] ws 0 refl) in
    Plays-list m All2 (λ P R up vs is. All2-up P R vs is up) (λ w i. At ws i w) c d n ws s t r (same _ first) (sym e) (λ w i h. h) p
