-- Room for circuits that are parts of others, and for lists of gates.
use Rattle.std.proofs.Common.{◌≡◌, ℕ, zero, suc, ◌<◌, List, [], ◌∷◌, ◌++◌, length, arith, sym, subst, ◌⊎◌, inl, inr, refl}
use Rattle.std.proofs.lemmas.List.{length_push}
use Rattle.gate_core.specs.Circuit.{Circuit, Calls, then, times, row, Plays, Affords}
use Rattle.gate_core.specs.Circuit.Circuit.{give, known, flip, join, meet}
use Rattle.gate_core.specs.Laws.{Counts, HasRoom}
use Rattle.gate_core.specs.GateList.{Gate, gate_known, gate_not, gate_xor, gate_and, At, PlaysList, AffordsList, gates_of, numbers}
use Rattle.gate_core.specs.Relations.{All2}
use Rattle.gate_core.specs.Wiring.{ands_in}
use Rattle.gate_core.proofs.Relating.{Same, Costs}
use Rattle.gate_core.proofs.Numbered.{At-more, All2-numbers}

-- room for a circuit and what follows it is room for the circuit
pub Affords-first : {S W A B : Type 0} (m : Calls S W) (c : Circuit W A) (f : A → Circuit W B) (s : S) → Affords m (then c f) s → Affords m c s
Affords-first m (give a) f s h = tt
Affords-first m (known b c) f s h = Affords-first m (c (m.known_wire s b)) f s h
Affords-first m (flip x c) f s h = Affords-first m (c (m.not_wire s x)) f s h
Affords-first m (join x y c) f s h = Affords-first m (c (m.xor_wire s x y)) f s h
Affords-first m (meet x y c) f s h = (h.0, λ w u g. Affords-first m (c w) f u (h.1 w u g))

-- and, where the circuit was played, room for what follows
pub Affords-next : {S W A B : Type 0} (m : Calls S W) (c : Circuit W A) (f : A → Circuit W B) (s u : S) (a : A)
    → Affords m (then c f) s → Plays m c s a u → Affords m (f a) u
Affords-next m (give b) f s u a h p = subst (λ v. Affords m (f a) v) p.1 (subst (λ v. Affords m (f v) s) p.0 h)
Affords-next m (known b c) f s u a h p = Affords-next m (c (m.known_wire s b)) f s u a h p
Affords-next m (flip x c) f s u a h p = Affords-next m (c (m.not_wire s x)) f s u a h p
Affords-next m (join x y c) f s u a h p = Affords-next m (c (m.xor_wire s x y)) f s u a h p
Affords-next m (meet x y c) f s u a h p = Affords-next m (c p.0) f p.1 u a (h.1 p.0 p.1 p.2) p.3

-- room for all turns of a loop is room for each of them, where those before it were played
pub Affords-turn : {S W A : Type 0} (m : Calls S W) (f : ℕ → A → Circuit W A) (start : A) (n i : ℕ) (s u : S) (a : A)
    → i < n → Affords m (times n f start) s → Plays m (times i f start) s a u → Affords m (f i a) u
Affords-turn m f start zero i s u a lt h p = absurd (omega (arith, lt))
Affords-turn m f start (suc n) i s u a lt h p =
    elim (last_or i n lt) as (λ _. Affords m (f i a) u) [
      | inl e ↦ subst (λ k. Affords m (f k a) u) (sym e) (Affords-next m (times n f start) (f n) s u a h (subst (λ k. Plays m (times k f start) s a u) e p))
      | inr l ↦ Affords-turn m f start n i s u a l (Affords-first m (times n f start) (f n) s h) p
    ]
  where
    last_or : (i n : ℕ) → i < suc n → (i ≡ n) ⊎ (i < n)
    last_or zero zero lt = inl refl
    last_or (suc i) zero lt = absurd (omega (arith, lt))
    last_or zero (suc n) lt = inr (omega arith)
    last_or (suc i) (suc n) lt = elim (last_or i n (omega (arith, lt))) as (λ _. (suc i ≡ suc n) ⊎ (suc i < suc n)) [ inl e ↦ inl (omega (arith, e)) | inr l ↦ inr (omega (arith, l)) ]

-- and room for a row is room for each of its circuits
pub Affords-row : {S W : Type 0} (m : Calls S W) (f : ℕ → Circuit W W) (n i : ℕ) (s u : S) (ws : List W)
    → i < n → Affords m (row n f) s → Plays m (row i f) s ws u → Affords m (f i) u
Affords-row m f n i s u ws lt h p =
    Affords-first m (f i) (λ w. give (ws ++ w ∷ [])) u (Affords-turn m (λ i ws. then (f i) (λ w. give (ws ++ w ∷ []))) [] n i s u ws lt h p)

-- a room of as many ANDs as a circuit makes is room for it
pub Affords-count : {S W A : Type 0} (m : Calls S W) (made room : S → ℕ) → Counts m made room
    → (Q : A → Type 0) (n : ℕ) (c : Circuit W A) (s : S) → Costs Q n c → HasRoom room s n → Affords m c s
Affords-count m made room counts Q n (give a) s k h = tt
Affords-count m made room counts Q n (known b c) s k h = Affords-count m made room counts Q n (c (m.known_wire s b)) s (k (m.known_wire s b)) h
Affords-count m made room counts Q n (flip x c) s k h = Affords-count m made room counts Q n (c (m.not_wire s x)) s (k (m.not_wire s x)) h
Affords-count m made room counts Q n (join x y c) s k h = Affords-count m made room counts Q n (c (m.xor_wire s x y)) s (k (m.xor_wire s x y)) h
Affords-count m made room counts Q n (meet x y c) s k h = (
  counts.room_serves s x y (omega (arith, k.1, h)),
  λ w u g. let r = counts.and_room s u x y w g in Affords-count m made room counts Q k.0 (c w) u (k.2 w) (omega (arith, r, k.1, h)),
)

-- and so it is for a list of gates
pub list_counts : {S W : Type 0} (m : Calls S W) (made room : S → ℕ) → Counts m made room
    → (gs : List Gate) (ws : List W) (s : S) → HasRoom room s (ands_in gs) → AffordsList m gs ws s
list_counts m made room counts [] ws s h = tt
list_counts m made room counts (gate_known b ∷ gs) ws s h = list_counts m made room counts gs _ s h
list_counts m made room counts (gate_not i ∷ gs) ws s h = λ a p. list_counts m made room counts gs _ s h
list_counts m made room counts (gate_xor i j ∷ gs) ws s h = λ a b p q. list_counts m made room counts gs _ s h
list_counts m made room counts (gate_and i j ∷ gs) ws s h = λ a b p q. (
  counts.room_serves s a b (omega (arith, h)),
  λ w u g. let r = counts.and_room s u a b w g in list_counts m made room counts gs _ u (omega (arith, r, h)),
)

-- room for the list of gates of a circuit is room for the circuit
pub Affords-list : {S W A B : Type 0} (m : Calls S W) (Q : (W → ℕ → Type 0) → A → B → Type 0)
    → (R : W → ℕ → Type 0) (c : Circuit W A) (d : Circuit ℕ B) (n : ℕ) (ws : List W) (s : S)
    → Same R Q c d → length ws ≡ n → ((w : W) (i : ℕ) → R w i → At ws i w) → AffordsList m (gates_of n d).0 ws s → Affords m c s
Affords-list m Q R (give a) (give b) n ws s h e k p = tt
Affords-list {S} {W} m Q R (known b c) (known b' d) n ws s h e k p =
    let w = m.known_wire s b in
    let l : length (ws ++ w ∷ []) ≡ suc n = (let q = length_push ws w in omega (arith, q, e)) in
    Affords-list m Q _ (c w) (d n) (suc n) (ws ++ w ∷ []) s (h.1 w n) l (At-more R ws n w e k)
    (subst (λ x. AffordsList m (gates_of (suc n) (d n)).0 (ws ++ m.known_wire s x ∷ []) s) (sym h.0) p)
Affords-list {S} {W} m Q R (flip x c) (flip i d) n ws s h e k p =
    let w = m.not_wire s x in
    let l : length (ws ++ w ∷ []) ≡ suc n = (let q = length_push ws w in omega (arith, q, e)) in
    Affords-list m Q _ (c w) (d n) (suc n) (ws ++ w ∷ []) s (h.1 w n) l (At-more R ws n w e k) (p x (k x i h.0))
Affords-list {S} {W} m Q R (join x y c) (join i j d) n ws s h e k p =
    let w = m.xor_wire s x y in
    let l : length (ws ++ w ∷ []) ≡ suc n = (let q = length_push ws w in omega (arith, q, e)) in
    Affords-list m Q _ (c w) (d n) (suc n) (ws ++ w ∷ []) s (h.2 w n) l (At-more R ws n w e k) (p x y (k x i h.0) (k y j h.1))
Affords-list {S} {W} m Q R (meet x y c) (meet i j d) n ws s h e k p =
    let q = p x y (k x i h.0) (k y j h.1) in (
      q.0,
      λ w u g. let l : length (ws ++ w ∷ []) ≡ suc n = (let q = length_push ws w in omega (arith, q, e)) in
          Affords-list m Q _ (c w) (d n) (suc n) (ws ++ w ∷ []) u (h.2 w n) l (At-more R ws n w e k) (q.1 w u g),
    )
Affords-list m Q R _ _ n ws s h e k p = absurd h

-- so room for the gates of a circuit on words is room for the circuit
pub Affords-gates : {S W : Type 0} (m : Calls S W) (c : Circuit W (List W)) (d : Circuit ℕ (List ℕ)) (ws : List W) (n : ℕ) (s : S)
    → n ≡ length ws → ((R : W → ℕ → Type 0) → All2 R ws (numbers 0 n) → Same R All2 c d) → AffordsList m (gates_of n d).0 ws s → Affords m c s
Affords-gates {S} {W} m c d ws n s e same p =
    let first : All2 (λ w i. At ws i w) ws (numbers 0 n) = subst (λ k. All2 (λ w i. At ws i w) ws (numbers 0 k)) (sym e) (All2-numbers [] ws 0 refl) in
    Affords-list m All2 (λ w i. At ws i w) c d n ws s (same _ first) (sym e) (λ w i h. h) p

-- room for one list of gates and then another is room for the first, and for the other from where it stands
pub list_parts_afford : {S W : Type 0} (m : Calls S W) (gs hs : List Gate) (ws : List W) (s : S)
    → (AffordsList m (gs ++ hs) ws s → AffordsList m gs ws s × ((us : List W) (u : S) → PlaysList m gs ws s us u → AffordsList m hs us u))
    × (AffordsList m gs ws s → ((us : List W) (u : S) → PlaysList m gs ws s us u → AffordsList m hs us u) → AffordsList m (gs ++ hs) ws s)
list_parts_afford {S} {W} m gs hs ws s = (λ h. (first gs ws s h, λ us u p. next gs ws s us u h p), λ h k. both gs ws s h k)
  where
    first : (gs : List Gate) (ws : List W) (s : S) → AffordsList m (gs ++ hs) ws s → AffordsList m gs ws s
    first [] ws s h = tt {0}
    first (gate_known b ∷ gs) ws s h = first gs _ s h
    first (gate_not i ∷ gs) ws s h = λ a p. first gs _ s (h a p)
    first (gate_xor i j ∷ gs) ws s h = λ a b p q. first gs _ s (h a b p q)
    first (gate_and i j ∷ gs) ws s h = λ a b p q. ((h a b p q).0, λ w u g. first gs _ u ((h a b p q).1 w u g))

    next : (gs : List Gate) (ws : List W) (s : S) (us : List W) (u : S) → AffordsList m (gs ++ hs) ws s → PlaysList m gs ws s us u → AffordsList m hs us u
    next [] ws s us u h p = subst (λ k. AffordsList m hs us k) p.1 (subst (λ l. AffordsList m hs l s) p.0 h)
    next (gate_known b ∷ gs) ws s us u h p = next gs _ s us u h p
    next (gate_not i ∷ gs) ws s us u h p = next gs _ s us u (h p.0 p.1) p.2
    next (gate_xor i j ∷ gs) ws s us u h p = next gs _ s us u (h p.0 p.1 p.2 p.3) p.4
    next (gate_and i j ∷ gs) ws s us u h p = next gs _ p.3 us u ((h p.0 p.1 p.4 p.5).1 p.2 p.3 p.6) p.7

    both : (gs : List Gate) (ws : List W) (s : S) → AffordsList m gs ws s → ((us : List W) (u : S) → PlaysList m gs ws s us u → AffordsList m hs us u) → AffordsList m (gs ++ hs) ws s
    both [] ws s h k = k ws s (refl, refl)
    both (gate_known b ∷ gs) ws s h k = both gs _ s h k
    both (gate_not i ∷ gs) ws s h k = λ a p. both gs _ s (h a p) (λ us u q. k us u (a, p, q))
    both (gate_xor i j ∷ gs) ws s h k = λ a b p q. both gs _ s (h a b p q) (λ us u r. k us u (a, b, p, q, r))
    both (gate_and i j ∷ gs) ws s h k = λ a b p q. ((h a b p q).0, λ w u g. both gs _ u ((h a b p q).1 w u g) (λ us v r. k us v (a, b, w, u, p, q, g, r)))
