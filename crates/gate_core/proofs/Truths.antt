-- Wires of gates that were played stand for the truth of the operands' bits.
use Rattle.std.proofs.Common.{◌≡◌, ◌<◌, ℕ, zero, suc, Bool, false, not, ◌&&◌, List, [], ◌∷◌, length, get_or, refl, ap, ◌∙◌, sym, subst, arith}
use Rattle.std.specs.Bool.{⊤}
use Rattle.gate_core.specs.Circuit.{Circuit, Calls, Plays, xor}
use Rattle.gate_core.proofs.Relating.{truth, Same, Costs}
use Rattle.gate_core.specs.Circuit.Circuit.{give, known, flip, join, meet}
use Rattle.gate_core.specs.Laws.{Laws}
use Rattle.gate_core.specs.Relations.{All2}
use Rattle.gate_core.specs.GateList.{Gate, gate_known, gate_not, gate_xor, gate_and, At, PlaysList, PlaysGates, gates_of, numbers}
use Rattle.gate_core.specs.Wiring.{bits, read_gates, wires_at, truth_of, ands_in, StandsForTruth}
use Rattle.gate_core.proofs.Pairs.{All2-up, All2-push}
use Rattle.gate_core.proofs.Numbered.{Plays-gates}

all_at : {W : Type 0} (R : W → Bool → Type 0) (ws : List W) (bs : List Bool) (i : ℕ) (w : W) → All2 R ws bs → At ws i w → R w (get_or bs i false)
all_at R [] bs i w h a = absurd (let q : i < 0 = a.0 in omega (arith, q))
all_at R (v ∷ ws) [] i w h a = absurd h
all_at R (v ∷ ws) (b ∷ bs) zero w h a = subst (λ x. R x b) a.1 h.0
all_at R (v ∷ ws) (b ∷ bs) (suc i) w h a = let q : i < length ws = (let p = a.0 in omega (arith, p)) in all_at R ws bs i w h.1 (q, a.1)

module _ {S W : Type 0} (m : Calls S W) (stands : S → W → Bool → Type 0) (law : Laws m stands) where
  list_stands : (gs : List Gate) (ws : List W) (bs : List Bool) (s t : S) (vs : List W)
      → PlaysList m gs ws s vs t → All2 (stands s) ws bs → All2 (stands t) vs (read_gates bits gs bs tt).0
  list_stands [] ws bs s t vs p h = subst (λ k. All2 (stands k) vs bs) p.1 (subst (λ l. All2 (stands s) l bs) p.0 h)
  list_stands (gate_known b ∷ gs) ws bs s t vs p h = list_stands gs _ _ s t vs p (All2-push (stands s) ws bs _ b h (law.known_stands s b))
  list_stands (gate_not i ∷ gs) ws bs s t vs p h =
      list_stands gs _ _ s t vs p.2 (All2-push (stands s) ws bs _ _ h (law.not_stands s _ _ (all_at (stands s) ws bs i p.0 h p.1)))
  list_stands (gate_xor i j ∷ gs) ws bs s t vs p h =
      list_stands gs _ _ s t vs p.4 (All2-push (stands s) ws bs _ _ h (law.xor_stands s _ _ _ _ (all_at (stands s) ws bs i p.0 h p.2) (all_at (stands s) ws bs j p.1 h p.3)))
  list_stands (gate_and i j ∷ gs) ws bs s t vs p h =
      let u = p.3 in
      list_stands gs _ _ u t vs p.7 (All2-push (stands u) ws bs _ _ (All2-up (stands s) (stands u) ws bs (λ w b. law.and_keeps s u _ _ _ w b p.6) h)
      (law.and_stands s u _ _ _ _ _ p.6 (all_at (stands s) ws bs i p.0 h p.4) (all_at (stands s) ws bs j p.1 h p.5)))

  answer_stands : (t : S) (vs : List W) (cs : List Bool) → All2 (stands t) vs cs → (r : List W) (is : List ℕ) → All2 (λ w i. At vs i w) r is → All2 (stands t) r (wires_at bits cs tt is)
  answer_stands t vs cs h [] [] a = tt
  answer_stands t vs cs h [] (i ∷ is) a = absurd a
  answer_stands t vs cs h (w ∷ r) [] a = absurd a
  answer_stands t vs cs h (w ∷ r) (i ∷ is) a = (all_at (stands t) vs cs i w h a.0, answer_stands t vs cs h r is a.1)

  pub stands_for_truth : StandsForTruth m stands
  unfolding PlaysGates
  stands_for_truth f ws r bs s t p h = answer_stands t p.0 (read_gates bits f.0 bs tt).0 (list_stands f.0 ws bs s t p.0 p.1 h) r f.1 p.2

-- the calls of wires that are bits, where no state is
abbrev bit_calls : Calls ⊤ Bool
bit_calls = record { known_wire = λ s b. b; xor_wire = λ s a b. xor a b; not_wire = λ s a. not a; and_is = λ s a b w t. w ≡ (a && b); has_room = λ s a b. ⊤ }

bit_laws : Laws bit_calls (λ (s : ⊤) (w x : Bool). w ≡ x)
bit_laws = record {
  known_stands = λ s x. refl;
  not_stands = λ s a x h. ap not h;
  xor_stands = λ s a b x y h k. ap (λ v. xor v b) h ∙ ap (λ v. xor x v) k;
  and_stands = λ s t a b w x y g h k. g ∙ ap (λ v. v && b) h ∙ ap (λ v. x && v) k;
  and_keeps = λ s t a b w v x g h. h;
  and_known = λ s t a b w x g. refl;
}

truth_played : {A : Type 0} (c : Circuit Bool A) → Plays bit_calls c tt (truth c) tt
truth_played (give a) = (refl, refl)
truth_played (known b k) = truth_played (k b)
truth_played (flip x k) = truth_played (k (not x))
truth_played (join x y k) = truth_played (k (xor x y))
truth_played (meet x y k) = (x && y, tt, refl, truth_played (k (x && y)))

all_equal : (xs ys : List Bool) → All2 (λ (x y : Bool). x ≡ y) xs ys → xs ≡ ys
all_equal [] [] h = refl
all_equal [] (y ∷ ys) h = absurd h
all_equal (x ∷ xs) [] h = absurd h
all_equal (x ∷ xs) (y ∷ ys) h = ap (λ b. b ∷ xs) h.0 ∙ ap (λ l. y ∷ l) (all_equal xs ys h.1)

all_same : (xs : List Bool) → All2 (λ (x y : Bool). x ≡ y) xs xs
all_same [] = tt
all_same (x ∷ xs) = (refl, all_same xs)

-- the truth of a circuit is that of its list of gates
pub truth-gates : (c : Circuit Bool (List Bool)) (d : Circuit ℕ (List ℕ)) (bs : List Bool) (n : ℕ)
    → n ≡ length bs → ((R : Bool → ℕ → Type 0) → All2 R bs (numbers 0 n) → Same R All2 c d) → truth_of (gates_of n d) bs ≡ truth c
truth-gates c d bs n e same =
    sym (all_equal (truth c) (truth_of (gates_of n d) bs) (stands_for_truth bit_calls (λ (s : ⊤) (w x : Bool). w ≡ x) bit_laws (gates_of n d) bs (truth c) bs tt tt
    (Plays-gates bit_calls c d bs n tt tt (truth c) e same (truth_played c)) (all_same bs)))

-- and it has as many ANDs as the circuit costs
pub ands-gates : {A : Type 0} (Q : A → Type 0) (k n : ℕ) (c : Circuit ℕ A) → Costs Q k c → ands_in (gates_of n c).0 ≡ k
ands-gates Q k n (give a) h = sym h.0
ands-gates Q k n (known b c) h = ands-gates Q k (suc n) (c n) (h n)
ands-gates Q k n (flip x c) h = ands-gates Q k (suc n) (c n) (h n)
ands-gates Q k n (join x y c) h = ands-gates Q k (suc n) (c n) (h n)
ands-gates Q k n (meet x y c) h = (let r = ands-gates Q h.0 (suc n) (c n) (h.2 n) in let e = h.1 in omega (arith, r, e))
