-- Comparisons that are others, turned.
use Rattle.std.proofs.Common.{◌≡◌, ℕ, ◌-◌, ◌<◌, Bool, true, false, not, ◌-ℤ◌, int_lt, List, [], ◌∷◌, ◌++◌, length, take, drop, refl, ap, ◌∙◌, sym, arith, inr}
use Rattle.gate_core.specs.Circuit.{Circuit, then}
use Rattle.gate_core.proofs.Relating.{truth, Same, Costs}
use Rattle.gate_core.specs.Relations.{All2}
use Rattle.gate_core.proofs.Playing.{Costs-then, truth-then, truth-costs}
use Rattle.gate_core.proofs.Pairs.{Same-then, All2-at, All2-take, All2-drop}
use Rattle.oc_values.specs.Integers.{number_of, is_zero}
use Rattle.word_circuits.specs.Integers.{number}
use Rattle.word_circuits.specs.Chains.{less_circuit, equal_circuit, to_bool_circuit, other_word}
use Rattle.word_circuits.specs.Fragments.{circuit}
use Rattle.word_circuits.specs.Fragments.Operation.{op_less_equal, op_greater, op_greater_equal, op_unequal, op_is_zero, op_copy}
use Rattle.word_circuits.proofs.Calling.{Uniform, Counted, apart}
use Rattle.word_circuits.proofs.AddingPairs.{Same-less, Same-equal, Same-to_bool}
use Rattle.word_circuits.proofs.Comparing.{Costs-less, Costs-equal, Costs-to_bool}
use Rattle.word_circuits.proofs.Summing.{half_front, half_back}
use Rattle.word_circuits.proofs.Totals.{integer-less, integer-equal, integer-to_bool}

Same-other : {V W : Type 0} (R : V → W → Type 0) (c : Circuit V (List V)) (k : Circuit W (List W)) (d : V) (e : W) → R d e → Same R All2 c k → Same R All2 (then c (other_word d)) (then k (other_word e))
Same-other R c k d e hd h = Same-then All2 All2 R c k (other_word d) (other_word e) h (λ P up a b q. (All2-at P a b d e 0 (up d e hd) q, λ v w. (inr (refl, refl), tt)))

Costs-other : {W : Type 0} (n : ℕ) (c : Circuit W (List W)) (d : W) → Costs (λ (l : List W). length l ≡ 1) n c → Costs (λ (l : List W). length l ≡ 1) n (then c (other_word d))
Costs-other {W} n c d h = Costs-then (λ (l : List W). length l ≡ 1) (λ (l : List W). length l ≡ 1) n 0 n c (other_word d) (omega arith) h (λ a q r. (refl, refl))

number-turned : (d : Bool) (r : List Bool) (b : Bool) → length r ≡ 1 → number false r ≡ number_of b → number false (truth (other_word d r)) ≡ number_of (not b)
number-turned d [] b l e = absurd (omega (arith, l))
number-turned d (x ∷ y ∷ r) b l e = absurd (omega (arith, l))
number-turned d (true ∷ []) true l e = refl
number-turned d (false ∷ []) false l e = refl
number-turned d (true ∷ []) false l e = absurd (cc)
number-turned d (false ∷ []) true l e = absurd (cc)

-- the integer of a turned word of one wire
number-other : (c : Circuit Bool (List Bool)) (d : Bool) (n : ℕ) (b : Bool) → Costs (λ (l : List Bool). length l ≡ 1) n c → number false (truth c) ≡ number_of b
    → number false (truth (then c (other_word d))) ≡ number_of (not b)
number-other c d n b h e = ap (number false) (truth-then c (other_word d)) ∙ number-turned d (truth c) b (truth-costs (λ (l : List Bool). length l ≡ 1) n c h) e

pub Uniform-less_equal : (signed : Bool) (w : ℕ) → Uniform (op_less_equal signed) w
Uniform-less_equal signed w V W R d e xs ys h k = Same-other R (less_circuit signed w (drop w xs) (take w xs)) (less_circuit signed w (drop w ys) (take w ys)) d e h
    (Same-less R signed w _ _ _ _ (All2-drop R w xs ys k) (All2-take R w xs ys k))

pub Uniform-greater : (signed : Bool) (w : ℕ) → Uniform (op_greater signed) w
Uniform-greater signed w V W R d e xs ys h k = Same-less R signed w _ _ _ _ (All2-drop R w xs ys k) (All2-take R w xs ys k)

pub Uniform-greater_equal : (signed : Bool) (w : ℕ) → Uniform (op_greater_equal signed) w
Uniform-greater_equal signed w V W R d e xs ys h k = Same-other R (less_circuit signed w (take w xs) (drop w xs)) (less_circuit signed w (take w ys) (drop w ys)) d e h
    (Same-less R signed w _ _ _ _ (All2-take R w xs ys k) (All2-drop R w xs ys k))

pub Uniform-unequal : (w : ℕ) → Uniform op_unequal w
Uniform-unequal w V W R d e xs ys h k = Same-other R (equal_circuit w (take w xs) (drop w xs) d) (equal_circuit w (take w ys) (drop w ys) e) d e h
    (Same-equal R w _ _ _ _ d e (All2-take R w xs ys k) (All2-drop R w xs ys k) h)

pub Uniform-is_zero : (w : ℕ) → Uniform op_is_zero w
Uniform-is_zero w V W R d e xs ys h k = Same-other R (to_bool_circuit w xs d) (to_bool_circuit w ys e) d e h (Same-to_bool R w xs ys d e k h)

pub Uniform-copy : (w : ℕ) → Uniform op_copy w
Uniform-copy w V W R d e xs ys h k = k

pub Counted-less_equal : (signed : Bool) (w : ℕ) → 0 < w → Counted (op_less_equal signed) w
Counted-less_equal signed w pos W d xs e = Costs-other w (less_circuit signed w (drop w xs) (take w xs)) d (Costs-less signed w (drop w xs) (take w xs) pos (half_back xs w e) (half_front xs w e))

pub Counted-greater : (signed : Bool) (w : ℕ) → 0 < w → Counted (op_greater signed) w
Counted-greater signed w pos W d xs e = Costs-less signed w (drop w xs) (take w xs) pos (half_back xs w e) (half_front xs w e)

pub Counted-greater_equal : (signed : Bool) (w : ℕ) → 0 < w → Counted (op_greater_equal signed) w
Counted-greater_equal signed w pos W d xs e = Costs-other w (less_circuit signed w (take w xs) (drop w xs)) d (Costs-less signed w (take w xs) (drop w xs) pos (half_front xs w e) (half_back xs w e))

pub Counted-unequal : (w : ℕ) → Counted op_unequal w
Counted-unequal w W d xs e = Costs-other (w - 1) (equal_circuit w (take w xs) (drop w xs) d) d (Costs-equal w (take w xs) (drop w xs) d)

pub Counted-is_zero : (w : ℕ) → Counted op_is_zero w
Counted-is_zero w W d xs e = Costs-other (w - 1) (to_bool_circuit w xs d) d (Costs-to_bool w xs d)

pub Counted-copy : (w : ℕ) → Counted op_copy w
Counted-copy w W d xs e = (refl, e)

less_core : (signed : Bool) (w : ℕ) → 0 < w → (p q : List Bool) → length p ≡ w → length q ≡ w
    → number false (truth (less_circuit signed w p q)) ≡ number_of (int_lt (number signed p) (number signed q))
less_core signed w some p q lp lq =
    sym (ap (λ (c : Circuit Bool (List Bool)). number false (truth c)) (apart (λ x y. less_circuit signed w x y) p q w lp)) ∙ integer-less signed w some p q lp lq

pub integer-greater : (d signed : Bool) (w : ℕ) → 0 < w → (p q : List Bool) → length p ≡ w → length q ≡ w
    → number false (truth (circuit (op_greater signed) w d (p ++ q))) ≡ number_of (int_lt (number signed q) (number signed p))
integer-greater d signed w some p q lp lq =
    ap (λ (c : Circuit Bool (List Bool)). number false (truth c)) (apart (λ x y. less_circuit signed w y x) p q w lp) ∙ less_core signed w some q p lq lp

pub integer-less_equal : (d signed : Bool) (w : ℕ) → 0 < w → (p q : List Bool) → length p ≡ w → length q ≡ w
    → number false (truth (circuit (op_less_equal signed) w d (p ++ q))) ≡ number_of (not (int_lt (number signed q) (number signed p)))
integer-less_equal d signed w some p q lp lq =
    ap (λ (c : Circuit Bool (List Bool)). number false (truth c)) (apart (λ x y. then (less_circuit signed w y x) (other_word d)) p q w lp)
    ∙ number-other (less_circuit signed w q p) d w _ (Costs-less signed w q p some lq lp) (less_core signed w some q p lq lp)

pub integer-greater_equal : (d signed : Bool) (w : ℕ) → 0 < w → (p q : List Bool) → length p ≡ w → length q ≡ w
    → number false (truth (circuit (op_greater_equal signed) w d (p ++ q))) ≡ number_of (not (int_lt (number signed p) (number signed q)))
integer-greater_equal d signed w some p q lp lq =
    ap (λ (c : Circuit Bool (List Bool)). number false (truth c)) (apart (λ x y. then (less_circuit signed w x y) (other_word d)) p q w lp)
    ∙ number-other (less_circuit signed w p q) d w _ (Costs-less signed w p q some lp lq) (less_core signed w some p q lp lq)

pub integer-unequal : (d signed : Bool) (w : ℕ) → 0 < w → (p q : List Bool) → length p ≡ w → length q ≡ w
    → number false (truth (circuit op_unequal w d (p ++ q))) ≡ number_of (not (is_zero (number signed p -ℤ number signed q)))
integer-unequal d signed w some p q lp lq =
    ap (λ (c : Circuit Bool (List Bool)). number false (truth c)) (apart (λ x y. then (equal_circuit w x y d) (other_word d)) p q w lp)
    ∙ number-other (equal_circuit w p q d) d (w - 1) _ (Costs-equal w p q d)
    (sym (ap (λ (c : Circuit Bool (List Bool)). number false (truth c)) (apart (λ x y. equal_circuit w x y d) p q w lp)) ∙ integer-equal d signed w some p q lp lq)

not_not : (b : Bool) → not (not b) ≡ b
not_not true = refl
not_not false = refl

pub integer-is_zero : (d signed : Bool) (w : ℕ) → 0 < w → (p : List Bool) → length p ≡ w
    → number false (truth (circuit op_is_zero w d p)) ≡ number_of (is_zero (number signed p))
integer-is_zero d signed w some p lp =
    number-other (to_bool_circuit w p d) d (w - 1) _ (Costs-to_bool w p d) (integer-to_bool d signed w some p lp) ∙ ap number_of (not_not (is_zero (number signed p)))
