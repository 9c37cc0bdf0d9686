-- What the calls of sums, differences and comparisons owe.
use Rattle.std.proofs.Common.{◌≡◌, ℕ, ◌+◌, ◌<◌, Bool, List, length, take, drop, arith}
use Rattle.std.proofs.lemmas.List.{length-drop, length-take-le}
use Rattle.gate_core.proofs.Pairs.{All2-take, All2-drop}
use Rattle.word_circuits.specs.Fragments.Operation.{op_add, op_subtract, op_negate, op_less, op_equal, op_to_bool}
use Rattle.word_circuits.proofs.Adding.{Costs-add, Costs-subtract}
use Rattle.word_circuits.proofs.Comparing.{Costs-less, Costs-equal, Costs-to_bool}
use Rattle.word_circuits.proofs.AddingPairs.{Same-add, Same-subtract, Same-negate, Same-less, Same-equal, Same-to_bool}
use Rattle.word_circuits.proofs.Calling.{Uniform, Counted}

pub Uniform-add : (w : ℕ) → Uniform op_add w
Uniform-add w V W R d e xs ys h k = Same-add R w _ _ _ _ (All2-take R w xs ys k) (All2-drop R w xs ys k)

pub Uniform-subtract : (w : ℕ) → Uniform op_subtract w
Uniform-subtract w V W R d e xs ys h k = Same-subtract R w _ _ _ _ (All2-take R w xs ys k) (All2-drop R w xs ys k)

pub Uniform-negate : (w : ℕ) → Uniform op_negate w
Uniform-negate w V W R d e xs ys h k = Same-negate R w xs ys k

pub Uniform-less : (signed : Bool) (w : ℕ) → Uniform (op_less signed) w
Uniform-less signed w V W R d e xs ys h k = Same-less R signed w _ _ _ _ (All2-take R w xs ys k) (All2-drop R w xs ys k)

pub Uniform-equal : (w : ℕ) → Uniform op_equal w
Uniform-equal w V W R d e xs ys h k = Same-equal R w _ _ _ _ d e (All2-take R w xs ys k) (All2-drop R w xs ys k) h

pub Uniform-to_bool : (w : ℕ) → Uniform op_to_bool w
Uniform-to_bool w V W R d e xs ys h k = Same-to_bool R w xs ys d e k h

-- the halves of the wires of two words
pub half_front : {W : Type 0} (xs : List W) (w : ℕ) → length xs ≡ w + w → length (take w xs) ≡ w
half_front xs w e = length-take-le w xs (omega (arith, e))

pub half_back : {W : Type 0} (xs : List W) (w : ℕ) → length xs ≡ w + w → length (drop w xs) ≡ w
half_back xs w e = let l = length-drop w xs in omega (arith, l, e)

pub Counted-add : (w : ℕ) → 0 < w → Counted op_add w
Counted-add w pos W d xs e = Costs-add w (take w xs) (drop w xs) pos

pub Counted-subtract : (w : ℕ) → 0 < w → Counted op_subtract w
Counted-subtract w pos W d xs e = Costs-subtract w (take w xs) (drop w xs) pos

pub Counted-negate : (w : ℕ) → 0 < w → Counted op_negate w
Counted-negate w pos W d xs e = λ low. Costs-subtract w _ xs pos

pub Counted-less : (signed : Bool) (w : ℕ) → 0 < w → Counted (op_less signed) w
Counted-less signed w pos W d xs e = Costs-less signed w (take w xs) (drop w xs) pos (half_front xs w e) (half_back xs w e)

pub Counted-equal : (w : ℕ) → Counted op_equal w
Counted-equal w W d xs e = Costs-equal w (take w xs) (drop w xs) d

pub Counted-to_bool : (w : ℕ) → Counted op_to_bool w
Counted-to_bool w W d xs e = Costs-to_bool w xs d
