-- The integers of sums, differences and comparisons.
use Rattle.std.proofs.Common.{◌≡◌, ℕ, zero, suc, ◌+◌, ◌*◌, ◌-◌, ◌%◌, ◌^◌, ◌<◌, ◌≤◌, nat_lt, Bool, true, false, not, cond, ℤ, pos, negsuc, neg_ℤ, ◌+ℤ◌, ◌-ℤ◌, int_lt, List, [], ◌∷◌, ◌++◌, length, refl, ap, ◌∙◌, sym, arith}
use Rattle.std.proofs.lemmas.Int.{ints}
use Rattle.std.proofs.lemmas.Bool.{lt-ltb, le-ltb}
use Rattle.std.proofs.lemmas.Nat.{pow_pos}
use Rattle.gate_core.specs.Circuit.{Circuit}
use Rattle.gate_core.proofs.Relating.{truth}
use Rattle.oc_values.specs.Integers.{residue, value_of_bits, wrap_bits, is_zero, number_of}
use Rattle.word_circuits.specs.Integers.{number, bit, value}
use Rattle.word_circuits.specs.Chains.{add_circuit, subtract_circuit, negate_circuit, less_circuit, equal_circuit}
use Rattle.word_circuits.specs.Fragments.{circuit}
use Rattle.word_circuits.specs.Fragments.Operation.{op_add, op_subtract, op_negate, op_less, op_equal, op_to_bool}
use Rattle.word_circuits.proofs.Values.{value-below}
use Rattle.word_circuits.proofs.Whole.{residue-value, residue-add, residue-sub, residue-neg}
use Rattle.word_circuits.proofs.Adding.{Sums-mod, truth-sums}
use Rattle.word_circuits.proofs.Turning.{truth-subtract, truth-negate}
use Rattle.word_circuits.proofs.Comparing.{Topped, topped, Moved, truth-biased, Orders, truth-less, truth-equal, truth-to_bool}
use Rattle.word_circuits.proofs.Calling.{apart}

-- bits that spell what is left of an integer stand for the integer, wrapped
pub number_wraps : (signed : Bool) (w : ℕ) (r : List Bool) (z : ℤ) → length r ≡ w → value r ≡ residue w z → number signed r ≡ wrap_bits signed w z
number_wraps signed w r z l e = ap (λ n. value_of_bits signed n (value r)) l ∙ ap (λ n. value_of_bits signed w n) e

-- and what is left of an integer that bits stand for is what they spell
pub residue-number : (signed : Bool) (w : ℕ) (p : List Bool) → length p ≡ w → residue w (number signed p) ≡ value p
residue-number signed w p l = ap (λ n. residue w (value_of_bits signed n (value p))) l ∙ residue-value signed w (value p) (value-below p w l)

pub integer-add : (signed : Bool) (w : ℕ) → 0 < w → (p q : List Bool) → length p ≡ w → length q ≡ w
    → number signed (truth (circuit op_add w false (p ++ q))) ≡ wrap_bits signed w (number signed p +ℤ number signed q)
integer-add signed w some p q lp lq =
    let h = truth-sums p q false w some lp lq in
    let e : value p + value q + 0 ≡ residue w (number signed p) + residue w (number signed q) = (let a = residue-number signed w p lp in let b = residue-number signed w q lq in omega (arith, a, b)) in
    ap (λ (c : Circuit Bool (List Bool)). number signed (truth c)) (apart (λ x y. add_circuit w x y) p q w lp)
    ∙ number_wraps signed w (truth (add_circuit w p q)) (number signed p +ℤ number signed q) h.len
    (Sums-mod w _ _ h ∙ ap (λ n. n % 2 ^ w) e ∙ sym (residue-add w (number signed p) (number signed q)))

pub integer-subtract : (signed : Bool) (w : ℕ) → 0 < w → (p q : List Bool) → length p ≡ w → length q ≡ w
    → number signed (truth (circuit op_subtract w false (p ++ q))) ≡ wrap_bits signed w (number signed p -ℤ number signed q)
integer-subtract signed w some p q lp lq =
    let h = truth-subtract p q w some lp lq in
    let a = residue-number signed w p lp in
    let b = residue-number signed w q lq in
    ap (λ (c : Circuit Bool (List Bool)). number signed (truth c)) (apart (λ x y. subtract_circuit w x y) p q w lp)
    ∙ number_wraps signed w (truth (subtract_circuit w p q)) (number signed p -ℤ number signed q) h.0
    (h.1 ∙ ap (λ n. (n + (2 ^ w - value q)) % 2 ^ w) (sym a) ∙ ap (λ n. (residue w (number signed p) + (2 ^ w - n)) % 2 ^ w) (sym b) ∙ sym (residue-sub w (number signed p) (number signed q)))

pub integer-negate : (signed : Bool) (w : ℕ) → 0 < w → (p : List Bool) → length p ≡ w
    → number signed (truth (circuit op_negate w false p)) ≡ wrap_bits signed w (neg_ℤ (number signed p))
integer-negate signed w some p lp =
    let h = truth-negate p w some lp in
    let a = residue-number signed w p lp in
    number_wraps signed w (truth (negate_circuit w p)) (neg_ℤ (number signed p)) h.0
    (h.1 ∙ ap (λ n. (2 ^ w - n) % 2 ^ w) (sym a) ∙ sym (residue-neg w (number signed p)))

-- one bit as a number
pub number-bit : (b : Bool) → number false (b ∷ []) ≡ number_of b
number-bit true = refl
number-bit false = refl

-- a word with a sign, from its top bit
pub signed_from_top : (n h P low : ℕ) (t : Bool) → n ≡ low + h * bit t → low < h → cond (nat_lt n h) (pos n) (pos n -ℤ pos P) ≡ cond t (pos n -ℤ pos P) (pos n)
signed_from_top n h P low true e lt = rw (le-ltb n h (omega (arith, e))) refl
signed_from_top n h P low false e lt = rw (lt-ltb n h (omega (arith, e, lt))) refl

-- once its top bit is turned, its number is larger by half of all
number-moved : (x r : List Bool) (w : ℕ) (t : Bool) (low : ℕ) → length x ≡ w → Topped x w t low → Moved w x t r → number true x +ℤ pos (2 ^ (w - 1)) ≡ pos (value r)
number-moved x r w t low lx h k =
    ap (λ n. value_of_bits true n (value x) +ℤ pos (2 ^ (w - 1))) lx
    ∙ ap (λ z. z +ℤ pos (2 ^ (w - 1))) (signed_from_top (value x) (2 ^ (w - 1)) (2 ^ w) low t h.whole h.below)
    ∙ shifted t (value x) (2 ^ (w - 1)) (2 ^ w) (value r) k.is
  where
    shifted : (t : Bool) (n h P r : ℕ) → r + P * bit t ≡ n + h → cond t (pos n -ℤ pos P) (pos n) +ℤ pos h ≡ pos r
    shifted true n h P r e = omega (arith, ints, e)
    shifted false n h P r e = omega (arith, ints, e)

lt_from : (a b : ℤ) (h X Y : ℕ) (l : Bool) → a +ℤ pos h ≡ pos X → b +ℤ pos h ≡ pos Y → Orders X Y l → l ≡ int_lt a b
lt_from a b h X Y true ea eb o = let q = o.if_true refl in sym (below a b h X Y ea eb q)
  where
    below : (a b : ℤ) (h X Y : ℕ) → a +ℤ pos h ≡ pos X → b +ℤ pos h ≡ pos Y → X < Y → int_lt a b ≡ true
    below a b h X Y ea eb q = grind (arith, ints)
lt_from a b h X Y false ea eb o = let q = o.if_false refl in sym (above a b h X Y ea eb q)
  where
    above : (a b : ℤ) (h X Y : ℕ) → a +ℤ pos h ≡ pos X → b +ℤ pos h ≡ pos Y → Y ≤ X → int_lt a b ≡ false
    above a b h X Y ea eb q = grind (arith, ints)

plus_zero : (n : ℕ) → pos n +ℤ pos 0 ≡ pos n
plus_zero n = omega (arith, ints)

pub integer-less : (signed : Bool) (w : ℕ) → 0 < w → (p q : List Bool) → length p ≡ w → length q ≡ w
    → number false (truth (circuit (op_less signed) w false (p ++ q))) ≡ number_of (int_lt (number signed p) (number signed q))
integer-less true w some p q lp lq =
    let mp = truth-biased p true w some lp in
    let mq = truth-biased q true w some lq in
    let h = truth-less true p q w mp.len mq.len in
    ap (λ (c : Circuit Bool (List Bool)). number false (truth c)) (apart (λ x y. less_circuit true w x y) p q w lp)
    ∙ ap (number false) h.1 ∙ number-bit h.0
    ∙ ap number_of (lt_from (number true p) (number true q) (2 ^ (w - 1)) _ _ h.0 (number-moved p _ w _ _ lp (topped p true w some lp) mp) (number-moved q _ w _ _ lq (topped q true w some lq) mq) h.2)
integer-less false w some p q lp lq =
    let h = truth-less false p q w lp lq in
    ap (λ (c : Circuit Bool (List Bool)). number false (truth c)) (apart (λ x y. less_circuit false w x y) p q w lp)
    ∙ ap (number false) h.1 ∙ number-bit h.0
    ∙ ap number_of (lt_from (number false p) (number false q) 0 (value p) (value q) h.0 (plus_zero (value p)) (plus_zero (value q)) h.2)

same_test : (t u : Bool) → (t ≡ true → u ≡ true) → (u ≡ true → t ≡ true) → t ≡ u
same_test true u h k = sym (h refl)
same_test false true h k = k refl
same_test false false h k = refl

is_zero_true : (z : ℤ) → is_zero z ≡ true → z ≡ pos 0
is_zero_true (pos zero) e = refl
is_zero_true (pos (suc n)) e = absurd (cc)
is_zero_true (negsuc n) e = absurd (cc)

equal_from : (a b : ℤ) → a -ℤ b ≡ pos 0 → a ≡ b
equal_from a b e = omega (arith, ints)

less_self : (a : ℤ) → a -ℤ a ≡ pos 0
less_self a = omega (arith, ints)

pub integer-equal : (d signed : Bool) (w : ℕ) → 0 < w → (p q : List Bool) → length p ≡ w → length q ≡ w
    → number false (truth (circuit op_equal w d (p ++ q))) ≡ number_of (is_zero (number signed p -ℤ number signed q))
integer-equal d signed w some p q lp lq =
    let h = truth-equal p q d w some lp lq in
    let a = number signed p in
    let b = number signed q in
    ap (λ (c : Circuit Bool (List Bool)). number false (truth c)) (apart (λ x y. equal_circuit w x y d) p q w lp)
    ∙ ap (number false) h.1 ∙ number-bit h.0
    ∙ ap number_of (same_test h.0 (is_zero (a -ℤ b))
    (λ e. let ab : a ≡ b = ap (λ n. value_of_bits signed (length p) n) (h.2.if_true e) ∙ ap (λ n. value_of_bits signed n (value q)) (lp ∙ sym lq) in
    ap is_zero (ap (λ z. z -ℤ b) ab ∙ less_self b))
    (λ e. h.2.if_so (sym (residue-number signed w p lp) ∙ ap (residue w) (equal_from a b (is_zero_true (a -ℤ b) e)) ∙ residue-number signed w q lq)))

number-zero : (signed : Bool) (w : ℕ) → value_of_bits signed w 0 ≡ pos 0
number-zero true w = rw (lt-ltb 0 (2 ^ (w - 1)) (pow_pos (w - 1))) refl
number-zero false w = refl

residue-zero : (w : ℕ) → residue w (pos 0) ≡ 0
residue-zero w = residue-value false w 0 (pow_pos w)

pub integer-to_bool : (d signed : Bool) (w : ℕ) → 0 < w → (p : List Bool) → length p ≡ w
    → number false (truth (circuit op_to_bool w d p)) ≡ number_of (not (is_zero (number signed p)))
integer-to_bool d signed w some p lp =
    let h = truth-to_bool p d w some lp in
    let a = number signed p in
    ap (number false) h.1 ∙ number-bit (not h.0)
    ∙ ap (λ b. number_of (not b)) (same_test h.0 (is_zero a)
    (λ e. ap is_zero (ap (λ n. value_of_bits signed (length p) n) (h.2.if_true e) ∙ number-zero signed (length p)))
    (λ e. h.2.if_so (sym (residue-number signed w p lp) ∙ ap (residue w) (is_zero_true a e) ∙ residue-zero w)))
