-- Every operation's gates give the language's integer.
use Rattle.std.proofs.Common.{◌≡◌, ℕ, zero, suc, ◌+◌, ◌<◌, Bool, true, false, cond, IsTrue, ℤ, List, [], ◌∷◌, ◌++◌, length, refl, ap, ◌∙◌, sym, arith, subst}
use Rattle.gate_core.proofs.Relating.{truth}
use Rattle.gate_core.specs.Relations.{All2}
use Rattle.gate_core.specs.GateList.{numbers}
use Rattle.gate_core.specs.Wiring.{truth_of}
use Rattle.gate_core.proofs.Playing.{truth-costs}
use Rattle.gate_core.proofs.Truths.{truth-gates, ands-gates}
use Rattle.oc_values.specs.declared.integers.IntKind.{IntKind}
use Rattle.oc_values.specs.declared.integers.IntKind.TheVariants.{Bool as KBool, I8, U8, I16, U16, I32, U32, I64, U64}
use Rattle.oc_values.specs.declared.integers.BinaryOp.TheVariants.{Add, Sub, Mul, Div, Rem, Shl, Shr, And, Or, Xor, Less, LessEq, Greater, GreaterEq, Equal, NotEqual}
use Rattle.oc_values.specs.declared.integers.OneOp.TheVariants.{Neg, Plus, Not, Flip}
use Rattle.oc_values.specs.Integers.{width, is_signed}
use Rattle.word_circuits.specs.Widths.{is_width}
use Rattle.word_circuits.specs.Integers.{number}
use Rattle.word_circuits.specs.Operators.{BinaryMeans, UnaryMeans, ConversionMeans, ChoiceMeans, KnownShiftMeans, HasAnds, HasWidth}
use Rattle.word_circuits.specs.Fragments.{Operation, inputs, outputs, circuit, fragment, ands_of, word_op}
use Rattle.word_circuits.specs.Fragments.Operation.{op_add, op_subtract, op_negate, op_multiply, op_quotient, op_remainder, op_less, op_less_equal, op_greater, op_greater_equal, op_equal, op_unequal, op_to_bool, op_is_zero, op_meet, op_either, op_differ, op_flip, op_select, op_shift_known, op_shift_word, op_resize, op_copy}
use Rattle.word_circuits.proofs.Calling.{Uniform, Counted, width_pos, length-two}
use Rattle.word_circuits.proofs.Summing.{Uniform-add, Uniform-subtract, Uniform-negate, Uniform-less, Uniform-equal, Uniform-to_bool, Counted-add, Counted-subtract, Counted-negate, Counted-less, Counted-equal, Counted-to_bool}
use Rattle.word_circuits.proofs.Deriving.{Uniform-less_equal, Uniform-greater, Uniform-greater_equal, Uniform-unequal, Uniform-is_zero, Uniform-copy, Counted-less_equal, Counted-greater, Counted-greater_equal, Counted-unequal, Counted-is_zero, Counted-copy}
use Rattle.word_circuits.proofs.Deriving.{integer-greater, integer-less_equal, integer-greater_equal, integer-unequal, integer-is_zero}
use Rattle.word_circuits.proofs.Multiplying.{Uniform-multiply, Counted-multiply, integer-multiply}
use Rattle.word_circuits.proofs.DividingPairs.{Uniform-quotient, Uniform-remainder, Counted-quotient, Counted-remainder}
use Rattle.word_circuits.proofs.Signing.{integer-quotient, integer-remainder}
use Rattle.word_circuits.proofs.Totals.{integer-add, integer-subtract, integer-negate, integer-less, integer-equal, integer-to_bool}
use Rattle.word_circuits.proofs.Shifting.{integer-shift_known, integer-resize}
use Rattle.word_circuits.proofs.Selecting.{Uniform-meet, Uniform-either, Uniform-differ, Uniform-flip, Uniform-select, Uniform-shift_known, Uniform-shift_word, Uniform-resize, Counted-meet, Counted-either, Counted-differ, Counted-flip, Counted-select, Counted-shift_known, Counted-shift_word, Counted-resize}
use Rattle.word_circuits.proofs.Selecting.{integer-meet, integer-either, integer-differ, integer-flip, integer-shift_two, integer-select}

-- every operation is one circuit, whatever its wires are
uniform : (op : Operation) (w : ℕ) → Uniform op w
uniform op_add w = Uniform-add w
uniform op_subtract w = Uniform-subtract w
uniform op_negate w = Uniform-negate w
uniform op_multiply w = Uniform-multiply w
uniform (op_quotient signed) w = Uniform-quotient signed w
uniform (op_remainder signed) w = Uniform-remainder signed w
uniform (op_less signed) w = Uniform-less signed w
uniform (op_less_equal signed) w = Uniform-less_equal signed w
uniform (op_greater signed) w = Uniform-greater signed w
uniform (op_greater_equal signed) w = Uniform-greater_equal signed w
uniform op_equal w = Uniform-equal w
uniform op_unequal w = Uniform-unequal w
uniform op_to_bool w = Uniform-to_bool w
uniform op_is_zero w = Uniform-is_zero w
uniform op_meet w = Uniform-meet w
uniform op_either w = Uniform-either w
uniform op_differ w = Uniform-differ w
uniform op_flip w = Uniform-flip w
uniform op_select w = Uniform-select w
uniform (op_shift_known amount left signed) w = Uniform-shift_known amount left signed w
uniform (op_shift_word left signed) w = Uniform-shift_word left signed w
uniform (op_resize v signed) w = Uniform-resize v signed w
uniform op_copy w = Uniform-copy w

-- and makes the ANDs of the table
counted : (op : Operation) (w : ℕ) → 0 < w → Counted op w
counted op_add w some = Counted-add w some
counted op_subtract w some = Counted-subtract w some
counted op_negate w some = Counted-negate w some
counted op_multiply w some = Counted-multiply w some
counted (op_quotient signed) w some = Counted-quotient signed w some
counted (op_remainder signed) w some = Counted-remainder signed w some
counted (op_less signed) w some = Counted-less signed w some
counted (op_less_equal signed) w some = Counted-less_equal signed w some
counted (op_greater signed) w some = Counted-greater signed w some
counted (op_greater_equal signed) w some = Counted-greater_equal signed w some
counted op_equal w some = Counted-equal w
counted op_unequal w some = Counted-unequal w
counted op_to_bool w some = Counted-to_bool w
counted op_is_zero w some = Counted-is_zero w
counted op_meet w some = Counted-meet w
counted op_either w some = Counted-either w
counted op_differ w some = Counted-differ w
counted op_flip w some = Counted-flip w
counted op_select w some = Counted-select w
counted (op_shift_known amount left signed) w some = Counted-shift_known amount left signed w some
counted (op_shift_word left signed) w some = Counted-shift_word left signed w
counted (op_resize v signed) w some = Counted-resize v signed w
counted op_copy w some = Counted-copy w

head_at : (R : Bool → ℕ → Type 0) (b : Bool) (bs : List Bool) (n : ℕ) → 0 < n → All2 R (b ∷ bs) (numbers 0 n) → R b 0
head_at R b bs zero lt h = absurd (omega (arith, lt))
head_at R b bs (suc n) lt h = h.0

-- the truth of an operation's gates is that of its circuit
truth-fragment : (P : List Bool → Type 0) (op : Operation) (w : ℕ) (bs : List Bool) → 0 < inputs op w → length bs ≡ inputs op w
    → ((d : Bool) → P (truth (circuit op w d bs))) → P (truth_of (fragment op w) bs)
unfolding fragment
truth-fragment P op w [] some len each = absurd (omega (arith, some, len))
truth-fragment P op w (b ∷ bs) some len each =
    subst P (sym (truth-gates (circuit op w b (b ∷ bs)) (circuit op w 0 (numbers 0 (inputs op w))) (b ∷ bs) (inputs op w) (sym len)
    (λ R h. uniform op w Bool ℕ R b 0 (b ∷ bs) (numbers 0 (inputs op w)) (head_at R b bs (inputs op w) some h) h))) (each b)

pub has_ands : (op : Operation) (w : ℕ) → HasAnds op w
unfolding fragment
has_ands op w h = ands-gates (λ (l : List ℕ). length l ≡ outputs op w) (ands_of (word_op op) w) (inputs op w) (circuit op w 0 (numbers 0 (inputs op w)))
    (counted op w (width_pos w h) ℕ 0 (numbers 0 (inputs op w)) (length-numbers 0 (inputs op w)))
  where
    length-numbers : (n k : ℕ) → length (numbers n k) ≡ k
    length-numbers n zero = refl
    length-numbers n (suc k) = ap suc (length-numbers (suc n) k)

inputs_pos : (op : Operation) (w : ℕ) → 0 < w → 0 < inputs op w
inputs_pos op_negate w some = some
inputs_pos op_to_bool w some = some
inputs_pos op_is_zero w some = some
inputs_pos op_flip w some = some
inputs_pos op_select w some = omega arith
inputs_pos (op_shift_known amount left signed) w some = some
inputs_pos (op_resize v signed) w some = some
inputs_pos op_copy w some = some
inputs_pos op_add w some = omega (arith, some)
inputs_pos op_subtract w some = omega (arith, some)
inputs_pos op_multiply w some = omega (arith, some)
inputs_pos (op_quotient signed) w some = omega (arith, some)
inputs_pos (op_remainder signed) w some = omega (arith, some)
inputs_pos (op_less signed) w some = omega (arith, some)
inputs_pos (op_less_equal signed) w some = omega (arith, some)
inputs_pos (op_greater signed) w some = omega (arith, some)
inputs_pos (op_greater_equal signed) w some = omega (arith, some)
inputs_pos op_equal w some = omega (arith, some)
inputs_pos op_unequal w some = omega (arith, some)
inputs_pos op_meet w some = omega (arith, some)
inputs_pos op_either w some = omega (arith, some)
inputs_pos op_differ w some = omega (arith, some)
inputs_pos (op_shift_word left signed) w some = omega (arith, some)

pub has_width : (op : Operation) (w : ℕ) → HasWidth op w
has_width op w h bs len =
    truth-fragment (λ l. length l ≡ outputs op w) op w bs (inputs_pos op w (width_pos w h)) len
    (λ d. truth-costs (λ (l : List Bool). length l ≡ outputs op w) (ands_of (word_op op) w) (circuit op w d bs) (counted op w (width_pos w h) Bool d bs len))

width_some : (k : IntKind) → 0 < width k
width_some KBool = omega arith
width_some I8 = omega arith
width_some U8 = omega arith
width_some I16 = omega arith
width_some U16 = omega arith
width_some I32 = omega arith
width_some U32 = omega arith
width_some I64 = omega arith
width_some U64 = omega arith

width_is : (k : IntKind) → IsTrue (is_width (width k))
width_is KBool = refl
width_is I8 = refl
width_is U8 = refl
width_is I16 = refl
width_is U16 = refl
width_is I32 = refl
width_is U32 = refl
width_is I64 = refl
width_is U64 = refl

-- what an operation on two words gives, from what its circuit gives
two : (op : Operation) (out : Bool) (w : ℕ) (p q : List Bool) (z : ℤ) → 0 < w → inputs op w ≡ w + w → length p ≡ w → length q ≡ w
    → ((d : Bool) → number out (truth (circuit op w d (p ++ q))) ≡ z) → number out (truth_of (fragment op w) (p ++ q)) ≡ z
two op out w p q z some size lp lq each = truth-fragment (λ l. number out l ≡ z) op w (p ++ q) (omega (arith, size, some)) (length-two p q w lp lq ∙ sym size) each

one : (op : Operation) (out : Bool) (w : ℕ) (p : List Bool) (z : ℤ) → 0 < w → inputs op w ≡ w → length p ≡ w
    → ((d : Bool) → number out (truth (circuit op w d p)) ≡ z) → number out (truth_of (fragment op w) p) ≡ z
one op out w p z some size lp each = truth-fragment (λ l. number out l ≡ z) op w p (omega (arith, size, some)) (lp ∙ sym size) each

pub binary_means : BinaryMeans
binary_means Add k a p q lp lq = two op_add (is_signed k) (width k) p q _ (width_some k) refl lp lq (λ d. integer-add (is_signed k) (width k) (width_some k) p q lp lq)
binary_means Sub k a p q lp lq = two op_subtract (is_signed k) (width k) p q _ (width_some k) refl lp lq (λ d. integer-subtract (is_signed k) (width k) (width_some k) p q lp lq)
binary_means Mul k a p q lp lq = two op_multiply (is_signed k) (width k) p q _ (width_some k) refl lp lq (λ d. integer-multiply d (is_signed k) (width k) (width_some k) p q lp lq)
binary_means Div k a p q lp lq = two (op_quotient (is_signed k)) (is_signed k) (width k) p q _ (width_some k) refl lp lq (λ d. integer-quotient d (is_signed k) (width k) (width_some k) p q lp lq)
binary_means Rem k a p q lp lq = two (op_remainder (is_signed k)) (is_signed k) (width k) p q _ (width_some k) refl lp lq (λ d. integer-remainder d (is_signed k) (width k) (width_some k) p q lp lq)
binary_means Shl k a p q lp lq = two (op_shift_word true (is_signed k)) (is_signed k) (width k) p q _ (width_some k) refl lp lq (λ d. integer-shift_two true (is_signed k) a (width k) (width_is k) (width_some k) p q lp lq)
binary_means Shr k a p q lp lq = two (op_shift_word false (is_signed k)) (is_signed k) (width k) p q _ (width_some k) refl lp lq (λ d. integer-shift_two false (is_signed k) a (width k) (width_is k) (width_some k) p q lp lq)
binary_means And k a p q lp lq = two op_meet (is_signed k) (width k) p q _ (width_some k) refl lp lq (λ d. integer-meet d (is_signed k) (width k) (width_some k) p q lp lq)
binary_means Or k a p q lp lq = two op_either (is_signed k) (width k) p q _ (width_some k) refl lp lq (λ d. integer-either d (is_signed k) (width k) (width_some k) p q lp lq)
binary_means Xor k a p q lp lq = two op_differ (is_signed k) (width k) p q _ (width_some k) refl lp lq (λ d. integer-differ d (is_signed k) (width k) (width_some k) p q lp lq)
binary_means Less k a p q lp lq = two (op_less (is_signed k)) false (width k) p q _ (width_some k) refl lp lq (λ d. integer-less (is_signed k) (width k) (width_some k) p q lp lq)
binary_means LessEq k a p q lp lq = two (op_less_equal (is_signed k)) false (width k) p q _ (width_some k) refl lp lq (λ d. integer-less_equal d (is_signed k) (width k) (width_some k) p q lp lq)
binary_means Greater k a p q lp lq = two (op_greater (is_signed k)) false (width k) p q _ (width_some k) refl lp lq (λ d. integer-greater d (is_signed k) (width k) (width_some k) p q lp lq)
binary_means GreaterEq k a p q lp lq = two (op_greater_equal (is_signed k)) false (width k) p q _ (width_some k) refl lp lq (λ d. integer-greater_equal d (is_signed k) (width k) (width_some k) p q lp lq)
binary_means Equal k a p q lp lq = two op_equal false (width k) p q _ (width_some k) refl lp lq (λ d. integer-equal d (is_signed k) (width k) (width_some k) p q lp lq)
binary_means NotEqual k a p q lp lq = two op_unequal false (width k) p q _ (width_some k) refl lp lq (λ d. integer-unequal d (is_signed k) (width k) (width_some k) p q lp lq)

pub unary_means : UnaryMeans
unary_means Neg k p lp = one op_negate (is_signed k) (width k) p _ (width_some k) refl lp (λ d. integer-negate (is_signed k) (width k) (width_some k) p lp)
unary_means Plus k p lp = one op_copy (is_signed k) (width k) p _ (width_some k) refl lp (λ d. refl)
unary_means Not k p lp = one op_is_zero false (width k) p _ (width_some k) refl lp (λ d. integer-is_zero d (is_signed k) (width k) (width_some k) p lp)
unary_means Flip k p lp = one op_flip (is_signed k) (width k) p _ (width_some k) refl lp (λ d. integer-flip d (is_signed k) (width k) (width_some k) p lp)

resized : (k : IntKind) (v : ℕ) (out : Bool) (p : List Bool) (z : ℤ) → length p ≡ width k
    → ((d : Bool) → number out (truth (circuit (op_resize v (is_signed k)) (width k) d p)) ≡ z) → number out (truth_of (fragment (op_resize v (is_signed k)) (width k)) p) ≡ z
resized k v out p z lp each = one (op_resize v (is_signed k)) out (width k) p z (width_some k) refl lp each

pub conversion_means : ConversionMeans
conversion_means k KBool p lp = one op_to_bool false (width k) p _ (width_some k) refl lp (λ d. integer-to_bool d (is_signed k) (width k) (width_some k) p lp)
conversion_means k I8 p lp = resized k 8 true p _ lp (λ d. integer-resize (is_signed k) true 8 (width k) (width_some k) p lp)
conversion_means k U8 p lp = resized k 8 false p _ lp (λ d. integer-resize (is_signed k) false 8 (width k) (width_some k) p lp)
conversion_means k I16 p lp = resized k 16 true p _ lp (λ d. integer-resize (is_signed k) true 16 (width k) (width_some k) p lp)
conversion_means k U16 p lp = resized k 16 false p _ lp (λ d. integer-resize (is_signed k) false 16 (width k) (width_some k) p lp)
conversion_means k I32 p lp = resized k 32 true p _ lp (λ d. integer-resize (is_signed k) true 32 (width k) (width_some k) p lp)
conversion_means k U32 p lp = resized k 32 false p _ lp (λ d. integer-resize (is_signed k) false 32 (width k) (width_some k) p lp)
conversion_means k I64 p lp = resized k 64 true p _ lp (λ d. integer-resize (is_signed k) true 64 (width k) (width_some k) p lp)
conversion_means k U64 p lp = resized k 64 false p _ lp (λ d. integer-resize (is_signed k) false 64 (width k) (width_some k) p lp)

pub choice_means : ChoiceMeans
choice_means k c p q lp lq =
    let w = width k in
    let l = length-two p q w lp lq in
    truth-fragment (λ r. number (is_signed k) r ≡ cond c (number (is_signed k) p) (number (is_signed k) q)) op_select w (c ∷ (p ++ q)) (omega arith) (omega (arith, l))
    (λ d. integer-select d (is_signed k) w c p q lp lq)

pub known_shift_means : KnownShiftMeans
known_shift_means k amount left p lp =
    one (op_shift_known amount left (is_signed k)) (is_signed k) (width k) p _ (width_some k) refl lp (λ d. integer-shift_known left (is_signed k) (width k) amount (width_some k) p lp)
