-- The circuits of the language's operators on hidden words, and what they give of its integers.
use Rattle.std.specs.Prelude.{◌≡◌, ℕ, ◌%◌, ℤ, Bool, true, false, if◌then◌else◌, IsTrue, List, ◌∷◌, ◌++◌, length}
use Rattle.gate_core.specs.Wiring.{truth_of, ands_in}
use Rattle.oc_values.specs.declared.integers.IntKind.{IntKind}
use Rattle.oc_values.specs.declared.integers.IntKind.TheVariants.{Bool as KBool, I8, U8, I16, U16, I32, U32, I64, U64}
use Rattle.oc_values.specs.declared.integers.BinaryOp.{BinaryOp}
use Rattle.oc_values.specs.declared.integers.BinaryOp.TheVariants.{Add, Sub, Mul, Div, Rem, Shl, Shr, And, Or, Xor, Less, LessEq, Greater, GreaterEq, Equal, NotEqual}
use Rattle.oc_values.specs.declared.integers.OneOp.{OneOp}
use Rattle.oc_values.specs.declared.integers.OneOp.TheVariants.{Neg, Plus, Not, Flip}
use Rattle.oc_values.specs.Integers.{width, is_signed, operate, convert, wrap}
use Rattle.oc_values.specs.Kinds.{is_shift, result_kind, operate_one}
use Rattle.word_circuits.specs.Widths.{is_width}
use Rattle.word_circuits.specs.Integers.{number, shift}
use Rattle.word_circuits.specs.Fragments.{Operation, inputs, outputs, fragment, ands_of, word_op}
use Rattle.word_circuits.specs.Fragments.Operation.{op_add, op_subtract, op_negate, op_multiply, op_quotient, op_remainder, op_less, op_less_equal, op_greater, op_greater_equal, op_equal, op_unequal, op_to_bool, op_is_zero, op_meet, op_either, op_differ, op_flip, op_select, op_shift_known, op_shift_word, op_resize, op_copy}

-- the operation of an operator on two words, with a sign or without
abbrev pub binary : BinaryOp → Bool → Operation
binary Add signed = op_add
binary Sub signed = op_subtract
binary Mul signed = op_multiply
binary Div signed = op_quotient signed
binary Rem signed = op_remainder signed
binary Shl signed = op_shift_word true signed
binary Shr signed = op_shift_word false signed
binary And signed = op_meet
binary Or signed = op_either
binary Xor signed = op_differ
binary Less signed = op_less signed
binary LessEq signed = op_less_equal signed
binary Greater signed = op_greater signed
binary GreaterEq signed = op_greater_equal signed
binary Equal signed = op_equal
binary NotEqual signed = op_unequal

-- the operation of an operator on one word
abbrev pub unary : OneOp → Operation
unary Neg = op_negate
unary Plus = op_copy
unary Not = op_is_zero
unary Flip = op_flip

-- the operation of a conversion from a kind to another
abbrev pub conversion : IntKind → IntKind → Operation
conversion k KBool = op_to_bool
conversion k I8 = op_resize 8 (is_signed k)
conversion k U8 = op_resize 8 (is_signed k)
conversion k I16 = op_resize 16 (is_signed k)
conversion k U16 = op_resize 16 (is_signed k)
conversion k I32 = op_resize 32 (is_signed k)
conversion k U32 = op_resize 32 (is_signed k)
conversion k I64 = op_resize 64 (is_signed k)
conversion k U64 = op_resize 64 (is_signed k)

-- the kind of a hidden result of an operator on one word
abbrev pub unary_kind : OneOp → IntKind → IntKind
unary_kind Not k = KBool
unary_kind _ k = k

-- the integer that the answer of an operation stands for as a value of a kind, where its operands' wires have these bits
abbrev pub answered : Operation → ℕ → IntKind → List Bool → ℤ
answered op w k bs = number (is_signed k) (truth_of (fragment op w) bs)

-- every operator on two words of a kind gives the language's integer; a shift's amount may have a sign of its own
abbrev pub BinaryMeans : Type 0
BinaryMeans = (op : BinaryOp) (k : IntKind) (amount : Bool) (p q : List Bool) → length p ≡ width k → length q ≡ width k
    → answered (binary op (is_signed k)) (width k) (result_kind op k) (p ++ q)
    ≡ operate op k (number (is_signed k) p) (number (if is_shift op then amount else is_signed k) q)

-- every operator on one word of a kind gives the language's integer
abbrev pub UnaryMeans : Type 0
UnaryMeans = (op : OneOp) (k : IntKind) (p : List Bool) → length p ≡ width k
    → answered (unary op) (width k) (unary_kind op k) p ≡ operate_one op k (number (is_signed k) p)

-- every conversion of a word of a kind gives the language's integer
abbrev pub ConversionMeans : Type 0
ConversionMeans = (k l : IntKind) (p : List Bool) → length p ≡ width k
    → answered (conversion k l) (width k) l p ≡ convert (number (is_signed k) p) l

-- a choice between two words of a kind gives the one where the bit is true, and else the other
abbrev pub ChoiceMeans : Type 0
ChoiceMeans = (k : IntKind) (c : Bool) (p q : List Bool) → length p ≡ width k → length q ≡ width k
    → answered op_select (width k) k (c ∷ (p ++ q)) ≡ (if c then number (is_signed k) p else number (is_signed k) q)

-- a shift by an amount that is known to all gives the integer, moved by the amount modulo the width
abbrev pub KnownShiftMeans : Type 0
KnownShiftMeans = (k : IntKind) (amount : ℕ) (left : Bool) (p : List Bool) → length p ≡ width k
    → answered (op_shift_known amount left (is_signed k)) (width k) k p ≡ wrap k (shift left (number (is_signed k) p) (amount % width k))

-- the list of gates of an operation has as many ANDs as the table says
abbrev pub HasAnds : Operation → ℕ → Type 0
HasAnds op w = IsTrue (is_width w) → ands_in (fragment op w).0 ≡ ands_of (word_op op) w

-- and as many wires in its answer as it says, whatever its operands' bits
abbrev pub HasWidth : Operation → ℕ → Type 0
HasWidth op w = IsTrue (is_width w) → (bs : List Bool) → length bs ≡ inputs op w → length (truth_of (fragment op w) bs) ≡ outputs op w
