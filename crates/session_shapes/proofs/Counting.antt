-- The gates of each entry have as many ANDs as the table says.
use Rattle.std.proofs.Common.{◌≡◌, refl}
use Rattle.std.specs.Prelude.{IsTrue}
use Rattle.oc_values.specs.declared.integers.IntKind.{IntKind}
use Rattle.oc_values.specs.declared.integers.IntKind.TheVariants.{Bool as KBool, I8, U8, I16, U16, I32, U32, I64, U64}
use Rattle.oc_values.specs.Integers.{width, is_signed, shift_amount}
use Rattle.word_circuits.specs.Widths.{is_width}
use Rattle.word_circuits.specs.Fragments.Operation.{op_select, op_shift_known}
use Rattle.word_circuits.specs.Operators.{binary, unary, conversion}
use Rattle.word_circuits.proofs.Operating.{has_ands}
use Rattle.oc_meanings.specs.Events.{Entry, Feed, Op, One, Turn, ShiftBy, Pick, Reveal, Give, Print}
use Rattle.session_shapes.specs.Gates.{word_event, event_ands, goes_left}
use Rattle.session_shapes.specs.Laws.{ands_made}

width_is : (k : IntKind) → IsTrue (is_width (width k))
width_is KBool = refl
width_is I8 = refl
width_is U8 = refl
width_is I16 = refl
width_is U16 = refl
width_is I32 = refl
width_is U32 = refl
width_is I64 = refl
width_is U64 = refl

pub have : (e : Entry) → ands_made (word_event e) ≡ event_ands (word_event e)
have (Op op k x y) = has_ands (binary op (is_signed k)) (width k) (width_is k)
have (One op k x) = has_ands (unary op) (width k) (width_is k)
have (Turn from to x) = has_ands (conversion from to) (width from) (width_is from)
have (ShiftBy op k x n) = has_ands (op_shift_known (shift_amount (width k) n) (goes_left op) (is_signed k)) (width k) (width_is k)
have (Pick k e new old) = has_ands op_select (width k) (width_is k)
have (Feed party k i) = refl
have (Reveal k x) = refl
have (Give party k x) = refl
have (Print bytes) = refl
