-- The gates of an event: an operation of words, its width, and how many ANDs it has.
use Rattle.std.specs.Prelude.{ℕ, Bool, true, false, Option, Some, None}
use Rattle.oc_values.specs.declared.integers.BinaryOp.{BinaryOp}
use Rattle.oc_values.specs.declared.integers.BinaryOp.TheVariants.{Shl}
use Rattle.oc_values.specs.Integers.{width, is_signed, shift_amount}
use Rattle.word_circuits.specs.Fragments.{Operation, ands_of, word_op}
use Rattle.word_circuits.specs.Fragments.Operation.{op_select, op_shift_known}
use Rattle.word_circuits.specs.Operators.{binary, unary, conversion}
use Rattle.oc_meanings.specs.Events.{Entry, Feed, Op, One, Turn, ShiftBy, Pick, Reveal, Give, Print}

-- an operation on words of so many wires
pub record WordEvent : Type 0 where
  pub operation : Operation
  pub width : ℕ

-- whether a shift goes left
abbrev pub goes_left : BinaryOp → Bool
goes_left Shl = true
goes_left _ = false

-- the operation that an entry's gates perform, where a public amount counts modulo the width; a feed, a reveal, a result and a print have none
abbrev pub word_event : Entry → Option WordEvent
word_event (Op op k x y) = Some (record { operation = binary op (is_signed k); width = width k })
word_event (One op k x) = Some (record { operation = unary op; width = width k })
word_event (Turn from to x) = Some (record { operation = conversion from to; width = width from })
word_event (ShiftBy op k x n) = Some (record { operation = op_shift_known (shift_amount (width k) n) (goes_left op) (is_signed k); width = width k })
word_event (Pick k e new old) = Some (record { operation = op_select; width = width k })
word_event (Feed party k i) = None
word_event (Reveal k x) = None
word_event (Give party k x) = None
word_event (Print bytes) = None

-- how many ANDs an operation has
abbrev pub event_ands : Option WordEvent → ℕ
event_ands None = 0
event_ands (Some e) = ands_of (word_op e.operation) e.width

-- how many ANDs an entry has
abbrev pub ands : Entry → ℕ
ands e = event_ands (word_event e)
