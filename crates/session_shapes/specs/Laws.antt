-- What holds of the gates and the shapes of events.
use Rattle.std.specs.Prelude.{◌≡◌, ℕ, ℤ, List, map, Option, Some, None}
use Rattle.gate_core.specs.Wiring.{ands_in}
use Rattle.oc_values.specs.declared.integers.IntKind.{IntKind}
use Rattle.word_circuits.specs.Fragments.{fragment}
use Rattle.oc_meanings.specs.Events.{Operand, Fix, Of, Entry, Feed, Op, One, Turn, ShiftBy, Pick, Reveal, Give, Print}
use Rattle.session_shapes.specs.Gates.{WordEvent, word_event, event_ands}
use Rattle.session_shapes.specs.Shapes.{shape, ands_of_all}

-- the ANDs in the list of gates of an operation
abbrev pub ands_made : Option WordEvent → ℕ
ands_made None = 0
ands_made (Some e) = ands_in (fragment e.operation e.width).0

-- the list of gates of an entry has as many ANDs as its frames are counted by
abbrev pub EventsHaveAnds : Type 0
EventsHaveAnds = (e : Entry) → ands_made (word_event e) ≡ event_ands (word_event e)

-- an operand with another integer in the place of a known one
abbrev pub unknown : (IntKind → ℤ → ℤ) → Operand → Operand
unknown f (Fix k n) = Fix k (f k n)
unknown f (Of i) = Of i

-- an entry with other integers in its known operands
abbrev pub blank : (IntKind → ℤ → ℤ) → Entry → Entry
blank f (Feed party k i) = Feed party k i
blank f (Op op k x y) = Op op k (unknown f x) (unknown f y)
blank f (One op k x) = One op k (unknown f x)
blank f (Turn from to x) = Turn from to (unknown f x)
blank f (ShiftBy op k x n) = ShiftBy op k (unknown f x) n
blank f (Pick k e new old) = Pick k (unknown f e) (unknown f new) (unknown f old)
blank f (Reveal k x) = Reveal k (unknown f x)
blank f (Give party k x) = Give party k (unknown f x)
blank f (Print bytes) = Print bytes

-- the shape and the ANDs of events don't change with the integers of their known operands
pub record ShapesSeeNoValue : Type 0 where
  pub shapes : (f : IntKind → ℤ → ℤ) (es : List Entry) → shape (map (blank f) es) ≡ shape es
  pub counts : (f : IntKind → ℤ → ℤ) (es : List Entry) → ands_of_all (map (blank f) es) ≡ ands_of_all es
