-- The integers of events, and the items that a list of events and prints shows.
use Rattle.std.specs.Prelude.{ℕ, ◌≡◌, ℤ, pos, List, [], ◌∷◌, ◌++◌, not, slice_get, unwrap_or}
use Rattle.oc_values.specs.Integers.{operate, convert, is_zero}
use Rattle.oc_values.specs.Kinds.{operate_one}
use Rattle.oc_cells.specs.declared.types.StructType.{StructType}
use Rattle.oc_cells.specs.declared.trap.TrapKind.TheVariants.{M5}
use Rattle.oc_typed.specs.declared.typed.TypedFunction.{TypedFunction}
use Rattle.oc_walk.specs.declared.run.ShownItem.{ShownItem}
use Rattle.oc_walk.specs.declared.run.ShownItem.TheVariants.{Print as Printed, Reveal as Revealed, Give as Given}
use Rattle.oc_walk.specs.declared.run.ClearSetup.{ClearSetup}
use Rattle.oc_walk.specs.declared.run.Value.{Value}
use Rattle.oc_walk.specs.declared.run.Outcome.{Outcome}
use Rattle.oc_walk.specs.declared.run.Outcome.TheVariants.{Done, Trap}
use Rattle.oc_walk.specs.Walking.{State, Res, Go, Stop, Ended, Needs, Odd}
use Rattle.oc_meanings.specs.Clear.{selected, word_at, known_of, Clear}
use Rattle.oc_meanings.specs.Events.{Operand, Fix, Of, Entry, Feed, Op, One, Turn, ShiftBy, Pick, Reveal, Give, Print, events_walk}

-- an operand's integer, where the entries before have these
abbrev pub operand_value : List ℤ → Operand → ℤ
operand_value vs (Fix k n) = n
operand_value vs (Of i) = unwrap_or (slice_get vs i) (pos 0)

module _ (X Y : List ℤ) where
  -- an entry's integer, from the words of both parties, where the entries before have these; a print's is 0
  abbrev pub entry_value : List ℤ → Entry → ℤ
  entry_value vs (Feed party k i) = convert (word_at X Y party i) k
  entry_value vs (Op op k a b) = operate op k (operand_value vs a) (operand_value vs b)
  entry_value vs (One op k a) = operate_one op k (operand_value vs a)
  entry_value vs (Turn from to a) = convert (operand_value vs a) to
  entry_value vs (ShiftBy op k a n) = operate op k (operand_value vs a) n
  entry_value vs (Pick k e new old) = selected (not (is_zero (operand_value vs e))) (operand_value vs new) (operand_value vs old)
  entry_value vs (Reveal k a) = operand_value vs a
  entry_value vs (Give party k a) = operand_value vs a
  entry_value vs (Print bytes) = pos 0

  -- the integers of entries after these
  abbrev pub values_after : List ℤ → List Entry → List ℤ
  values_after vs [] = vs
  values_after vs (e ∷ es) = values_after (vs ++ entry_value vs e ∷ []) es

  -- the integers of a list of entries
  abbrev pub values : List Entry → List ℤ
  values es = values_after [] es

-- what an entry shows, of this integer
abbrev pub item_of : ℤ → Entry → List ShownItem
item_of n (Reveal k a) = Revealed k n ∷ []
item_of n (Give party k a) = Given party k n ∷ []
item_of n (Print bytes) = Printed bytes ∷ []
item_of n _ = []

-- what entries show, in order, each of its integer
abbrev pub items_of : List ℤ → List Entry → List ShownItem
items_of (n ∷ ns) (e ∷ es) = item_of n e ++ items_of ns es
items_of _ _ = []

-- the revealed values among items
abbrev pub revealed_of : List ShownItem → List ℤ
revealed_of [] = []
revealed_of (Revealed k n ∷ is) = n ∷ revealed_of is
revealed_of (Printed bytes ∷ is) = revealed_of is
revealed_of (Given party k n ∷ is) = revealed_of is

-- the entries' integers show these items, and the walk ends so, not for want of a revealed value
abbrev pub ShowsEnd : List ℤ → List ℤ → Res (State Operand (List Entry)) (Value Operand) → List ShownItem → Outcome → Type 0
ShowsEnd X Y (Go v s) items outcome = (items ≡ items_of (values X Y s.mem.own) s.mem.own) × (outcome ≡ Done)
ShowsEnd X Y (Stop (Ended o) s) items outcome = (items ≡ items_of (values X Y s.mem.own) s.mem.own) × (outcome ≡ o)
ShowsEnd X Y (Stop (Needs k kind) s) items outcome = ⊥
ShowsEnd X Y (Stop (Odd p) s) items outcome = (items ≡ items_of (values X Y s.mem.own) s.mem.own) × (outcome ≡ Trap M5 p)

-- where a program in the clear shows these items and ends so, its events with the revealed values known do too
abbrev pub ValuesShow : Type 0
ValuesShow =
    (structs : List StructType) (fs : List TypedFunction) (entry : ℕ) (s : ClearSetup) (items : List ShownItem) (outcome : Outcome)
    → Clear structs fs entry s items outcome
    → ShowsEnd s.first s.second (events_walk structs fs entry (known_of s) s.dealt (revealed_of items) s.budget) items outcome
