-- Events whose operands have the kinds that they are taken as, and whose integers are values of their kinds.
use Rattle.std.specs.Prelude.{ℕ, ◌≡◌, ℤ, List, [], ◌∷◌, ◌++◌, Option, Some, None, true, ◌||◌, slice_get}
use Rattle.oc_values.specs.declared.integers.IntKind.{IntKind}
use Rattle.oc_values.specs.declared.integers.IntKind.TheVariants.{Bool as KBool}
use Rattle.oc_values.specs.Integers.{IsOfKind}
use Rattle.oc_values.specs.Kinds.{same_kind, is_shift, result_kind}
use Rattle.oc_cells.specs.declared.types.StructType.{StructType}
use Rattle.oc_typed.specs.declared.typed.TypedFunction.{TypedFunction}
use Rattle.oc_walk.specs.declared.run.ShownItem.{ShownItem}
use Rattle.oc_walk.specs.declared.run.ClearSetup.{ClearSetup}
use Rattle.oc_walk.specs.declared.run.Value.{Value}
use Rattle.oc_walk.specs.declared.run.Outcome.{Outcome}
use Rattle.oc_walk.specs.Walking.{State, Res, Go, Stop}
use Rattle.oc_meanings.specs.Clear.{known_of, Clear}
use Rattle.oc_meanings.specs.Events.{Operand, Fix, Of, Entry, Feed, Op, One, Turn, ShiftBy, Pick, Reveal, Give, Print, events_walk}
use Rattle.oc_meanings.specs.Values.{entry_value, values, revealed_of}

-- the kind of the integer that an entry's event makes; a print, a reveal and a result make none
abbrev pub entry_kind : Entry → Option IntKind
entry_kind (Feed party k i) = Some k
entry_kind (Op op k a b) = Some (result_kind op k)
entry_kind (One op k a) = Some k
entry_kind (Turn from to a) = Some to
entry_kind (ShiftBy op k a n) = Some k
entry_kind (Pick k e new old) = Some k
entry_kind _ = None

-- the kind of an event that is there
abbrev pub kind_at : Option Entry → Option IntKind
kind_at (Some e) = entry_kind e
kind_at None = None

-- an operand of this kind, among the entries before
abbrev pub HasKind : List Entry → IntKind → Operand → Type 0
HasKind es k (Fix l n) = (l ≡ k) × IsOfKind k n
HasKind es k (Of i) = kind_at (slice_get es i) ≡ Some k

-- the operands of an entry have its kinds; a shift's amount has any
abbrev pub EntryFits : List Entry → Entry → Type 0
EntryFits es (Feed party k i) = Unit {0}
EntryFits es (Op op k a b) = HasKind es k a × ((l : IntKind) × ((is_shift op || same_kind k l) ≡ true) × HasKind es l b)
EntryFits es (One op k a) = HasKind es k a
EntryFits es (Turn from to a) = HasKind es from a
EntryFits es (ShiftBy op k a n) = HasKind es k a
EntryFits es (Pick k e new old) = HasKind es KBool e × HasKind es k new × HasKind es k old
EntryFits es (Reveal k a) = HasKind es k a
EntryFits es (Give party k a) = HasKind es k a
EntryFits es (Print bytes) = Unit {0}

module _ (X Y : List ℤ) where
  -- an entry's integer is one of its kind
  abbrev pub InRange : List Entry → Entry → Type 0
  InRange es e = (k : IntKind) → entry_kind e ≡ Some k → IsOfKind k (entry_value X Y (values X Y es) e)

  -- each of these entries, after those before
  abbrev pub FitAfter : List Entry → List Entry → Type 0
  FitAfter before [] = Unit {0}
  FitAfter before (e ∷ es) = EntryFits before e × InRange before e × FitAfter (before ++ e ∷ []) es

  -- each entry of a list
  abbrev pub AllFit : List Entry → Type 0
  AllFit es = FitAfter [] es

-- the entries of a walk by events
abbrev pub entries_of : Res (State Operand (List Entry)) (Value Operand) → List Entry
entries_of (Go v s) = s.mem.own
entries_of (Stop w s) = s.mem.own

-- the events of a program, with the clear walk's revealed values known, fit
abbrev pub EventsFit : Type 0
EventsFit =
    (structs : List StructType) (fs : List TypedFunction) (entry : ℕ) (s : ClearSetup) (items : List ShownItem) (outcome : Outcome)
    → Clear structs fs entry s items outcome
    → AllFit s.first s.second (entries_of (events_walk structs fs entry (known_of s) s.dealt (revealed_of items) s.budget))
