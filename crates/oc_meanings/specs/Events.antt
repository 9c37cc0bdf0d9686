-- The word events of a program: the walk whose hidden values are operands of events.
use Rattle.std.specs.Prelude.{ℕ, ℤ, pos, List, [], ◌∷◌, ◌++◌, length, Option, Some, None}
use Rattle.oc_values.specs.declared.integers.IntKind.{IntKind}
use Rattle.oc_values.specs.declared.integers.IntKind.TheVariants.{Bool as KBool}
use Rattle.oc_values.specs.declared.integers.BinaryOp.{BinaryOp}
use Rattle.oc_values.specs.declared.integers.BinaryOp.TheVariants.{And, Xor}
use Rattle.oc_values.specs.declared.integers.OneOp.{OneOp}
use Rattle.oc_values.specs.declared.integers.OneOp.TheVariants.{Flip}
use Rattle.oc_cells.specs.declared.types.StructType.{StructType}
use Rattle.oc_typed.specs.declared.typed.TypedFunction.{TypedFunction}
use Rattle.oc_walk.specs.declared.run.Value.{Value}
use Rattle.oc_walk.specs.Domain.{Domain, AllOf}
use Rattle.oc_walk.specs.Walking.{State, Res, Known}
use Rattle.oc_walk.specs.Walk.{walk}
use Rattle.oc_meanings.specs.Clear.{no_skip}

-- a hidden value: one that both parties know, or the entry of this number, which is an event
pub data Operand : Type 0 where
  Fix : IntKind → ℤ → Operand
  Of : ℕ → Operand

-- the list of a run: its events, and among them what it prints
pub data Entry : Type 0 where
  -- the private word of a party at an index, converted to the kind
  Feed : ℕ → IntKind → ℕ → Entry
  -- an operation on two operands, and on one
  Op : BinaryOp → IntKind → Operand → Operand → Entry
  One : OneOp → IntKind → Operand → Entry
  -- an operand of the first kind converted to the second
  Turn : IntKind → IntKind → Operand → Entry
  -- an operand shifted by a public amount
  ShiftBy : BinaryOp → IntKind → Operand → ℤ → Entry
  -- what a cell holds after a write: the enable, the new value and the old one
  Pick : IntKind → Operand → Operand → Operand → Entry
  -- a value that is revealed to both parties, and one that is a result for the party of this number
  Reveal : IntKind → Operand → Entry
  Give : ℕ → IntKind → Operand → Entry
  -- the text of a print, which is no event
  Print : List ℕ → Entry

-- a new event, and its operand
abbrev pub emit : Entry → List Entry → Operand × List Entry
emit e es = (Of (length es), es ++ e ∷ [])

-- an operand as an enable
abbrev pub some_enable : Operand × List Entry → Option Operand × List Entry
some_enable r = (Some r.0, r.1)

-- a write: without an enable no event
abbrev pub pick_under : IntKind → Option Operand → Operand → Operand → List Entry → Operand × List Entry
pick_under k None new old es = (new, es)
pick_under k (Some e) new old es = emit (Pick k e new old) es

-- the enable of a first part: the condition, under an outer enable together with it
abbrev pub first_under : Option Operand → Operand → List Entry → Option Operand × List Entry
first_under None c es = (Some c, es)
first_under (Some e) c es = some_enable (emit (Op And KBool e c) es)

-- the outer enable without the first part's
abbrev pub apart_from : Operand → Option Operand → List Entry → Option Operand × List Entry
apart_from e None es = (Some e, es)
apart_from e (Some u) es = some_enable (emit (Op Xor KBool e u) es)

-- the enable of a second part: not the condition, or the outer enable without the first part's
abbrev pub second_under : Option Operand → Operand → Option Operand → List Entry → Option Operand × List Entry
second_under None c u es = some_enable (emit (One Flip KBool c) es)
second_under (Some e) c u es = apart_from e u es

-- an enable as a hidden Bool, which is 1 where there is none
abbrev pub held_of : Option Operand → Operand
held_of None = Fix KBool (pos 1)
held_of (Some e) = e

-- the domain of operands, which keeps the list of events and prints
abbrev pub events : Domain
events = record {
  Hidden = Operand;
  Enable = Option Operand;
  Own = List Entry;
  known = Fix;
  one = λ op k x. emit (One op k x);
  binary = λ op k x y. emit (Op op k x y);
  shift = λ op k x n. emit (ShiftBy op k x n);
  turn = λ from to x. emit (Turn from to x);
  pick = pick_under;
  always = None;
  held = held_of;
  first = first_under;
  second = second_under;
  decide = λ c. AllOf;
  feed = λ party k i. emit (Feed party k i);
  knows = λ k x. None;
  reveal = λ k x n es. es ++ Reveal k x ∷ [];
  give = λ party k x es. es ++ Give party k x ∷ [];
  print = λ bytes es. es ++ Print bytes ∷ [];
}

-- the walk of a program by events, which knows these values of its reveals beforehand
abbrev pub events_walk : List StructType → List TypedFunction → ℕ → Known → ℕ → List ℤ → ℕ
    → Res (State Operand (List Entry)) (Value Operand)
events_walk structs fs entry known dealt rev budget = walk events no_skip structs fs entry known dealt rev budget []
