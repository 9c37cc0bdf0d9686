-- What a walk leaves of the state that it starts from.
use Rattle.std.specs.Prelude.{ℕ, ◌≤◌, ◌≡◌, ℤ, List, ◌++◌, Option, Bool}
use Rattle.oc_cells.specs.declared.types.StructType.{StructType}
use Rattle.oc_source.specs.declared.spot.Spot.{Spot}
use Rattle.oc_typed.specs.declared.typed.TypedFunction.{TypedFunction}
use Rattle.oc_walk.specs.declared.run.ClearSetup.{ClearSetup}
use Rattle.oc_walk.specs.declared.run.ShownItem.{ShownItem}
use Rattle.oc_walk.specs.declared.run.Value.{Value}
use Rattle.oc_walk.specs.Walking.{State, Res, Go, Stop, Known, Run}
use Rattle.oc_walk.specs.Walk.{calls}
use Rattle.oc_meanings.specs.Clear.{clear, no_skip, clear_walk}
use Rattle.oc_meanings.specs.Events.{Operand, Entry, events, events_walk}

-- the state where a walk ends or stops
abbrev pub end_of : {S A : Type 0} → Res S A → S
end_of (Go a t) = t
end_of (Stop w t) = t

-- the second list begins with the first
pub record Extends {E : Type 0} (before after : List E) : Type 0 where
  pub new : List E
  pub is : after ≡ before ++ new

-- from the first state a walk comes to the second: its list is longer at its end alone, and nothing that is spent comes back
pub record Later {H E : Type 0} (s t : State H (List E)) : Type 0 where
  pub shown : Extends s.mem.own t.mem.own
  pub steps : t.steps ≤ s.steps
  pub dealt : t.mem.dealt ≤ s.mem.dealt
  pub taken : s.mem.taken ≤ t.mem.taken

-- a call of any function from any state, in the clear and by events
abbrev pub WalksOnlyAdd : Type 0
WalksOnlyAdd =
    (run : Run) (fs : List TypedFunction) (n : ℕ) (p : Spot) (f room : ℕ)
    → ((X Y : List ℤ) (e : Bool) (vs : List (Value ℤ)) (s : State ℤ (List ShownItem))
    → Later s (end_of (calls (clear X Y) no_skip run fs n p f e room vs s)))
    × ((e : Option Operand) (vs : List (Value Operand)) (s : State Operand (List Entry))
    → Later s (end_of (calls events no_skip run fs n p f e room vs s)))

-- the steps and the transfers that a whole run leaves are no more than it began with
abbrev pub RunsStayInBudget : Type 0
RunsStayInBudget =
    (structs : List StructType) (fs : List TypedFunction) (entry : ℕ)
    → ((s : ClearSetup)
    → ((end_of (clear_walk structs fs entry s)).steps ≤ s.budget) × ((end_of (clear_walk structs fs entry s)).mem.dealt ≤ s.dealt))
    × ((known : Known) (dealt : ℕ) (rev : List ℤ) (budget : ℕ)
    → ((end_of (events_walk structs fs entry known dealt rev budget)).steps ≤ budget)
    × ((end_of (events_walk structs fs entry known dealt rev budget)).mem.dealt ≤ dealt))
