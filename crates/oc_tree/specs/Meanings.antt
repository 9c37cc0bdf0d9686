-- What a program means and which word events it makes, each of its typed tree: the definitions of `oc_walk` and `oc_meanings`
-- under the names by which all that stands above speaks of them.
use Rattle.std.specs.Prelude.{ℕ, ℤ, List, Bool}
use Rattle.oc_walk.specs.declared.run.ShownItem.{ShownItem}
use Rattle.oc_walk.specs.declared.run.ClearSetup.{ClearSetup}
use Rattle.oc_walk.specs.declared.run.Value.{Value}
use Rattle.oc_walk.specs.declared.run.Outcome.{Outcome}
use Rattle.oc_walk.specs.Walking.{State, Res, Known}
use Rattle.oc_meanings.specs.Clear as clear
use Rattle.oc_meanings.specs.Events as events
use Rattle.oc_meanings.specs.Values as values
use Rattle.oc_meanings.specs.Plain as plain
use Rattle.oc_typing.specs.Tree.{TypedTree}

-- the program, run in the clear from this setup, shows these items, in order, and ends so
abbrev pub Clear : TypedTree → ClearSetup → List ShownItem → Outcome → Type 0
Clear t setup items outcome = clear.Clear t.structs t.functions t.entry setup items outcome

-- the walk of the program by word events, from what both parties know, the dealt transfers, the values of the reveals that are
-- known beforehand and the step budget
abbrev pub Events : TypedTree → Known → ℕ → List ℤ → ℕ → Res (State events.Operand (List events.Entry)) (Value events.Operand)
Events t known dealt rev budget = events.events_walk t.structs t.functions t.entry known dealt rev budget

-- the integer of each event of a list, and 0 for a print, from the words of both parties
abbrev pub EventValues : List events.Entry → List ℤ → List ℤ → List ℤ
EventValues entries first second = values.values first second entries

-- the program, of which only the taken parts are run, shows these items, in order, and ends so
abbrev pub Plain : TypedTree → ClearSetup → List ShownItem → Outcome → Type 0
Plain t setup items outcome = clear.IsEnd (plain.plain_walk t.structs t.functions t.entry setup) items outcome
