use Rattle.std.proofs.Common.{◌≡◌, ◌≤◌, ◌++◌, List, [], length}
use Rattle.visible_variables.specs.declared.scope.Variable.{Variable}
use Rattle.visible_variables.specs.Seen.{Latest}
use Rattle.visible_variables.specs.Scopes.{Hidden}
use Rattle.visible_variables.proofs.scope.Scope.leave.Given as goal

abbrev pub invariant-leaving : goal.invariant-leaving
invariant-leaving l =
    record {
      within : l.initial.self.outer ≤ length l.self.variables;
      front : (more : List Variable) × (l.initial.self.variables ≡ l.self.variables ++ more);
      latest : Latest l.self.latest l.self.variables;
      hidden : Hidden [] l.self.variables;
      slots : l.self.slots ≡ l.initial.self.slots;
      outer : l.self.outer ≡ l.initial.self.outer;
    }

abbrev pub decreases-leaving : goal.decreases-leaving
decreases-leaving l = length l.self.variables
