use Rattle.std.proofs.Common.{◌≡◌, drop}
use Rattle.type_rules.specs.ProgramRules.{with_params}
use Rattle.visible_variables.specs.Scopes.{scope_of, Sound}
use Rattle.typed_statements.proofs.bodies.add_params.Given as goal

abbrev pub invariant-loop-param : goal.invariant-loop-param
invariant-loop-param l =
    record {
      sound : Sound l.scope;
      index : l.at ≡ l.param-index;
      added : with_params (drop l.param-index l.param-items) (drop l.param-index l.slots) (scope_of l.scope) ≡ with_params l.param-items l.slots (scope_of l.initial.scope);
    }
