use Rattle.std.proofs.Common.{◌+◌, drop}
use Rattle.std.specs.Prelude.{max}
use Rattle.std.specs.Option.{option_copied}
use Rattle.scope_rules.specs.InScope.{params_of}
use Rattle.frozen_rules.proofs.Sequences.{Left}
use Rattle.frozen_rules.specs.Scopes.{facts_of, around}
use Rattle.frozen_rules.specs.Lists.{visits_list}
use Rattle.frozen_rules.proofs.Weight.{expr_weight, place_weight, exprs_weight}
use Rattle.frozen_rules.proofs.expressions.+expressions.Given as goal

abbrev pub decreases-check_expr : goal.decreases-check_expr
decreases-check_expr l = expr_weight l.e.now

abbrev pub decreases-check_place : goal.decreases-check_place
decreases-check_place l = place_weight l.place.now

abbrev pub decreases-check_two : goal.decreases-check_two
decreases-check_two l = max (expr_weight l.first.now) (expr_weight l.second.now) + 1

abbrev pub decreases-check_step : goal.decreases-check_step
decreases-check_step l = max (expr_weight l.pointer.now) (expr_weight l.amount.now) + 2

abbrev pub decreases-check_choice : goal.decreases-check_choice
decreases-check_choice l = max (expr_weight l.cond.now) (max (expr_weight l.yes.now) (expr_weight l.no.now)) + 2

abbrev pub decreases-check_coming : goal.decreases-check_coming
decreases-check_coming l = expr_weight l.e.now + 1

abbrev pub decreases-check_unfrozen : goal.decreases-check_unfrozen
decreases-check_unfrozen l = expr_weight l.e.now + 1

abbrev pub decreases-check_sides : goal.decreases-check_sides
decreases-check_sides l = max (place_weight l.place.now) (expr_weight l.value.now) + 1

abbrev pub decreases-check_filling : goal.decreases-check_filling
decreases-check_filling l = max (place_weight l.place.now) (expr_weight l.value.now) + 2

abbrev pub decreases-check_assign : goal.decreases-check_assign
decreases-check_assign l = max (place_weight l.place.now) (expr_weight l.value.now) + 3

abbrev pub decreases-check_update : goal.decreases-check_update
decreases-check_update l = max (place_weight l.place.now) (expr_weight l.value.now) + 2

abbrev pub decreases-check_arg : goal.decreases-check_arg
decreases-check_arg l = expr_weight l.e.now + 2

abbrev pub decreases-check_args : goal.decreases-check_args
decreases-check_args l = exprs_weight l.args.now + 3

abbrev pub decreases-check_own_args : goal.decreases-check_own_args
decreases-check_own_args l = exprs_weight l.args.now + 4

abbrev pub decreases-check_call : goal.decreases-check_call
decreases-check_call l = exprs_weight l.args.now + 5

abbrev pub decreases-check_own_call : goal.decreases-check_own_call
decreases-check_own_call l = exprs_weight l.args.now + 5

abbrev pub invariant-check_args-loop-i : goal.invariant-check_args-loop-i
invariant-check_args-loop-i l =
    Left (visits_list (around l.typed l.f) (facts_of l.w) (drop l.i (params_of (option_copied l.callee))) (drop l.i l.args)) (visits_list (around l.typed l.f) (facts_of l.w) (params_of (option_copied l.callee)) l.args)
