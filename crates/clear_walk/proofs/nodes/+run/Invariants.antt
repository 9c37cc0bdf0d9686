use Rattle.std.proofs.Common.{◌+◌, drop}
use Rattle.std.specs.Prelude.{max}
use Rattle.std.specs.Option.{option_copied}
use Rattle.clear_walk.specs.Runs.{around, Valued, Declared, Passed, Turned}
use Rattle.clear_walk.proofs.Weight.{far, expr_weight, place_weight, exprs_weight, maybe_weight, declared_weight, declares_weight, header_weight, loop_weight, stmt_weight, stmts_weight, part_weight, body_weight}
use Rattle.clear_walk.proofs.nodes.+run.Given as goal

abbrev pub decreases-run_expr : goal.decreases-run_expr
decreases-run_expr l = far l.frame.now l.at (expr_weight l.e.now)

abbrev pub decreases-run_read : goal.decreases-run_read
decreases-run_read l = far l.frame.now l.at (place_weight l.place.now + 1)

abbrev pub decreases-run_address : goal.decreases-run_address
decreases-run_address l = far l.frame.now l.at (place_weight l.place.now + 1)

abbrev pub decreases-run_unary : goal.decreases-run_unary
decreases-run_unary l = far l.frame.now l.at (expr_weight l.part.now + 1)

abbrev pub decreases-run_two : goal.decreases-run_two
decreases-run_two l = far l.frame.now l.at (max (expr_weight l.left.now) (expr_weight l.right.now) + 1)

abbrev pub decreases-run_binary : goal.decreases-run_binary
decreases-run_binary l = far l.frame.now l.at (max (expr_weight l.left.now) (expr_weight l.right.now) + 2)

abbrev pub decreases-run_step : goal.decreases-run_step
decreases-run_step l = far l.frame.now l.at (max (expr_weight l.pointer.now) (expr_weight l.amount.now) + 2)

abbrev pub decreases-run_same : goal.decreases-run_same
decreases-run_same l = far l.frame.now l.at (max (expr_weight l.left.now) (expr_weight l.right.now) + 2)

abbrev pub decreases-run_logic : goal.decreases-run_logic
decreases-run_logic l = far l.frame.now l.at (max (expr_weight l.left.now) (expr_weight l.right.now) + 2)

abbrev pub decreases-run_choice : goal.decreases-run_choice
decreases-run_choice l = far l.frame.now l.at (max (expr_weight l.cond.now) (max (expr_weight l.yes.now) (expr_weight l.no.now)) + 1)

abbrev pub decreases-run_assign : goal.decreases-run_assign
decreases-run_assign l = far l.frame.now l.at (max (place_weight l.place.now) (expr_weight l.value.now) + 2)

abbrev pub decreases-run_assigned : goal.decreases-run_assigned
decreases-run_assigned l = far l.frame.now l.at (max (place_weight l.place.now) (expr_weight l.value.now) + 1)

abbrev pub decreases-run_update : goal.decreases-run_update
decreases-run_update l = far l.frame.now l.at (max (place_weight l.place.now) (expr_weight l.value.now) + 3)

abbrev pub decreases-run_updated : goal.decreases-run_updated
decreases-run_updated l = far l.frame.now l.at (max (place_weight l.place.now) (expr_weight l.value.now) + 2)

abbrev pub decreases-run_postfix : goal.decreases-run_postfix
decreases-run_postfix l = far l.frame.now l.at (max (place_weight l.place.now) (expr_weight l.value.now) + 1)

abbrev pub decreases-run_convert : goal.decreases-run_convert
decreases-run_convert l = far l.frame.now l.at (expr_weight l.part.now + 1)

abbrev pub decreases-run_called : goal.decreases-run_called
decreases-run_called l = far l.frame.now l.at (exprs_weight l.args.now + 2)

abbrev pub decreases-run_own : goal.decreases-run_own
decreases-run_own l = far l.frame.now l.at (exprs_weight l.args.now + 2)

abbrev pub decreases-run_exprs : goal.decreases-run_exprs
decreases-run_exprs l = far l.frame.now l.at (exprs_weight l.es.now + 1)

abbrev pub decreases-run_place : goal.decreases-run_place
decreases-run_place l = far l.frame.now l.at (place_weight l.place.now)

abbrev pub decreases-run_deref : goal.decreases-run_deref
decreases-run_deref l = far l.frame.now l.at (expr_weight l.pointer.now + 1)

abbrev pub decreases-run_index : goal.decreases-run_index
decreases-run_index l = far l.frame.now l.at (max (expr_weight l.pointer.now) (expr_weight l.amount.now) + 2)

abbrev pub decreases-run_field : goal.decreases-run_field
decreases-run_field l = far l.frame.now l.at (place_weight l.base.now + 1)

abbrev pub decreases-run_test : goal.decreases-run_test
decreases-run_test l = far l.frame.now l.at (expr_weight l.cond.now + 1)

abbrev pub decreases-run_hidden : goal.decreases-run_hidden
decreases-run_hidden l = far l.frame.now l.at (expr_weight l.cond.now + 1)

abbrev pub decreases-run_stmt : goal.decreases-run_stmt
decreases-run_stmt l = far l.frame.now l.at (stmt_weight l.s.now + 1)

abbrev pub decreases-run_after : goal.decreases-run_after
decreases-run_after l = far l.frame.now l.at (stmt_weight l.s.now)

abbrev pub decreases-run_declaration : goal.decreases-run_declaration
decreases-run_declaration l = far l.frame.now l.at (declares_weight l.all.now + 2)

abbrev pub decreases-run_declares : goal.decreases-run_declares
decreases-run_declares l = far l.frame.now l.at (declares_weight l.all.now + 1)

abbrev pub decreases-run_declared : goal.decreases-run_declared
decreases-run_declared l = far l.frame.now l.at (declared_weight l.declared.now)

abbrev pub decreases-run_start : goal.decreases-run_start
decreases-run_start l = far l.frame.now l.at (maybe_weight (option_copied l.init) + 1)

abbrev pub decreases-run_express : goal.decreases-run_express
decreases-run_express l = far l.frame.now l.at (expr_weight l.e.now + 1)

abbrev pub decreases-run_block : goal.decreases-run_block
decreases-run_block l = far l.frame.now l.at (stmts_weight l.ss.now + 3)

abbrev pub decreases-run_list : goal.decreases-run_list
decreases-run_list l = far l.frame.now l.at (stmts_weight l.ss.now + 2)

abbrev pub decreases-run_part : goal.decreases-run_part
decreases-run_part l = far l.frame.now l.at (stmt_weight l.s.now + 2)

abbrev pub decreases-run_other : goal.decreases-run_other
decreases-run_other l = far l.frame.now l.at (part_weight l.other.now + 3)

abbrev pub decreases-run_if : goal.decreases-run_if
decreases-run_if l = far l.frame.now l.at (max (expr_weight l.cond.now) (max (stmt_weight l.yes.now) (part_weight l.no.now)) + 4)

abbrev pub decreases-run_obliv_if : goal.decreases-run_obliv_if
decreases-run_obliv_if l = far l.frame.now l.at (max (expr_weight l.cond.now) (max (stmt_weight l.yes.now) (part_weight l.no.now)) + 5)

abbrev pub decreases-run_both : goal.decreases-run_both
decreases-run_both l = far l.frame.now l.at (max (stmt_weight l.yes.now) (part_weight l.no.now) + 4)

abbrev pub decreases-run_always : goal.decreases-run_always
decreases-run_always l = far l.frame.now l.at (stmt_weight l.body.now + 4)

abbrev pub decreases-run_enabled : goal.decreases-run_enabled
decreases-run_enabled l = far l.frame.now l.at (stmt_weight l.body.now + 3)

abbrev pub decreases-run_for : goal.decreases-run_for
decreases-run_for l = far l.frame.now l.at (max (header_weight l.init.now) (loop_weight (maybe_weight (option_copied l.cond)) (maybe_weight (option_copied l.advance)) (stmt_weight l.body.now)) + 6)

abbrev pub decreases-run_headed : goal.decreases-run_headed
decreases-run_headed l = far l.frame.now l.at (max (header_weight l.init.now) (loop_weight (maybe_weight (option_copied l.cond)) (maybe_weight (option_copied l.advance)) (stmt_weight l.body.now)) + 5)

abbrev pub decreases-run_header : goal.decreases-run_header
decreases-run_header l = far l.frame.now l.at (header_weight l.init.now)

abbrev pub decreases-run_loop : goal.decreases-run_loop
decreases-run_loop l = far l.frame.now l.at (loop_weight (maybe_weight (option_copied l.cond)) (maybe_weight (option_copied l.advance)) (stmt_weight l.body.now) + 4)

abbrev pub decreases-run_round : goal.decreases-run_round
decreases-run_round l = far l.frame.now l.at (loop_weight (maybe_weight (option_copied l.cond)) (maybe_weight (option_copied l.advance)) (stmt_weight l.body.now) + 3)

abbrev pub decreases-run_condition : goal.decreases-run_condition
decreases-run_condition l = far l.frame.now l.at (maybe_weight (option_copied l.cond) + 2)

abbrev pub decreases-run_done : goal.decreases-run_done
decreases-run_done l = far l.frame.now l.at (maybe_weight (option_copied l.advance) + 2)

abbrev pub decreases-run_advance : goal.decreases-run_advance
decreases-run_advance l = far l.frame.now l.at (maybe_weight (option_copied l.advance) + 1)

abbrev pub decreases-run_return : goal.decreases-run_return
decreases-run_return l = far l.frame.now l.at (maybe_weight (option_copied l.e) + 1)

abbrev pub decreases-run_call : goal.decreases-run_call
decreases-run_call l = far l.frame.now l.at 0

abbrev pub decreases-run_function : goal.decreases-run_function
decreases-run_function l = far l.frame.now l.at (body_weight l.f.now)

abbrev pub invariant-run_exprs-loop-e : goal.invariant-run_exprs-loop-e
invariant-run_exprs-loop-e l = Valued (around l.frame l.at) l.es l.initial.m l.values (drop l.e-index l.es) l.m

abbrev pub invariant-run_declares-loop-declared : goal.invariant-run_declares-loop-declared
invariant-run_declares-loop-declared l = Declared (around l.frame l.at) l.all l.initial.m (drop l.declared-index l.all) l.m

abbrev pub invariant-run_list-loop-s : goal.invariant-run_list-loop-s
invariant-run_list-loop-s l = Passed (around l.frame l.at) l.ss l.initial.m (drop l.s-index l.ss) l.m

abbrev pub invariant-run_loop-loop-flow : goal.invariant-run_loop-loop-flow
invariant-run_loop-loop-flow l = Turned (around l.frame l.at) (option_copied l.cond) (option_copied l.advance) l.body l.initial.m l.m

abbrev pub decreases-run_loop-loop-flow : goal.decreases-run_loop-loop-flow
decreases-run_loop-loop-flow l = l.m.steps
