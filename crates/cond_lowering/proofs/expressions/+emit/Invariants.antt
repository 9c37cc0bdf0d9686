use Rattle.std.proofs.Common.{◌+◌, ◌≡◌, ◌++◌, drop, length}
use Rattle.std.specs.Prelude.{max}
use Rattle.cond_lowering.specs.Forms.{args_of}
use Rattle.cond_lowering.proofs.Weight.{expr_weight, place_weight, exprs_weight}
use Rattle.cond_lowering.proofs.expressions.+emit.Given as goal

abbrev pub decreases-emit_expr : goal.decreases-emit_expr
decreases-emit_expr l = expr_weight l.e.now

abbrev pub decreases-emit_place : goal.decreases-emit_place
decreases-emit_place l = place_weight l.place.now

abbrev pub decreases-emit_deref : goal.decreases-emit_deref
decreases-emit_deref l = expr_weight l.pointer.now + 1

abbrev pub decreases-emit_index : goal.decreases-emit_index
decreases-emit_index l = max (expr_weight l.pointer.now) (expr_weight l.amount.now) + 1

abbrev pub decreases-emit_field : goal.decreases-emit_field
decreases-emit_field l = place_weight l.base.now + 1

abbrev pub decreases-emit_held : goal.decreases-emit_held
decreases-emit_held l = place_weight l.place.now + 1

abbrev pub decreases-emit_unary : goal.decreases-emit_unary
decreases-emit_unary l = expr_weight l.part.now + 1

abbrev pub decreases-emit_moved : goal.decreases-emit_moved
decreases-emit_moved l = max (expr_weight l.pointer.now) (expr_weight l.amount.now) + 1

abbrev pub decreases-emit_truth : goal.decreases-emit_truth
decreases-emit_truth l = expr_weight l.e.now + 1

abbrev pub decreases-emit_choose : goal.decreases-emit_choose
decreases-emit_choose l = max (expr_weight l.cond.now) (max (expr_weight l.yes.now) (expr_weight l.no.now)) + 1

abbrev pub decreases-emit_convert : goal.decreases-emit_convert
decreases-emit_convert l = expr_weight l.part.now + 1

abbrev pub decreases-emit_args : goal.decreases-emit_args
decreases-emit_args l = exprs_weight l.args.now + 1

abbrev pub decreases-emit_call : goal.decreases-emit_call
decreases-emit_call l = exprs_weight l.args.now + 2

abbrev pub decreases-emit_own : goal.decreases-emit_own
decreases-emit_own l = exprs_weight l.args.now + 2

abbrev pub decreases-emit_binary : goal.decreases-emit_binary
decreases-emit_binary l = max (expr_weight l.left.now) (expr_weight l.right.now) + 1

abbrev pub decreases-emit_same : goal.decreases-emit_same
decreases-emit_same l = max (expr_weight l.left.now) (expr_weight l.right.now) + 1

abbrev pub decreases-emit_hidden_logic : goal.decreases-emit_hidden_logic
decreases-emit_hidden_logic l = max (expr_weight l.left.now) (expr_weight l.right.now) + 1

abbrev pub decreases-emit_all : goal.decreases-emit_all
decreases-emit_all l = max (expr_weight l.left.now) (expr_weight l.right.now) + 2

abbrev pub decreases-emit_any : goal.decreases-emit_any
decreases-emit_any l = max (expr_weight l.left.now) (expr_weight l.right.now) + 2

abbrev pub decreases-emit_logic : goal.decreases-emit_logic
decreases-emit_logic l = max (expr_weight l.left.now) (expr_weight l.right.now) + 3

abbrev pub decreases-emit_assign : goal.decreases-emit_assign
decreases-emit_assign l = max (place_weight l.place.now) (expr_weight l.value.now) + 1

abbrev pub decreases-emit_renewed : goal.decreases-emit_renewed
decreases-emit_renewed l = max (place_weight l.place.now) (expr_weight l.value.now) + 1

abbrev pub decreases-emit_kept : goal.decreases-emit_kept
decreases-emit_kept l = max (place_weight l.place.now) (expr_weight l.value.now) + 1

abbrev pub decreases-emit_update : goal.decreases-emit_update
decreases-emit_update l = max (place_weight l.place.now) (expr_weight l.value.now) + 2

abbrev pub invariant-emit_args-loop-i : goal.invariant-emit_args-loop-i
invariant-emit_args-loop-i l = l.code ++ args_of l.table l.depth (drop l.i l.args) (length l.code) ≡ l.fn.code ++ args_of l.table l.depth l.fn.args (length l.fn.code)
