use Rattle.std.proofs.Common.{◌+◌, ◌++◌, [], drop, length}
use Rattle.cond_lowering.specs.Statements.{coding, stmts_of}
use Rattle.cond_lowering.proofs.Rounds.{BlockSoFar}
use Rattle.cond_lowering.proofs.Weight.{stmt_weight, stmts_weight, maybe_weight}
use Rattle.std.specs.Prelude.{max}
use Rattle.cond_lowering.proofs.statements.+statements.Given as goal

abbrev pub decreases-emit_stmt : goal.decreases-emit_stmt
decreases-emit_stmt l = stmt_weight l.s.now

abbrev pub decreases-emit_turn_of : goal.decreases-emit_turn_of
decreases-emit_turn_of l = stmt_weight l.s.now + 1

abbrev pub decreases-emit_part : goal.decreases-emit_part
decreases-emit_part l = stmt_weight l.s.now + 2

abbrev pub decreases-emit_other : goal.decreases-emit_other
decreases-emit_other l = maybe_weight l.no.now + 3

abbrev pub decreases-emit_if : goal.decreases-emit_if
decreases-emit_if l = max (stmt_weight l.yes.now) (maybe_weight l.no.now) + 4

abbrev pub decreases-emit_parts : goal.decreases-emit_parts
decreases-emit_parts l = max (stmt_weight l.yes.now) (maybe_weight l.no.now) + 4

abbrev pub decreases-emit_when : goal.decreases-emit_when
decreases-emit_when l = max (stmt_weight l.yes.now) (maybe_weight l.no.now) + 5

abbrev pub decreases-emit_always : goal.decreases-emit_always
decreases-emit_always l = stmt_weight l.body.now + 3

abbrev pub decreases-emit_body_at : goal.decreases-emit_body_at
decreases-emit_body_at l = stmt_weight l.body.now + 3

abbrev pub decreases-emit_while : goal.decreases-emit_while
decreases-emit_while l = stmt_weight l.body.now + 4

abbrev pub decreases-emit_round : goal.decreases-emit_round
decreases-emit_round l = stmt_weight l.body.now + 4

abbrev pub decreases-emit_for : goal.decreases-emit_for
decreases-emit_for l = stmt_weight l.body.now + 5

abbrev pub decreases-emit_block : goal.decreases-emit_block
decreases-emit_block l = stmts_weight l.ss.now + 2

abbrev pub invariant-emit_block-loop-i : goal.invariant-emit_block-loop-i
invariant-emit_block-loop-i l =
    let k = coding l.table l.slots in
    BlockSoFar k l.gives l.depth l.fn.exits l.exits l.spot l.code (l.fn.code ++ stmts_of k l.gives l.depth l.fn.exits l.spot [] l.fn.ss (length l.fn.code)) (drop l.i l.ss)
