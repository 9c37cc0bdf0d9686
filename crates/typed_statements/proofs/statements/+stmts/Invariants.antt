use Rattle.std.proofs.Common.{◌+◌}
use Rattle.std.specs.Prelude.{max}
use Rattle.written_types.specs.Known.{lookup}
use Rattle.typed_statements.specs.Parts.{whole}
use Rattle.typed_statements.proofs.Loops.{Left}
use Rattle.typed_statements.proofs.Weight.{stmt_weight, stmts_weight, part_weight}
use Rattle.typed_statements.proofs.statements.+stmts.Given as goal

abbrev pub decreases-type_stmt : goal.decreases-type_stmt
decreases-type_stmt l = stmt_weight l.s.now

abbrev pub decreases-type_stmts : goal.decreases-type_stmts
decreases-type_stmts l = stmts_weight l.list.now + 1

abbrev pub decreases-type_part : goal.decreases-type_part
decreases-type_part l = stmt_weight l.s.now + 1

abbrev pub decreases-type_other : goal.decreases-type_other
decreases-type_other l = part_weight l.no.now + 2

abbrev pub decreases-type_block : goal.decreases-type_block
decreases-type_block l = stmts_weight l.list.now + 2

abbrev pub decreases-type_if : goal.decreases-type_if
decreases-type_if l = max (stmt_weight l.yes.now) (part_weight l.no.now) + 3

abbrev pub decreases-type_obliv_if : goal.decreases-type_obliv_if
decreases-type_obliv_if l = max (stmt_weight l.yes.now) (part_weight l.no.now) + 3

abbrev pub decreases-type_while : goal.decreases-type_while
decreases-type_while l = stmt_weight l.body.now + 2

abbrev pub decreases-type_marked : goal.decreases-type_marked
decreases-type_marked l = stmt_weight l.body.now + 2

abbrev pub decreases-type_always : goal.decreases-type_always
decreases-type_always l = stmt_weight l.body.now + 3

abbrev pub decreases-type_headed : goal.decreases-type_headed
decreases-type_headed l = stmt_weight l.body.now + 2

abbrev pub decreases-type_for : goal.decreases-type_for
decreases-type_for l = stmt_weight l.body.now + 3

abbrev pub invariant-type_stmts-loop-s : goal.invariant-type_stmts-loop-s
invariant-type_stmts-loop-s l = Left (whole (lookup l.known) l.in_loop) l.initial.scope l.scope l.s-items l.s-index l.typed
