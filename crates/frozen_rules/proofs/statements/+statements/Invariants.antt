use Rattle.std.proofs.Common.{◌≡◌, ◌+◌, drop}
use Rattle.numbered_scopes.specs.Numbered.{numbered_stmts}
use Rattle.frozen_rules.proofs.Sequences.{Left}
use Rattle.frozen_rules.specs.Scopes.{facts_of, around}
use Rattle.frozen_rules.specs.Lists.{last_all}
use Rattle.frozen_rules.proofs.Weight.{stmt_weight, stmts_weight, part_weight}
use Rattle.frozen_rules.proofs.statements.+statements.Given as goal

abbrev pub decreases-check_stmt : goal.decreases-check_stmt
decreases-check_stmt l = stmt_weight l.s.now

abbrev pub decreases-check_part : goal.decreases-check_part
decreases-check_part l = stmt_weight l.body.now + 1

abbrev pub decreases-check_other : goal.decreases-check_other
decreases-check_other l = part_weight l.no.now + 1

abbrev pub decreases-check_list : goal.decreases-check_list
decreases-check_list l = stmts_weight l.ss.now + 1

abbrev pub invariant-check_list-loop-s : goal.invariant-check_list-loop-s
invariant-check_list-loop-s l = record {
  left : Left (numbered_stmts (around l.typed l.f) (facts_of l.w) l.last (drop l.s-index l.ss)) (numbered_stmts (around l.typed l.f) (facts_of l.w) l.initial.last l.ss);
  slots : last_all l.last (drop l.s-index l.ss) ≡ last_all l.initial.last l.ss;
}
