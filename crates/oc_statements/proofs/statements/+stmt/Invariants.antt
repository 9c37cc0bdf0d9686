use Rattle.std.proofs.Common.{◌+◌, ◌≤◌, ◌*◌, [], length}
use Rattle.oc_grammar.specs.Parsing.{Leaves, Any}
use Rattle.oc_statements.specs.Continuations.{Run}
use Rattle.oc_statements.proofs.statements.+stmt.Given as goal

abbrev pub decreases-stmt : goal.decreases-stmt
decreases-stmt l = 4 * length l.tokens.now

abbrev pub decreases-conditional : goal.decreases-conditional
decreases-conditional l = 4 * length l.tokens.now

abbrev pub decreases-while_loop : goal.decreases-while_loop
decreases-while_loop l = 4 * length l.tokens.now

abbrev pub decreases-for_loop : goal.decreases-for_loop
decreases-for_loop l = 4 * length l.tokens.now

abbrev pub decreases-always : goal.decreases-always
decreases-always l = 4 * length l.tokens.now

abbrev pub decreases-block : goal.decreases-block
decreases-block l = 4 * length l.tokens.now

abbrev pub decreases-step : goal.decreases-step
decreases-step l = 4 * length l.tokens.now + 1

abbrev pub decreases-steps : goal.decreases-steps
decreases-steps l = 4 * length l.tokens.now + 2

abbrev pub invariant-steps-loop-after : goal.invariant-steps-loop-after
invariant-steps-loop-after l = record {
  reads : Leaves (Run []) Any l.tokens (Run l.found) l.rest;
  shorter : length l.rest ≤ length l.tokens;
}

abbrev pub decreases-steps-loop-after : goal.decreases-steps-loop-after
decreases-steps-loop-after l = length l.rest
