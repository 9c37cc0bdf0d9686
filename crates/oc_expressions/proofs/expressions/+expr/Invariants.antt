use Rattle.std.proofs.Common.{◌≡◌, ℕ, ◌+◌, ◌<◌, ◌≤◌, length, ◌*◌}
use Rattle.oc_grammar.specs.Parsing.{Leaves, Loop}
use Rattle.oc_grammar.specs.Tokens.{spot_at}
use Rattle.oc_grammar.specs.WrittenTypes.{Commas}
use Rattle.oc_grammar.specs.Expressions.{Expression, Ends}
use Rattle.oc_grammar.proofs.Lists.{CommaStep}
use Rattle.oc_expressions.specs.Continuations.{Below, postfixes, ListEnds}
use Rattle.oc_expressions.proofs.Operators.{Rest}
use Rattle.oc_expressions.proofs.expressions.+expr.Given as goal

abbrev pub decreases-arguments : goal.decreases-arguments
decreases-arguments l = 8 * length l.tokens.now + 6

abbrev pub decreases-before : goal.decreases-before
decreases-before l = 8 * length l.tokens.now + 5

abbrev pub decreases-binary : goal.decreases-binary
decreases-binary l = 8 * length l.tokens.now + 2

abbrev pub decreases-call : goal.decreases-call
decreases-call l = 8 * length l.tokens.now

abbrev pub decreases-cond : goal.decreases-cond
decreases-cond l = 8 * length l.tokens.now + 3

abbrev pub decreases-expr : goal.decreases-expr
decreases-expr l = 8 * length l.tokens.now + 4

abbrev pub decreases-listed : goal.decreases-listed
decreases-listed l = 8 * length l.tokens.now + 5

abbrev pub decreases-parens : goal.decreases-parens
decreases-parens l = 8 * length l.tokens.now + 6

abbrev pub decreases-postfixed : goal.decreases-postfixed
decreases-postfixed l = 8 * length l.tokens.now + 6

abbrev pub decreases-postfixes : goal.decreases-postfixes
decreases-postfixes l = 8 * length l.tokens.now

abbrev pub decreases-primary : goal.decreases-primary
decreases-primary l = 8 * length l.tokens.now

abbrev pub decreases-unary : goal.decreases-unary
decreases-unary l = 8 * length l.tokens.now + 1

abbrev pub invariant-binary-loop-level : goal.invariant-binary-loop-level
invariant-binary-loop-level l = record {
  cap : ℕ;
  above : l.least ≤ cap;
  below : Below (cap + 1) l.rest;
  reads : Leaves (Expression l.least) (Ends l.least) l.tokens (Rest (spot_at l.tokens) l.least cap l.left) l.rest;
  spot : l.spot ≡ spot_at l.tokens;
  shorter : length l.rest < length l.tokens;
}

abbrev pub decreases-binary-loop-level : goal.decreases-binary-loop-level
decreases-binary-loop-level l = length l.rest

abbrev pub invariant-listed-loop-after : goal.invariant-listed-loop-after
invariant-listed-loop-after l = record {
  reads : Leaves (Commas (Expression 1)) ListEnds l.tokens (Loop (CommaStep (Expression 1)) l.found) l.rest;
  shorter : length l.rest < length l.tokens;
}

abbrev pub decreases-listed-loop-after : goal.decreases-listed-loop-after
decreases-listed-loop-after l = length l.rest

abbrev pub invariant-postfixes-loop-postfix : goal.invariant-postfixes-loop-postfix
invariant-postfixes-loop-postfix l = record {
  reads : Leaves (postfixes l.spot l.fn.first) (Ends 13) l.tokens (postfixes l.spot l.left) l.rest;
  shorter : length l.rest ≤ length l.tokens;
}

abbrev pub decreases-postfixes-loop-postfix : goal.decreases-postfixes-loop-postfix
decreases-postfixes-loop-postfix l = length l.rest
