use Rattle.std.proofs.Common.{◌<◌, length}
use Rattle.oc_grammar.specs.Parsing.{Leaves, Loop}
use Rattle.oc_grammar.specs.WrittenTypes.{Commas}
use Rattle.oc_grammar.specs.Statements.{Initialised}
use Rattle.oc_grammar.proofs.Lists.{CommaStep}
use Rattle.oc_expressions.specs.Continuations.{ListEnds}
use Rattle.oc_statements.proofs.declarations.listed.Given as goal

abbrev pub invariant-loop-after : goal.invariant-loop-after
invariant-loop-after l = record {
  reads : Leaves (Commas (Initialised l.base)) ListEnds l.tokens (Loop (CommaStep (Initialised l.base)) l.found) l.rest;
  shorter : length l.rest < length l.tokens;
}

abbrev pub decreases-loop-after : goal.decreases-loop-after
decreases-loop-after l = length l.rest
