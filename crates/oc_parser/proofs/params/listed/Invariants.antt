use Rattle.std.proofs.Common.{◌<◌, length}
use Rattle.oc_grammar.specs.Parsing.{Leaves, Loop}
use Rattle.oc_grammar.specs.WrittenTypes.{Commas}
use Rattle.oc_grammar.specs.Headings.{Parameter}
use Rattle.oc_grammar.proofs.Lists.{CommaStep}
use Rattle.oc_parser.specs.Continuations.{DeclaratorsEnd}
use Rattle.oc_parser.proofs.params.listed.Given as goal

abbrev pub invariant-loop-after : goal.invariant-loop-after
invariant-loop-after l = record {
  reads : Leaves (Commas Parameter) DeclaratorsEnd l.tokens (Loop (CommaStep Parameter) l.found) l.rest;
  shorter : length l.rest < length l.tokens;
}

abbrev pub decreases-loop-after : goal.decreases-loop-after
decreases-loop-after l = length l.rest
