use Rattle.std.proofs.Common.{◌<◌, length}
use Rattle.oc_grammar.specs.Parsing.{Leaves, Loop}
use Rattle.oc_grammar.specs.WrittenTypes.{Commas, Declr}
use Rattle.oc_grammar.proofs.Lists.{CommaStep}
use Rattle.oc_parser.specs.Continuations.{DeclaratorsEnd}
use Rattle.oc_parser.proofs.structs.listed.Given as goal

abbrev pub invariant-loop-after : goal.invariant-loop-after
invariant-loop-after l = record {
  reads : Leaves (Commas (Declr l.base)) DeclaratorsEnd l.tokens (Loop (CommaStep (Declr l.base)) l.found) l.rest;
  shorter : length l.rest < length l.tokens;
}

abbrev pub decreases-loop-after : goal.decreases-loop-after
decreases-loop-after l = length l.rest
