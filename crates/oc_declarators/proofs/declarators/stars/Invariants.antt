use Rattle.std.proofs.Common.{◌≤◌, length}
use Rattle.oc_grammar.specs.Parsing.{Leaves, Loop}
use Rattle.oc_grammar.specs.WrittenTypes.{Stars}
use Rattle.oc_declarators.specs.Continuations.{NoStar}
use Rattle.oc_declarators.proofs.Names.{StarStep}
use Rattle.oc_declarators.proofs.declarators.stars.Given as goal

abbrev pub invariant-loop-after : goal.invariant-loop-after
invariant-loop-after l = record {
  reads : Leaves Stars NoStar l.tokens (Loop StarStep l.count) l.rest;
  shorter : length l.rest ≤ length l.tokens;
}

abbrev pub decreases-loop-after : goal.decreases-loop-after
decreases-loop-after l = length l.rest
