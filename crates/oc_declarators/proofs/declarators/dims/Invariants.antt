use Rattle.std.proofs.Common.{◌≤◌, length}
use Rattle.oc_grammar.specs.Parsing.{Leaves, Loop}
use Rattle.oc_grammar.specs.WrittenTypes.{Dims}
use Rattle.oc_declarators.specs.Continuations.{NoBracket}
use Rattle.oc_declarators.proofs.Names.{DimStep}
use Rattle.oc_declarators.proofs.declarators.dims.Given as goal

abbrev pub invariant-loop-after : goal.invariant-loop-after
invariant-loop-after l = record {
  reads : Leaves Dims NoBracket l.tokens (Loop DimStep l.found) l.rest;
  shorter : length l.rest ≤ length l.tokens;
}

abbrev pub decreases-loop-after : goal.decreases-loop-after
decreases-loop-after l = length l.rest
