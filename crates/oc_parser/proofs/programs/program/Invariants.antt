use Rattle.std.proofs.Common.{length}
use Rattle.oc_grammar.specs.Parsing.{Leaves}
use Rattle.oc_parser.specs.Programs.{Whole, AtEnd}
use Rattle.oc_parser.proofs.Wholes.{Further}
use Rattle.oc_parser.proofs.programs.program.Given as goal

abbrev pub invariant-loop-rest : goal.invariant-loop-rest
invariant-loop-rest l = Leaves (Whole l.fn.end) AtEnd l.tokens (Further l.found) l.rest

abbrev pub decreases-loop-rest : goal.decreases-loop-rest
decreases-loop-rest l = length l.rest
