use Rattle.std.proofs.Common.{length}
use Rattle.oc_lexer.proofs.Walks.{Walked}
use Rattle.oc_lexer.proofs.scan.lex.Given as goal

abbrev pub invariant-loop-rest : goal.invariant-loop-rest
invariant-loop-rest l = Walked l.source l.rest l.place l.known l.tokens

abbrev pub decreases-loop-rest : goal.decreases-loop-rest
decreases-loop-rest l = length l.rest
