use Rattle.std.proofs.Common.{length}
use Rattle.input_words.proofs.Readings.{Going}
use Rattle.input_words.proofs.words.read_words.Given as goal

abbrev pub invariant-loop-rest : goal.invariant-loop-rest
invariant-loop-rest l = Going l.bytes l.rest l.words

abbrev pub decreases-loop-rest : goal.decreases-loop-rest
decreases-loop-rest l = length l.rest
