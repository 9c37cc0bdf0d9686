use Rattle.word_circuits.proofs.Operating.{has_ands}
use Rattle.word_circuits.proofs.laws.fragments_have_ands.Goals as goal

pub returns : goal.returns
returns c = has_ands
