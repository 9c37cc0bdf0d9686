use Rattle.word_circuits.proofs.Operating.{has_width}
use Rattle.word_circuits.proofs.laws.fragments_have_widths.Goals as goal

pub returns : goal.returns
returns c = has_width
