use Rattle.word_circuits.proofs.Operating.{binary_means, unary_means, conversion_means, choice_means, known_shift_means}
use Rattle.word_circuits.proofs.laws.fragments_compute.Goals as goal

pub returns : goal.returns
returns c = record { binary = binary_means; unary = unary_means; conversion = conversion_means; choice = choice_means; known_shift = known_shift_means }
