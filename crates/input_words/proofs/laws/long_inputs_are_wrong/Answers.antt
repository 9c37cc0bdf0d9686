use Rattle.input_words.proofs.LongInputs.{long_wrong}
use Rattle.input_words.proofs.laws.long_inputs_are_wrong.Goals as goal

pub returns : goal.returns
returns c = long_wrong
