use Rattle.dealt_transfer.proofs.Changes.{choices}
use Rattle.dealt_transfer.proofs.hiding.choices_are_hidden.Goals as goal

pub returns : goal.returns
returns c = choices
