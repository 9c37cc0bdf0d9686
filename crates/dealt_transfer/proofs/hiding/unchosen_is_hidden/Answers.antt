use Rattle.dealt_transfer.proofs.Changes.{unchosen}
use Rattle.dealt_transfer.proofs.hiding.unchosen_is_hidden.Goals as goal

pub returns : goal.returns
returns c = unchosen
