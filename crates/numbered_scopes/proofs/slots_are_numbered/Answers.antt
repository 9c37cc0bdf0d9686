use Rattle.numbered_scopes.proofs.Numbered.{numbered}
use Rattle.numbered_scopes.proofs.slots_are_numbered.Goals as goal

pub returns : goal.returns
returns c = numbered
