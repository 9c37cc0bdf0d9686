use Rattle.oc_cells.proofs.Gone.{gone_stay}
use Rattle.oc_cells.proofs.laws.gone_blocks_stay.Goals as goal

pub returns : goal.returns
returns g c = gone_stay
