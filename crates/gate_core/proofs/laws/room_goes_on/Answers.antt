use Rattle.gate_core.proofs.Affording.{list_parts_afford}
use Rattle.gate_core.proofs.laws.room_goes_on.Goals as goal

pub returns : goal.returns
returns g c = list_parts_afford g.G.Gates.calls
