use Rattle.gate_core.proofs.Putting.{plays_onward}
use Rattle.gate_core.proofs.laws.gates_join.Goals as goal

pub returns : goal.returns
returns g c = plays_onward g.G.Gates.calls
