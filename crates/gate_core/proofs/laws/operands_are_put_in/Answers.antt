use Rattle.gate_core.proofs.Putting.{plays_put_in}
use Rattle.gate_core.proofs.laws.operands_are_put_in.Goals as goal

pub returns : goal.returns
returns g c = plays_put_in g.G.Gates.calls
