use Rattle.gate_core.proofs.Truths.{stands_for_truth}
use Rattle.gate_core.proofs.laws.wires_stand_for_truth.Goals as goal

pub returns : goal.returns
returns g c = stands_for_truth g.G.Gates.calls g.G.Gates.stands g.met.G.Gates.laws
