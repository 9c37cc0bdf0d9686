use Rattle.half_gates.proofs.HalfGates.{make_and}
use Rattle.half_gates.proofs.gate.half_gates_make_and.Goals as goal

pub returns : goal.returns
returns c = make_and
