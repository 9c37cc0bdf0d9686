use Rattle.gate_core.proofs.Reading.{reads_put_in}
use Rattle.gate_core.proofs.laws.operands_are_read.Goals as goal

pub returns : goal.returns
returns g c = reads_put_in
