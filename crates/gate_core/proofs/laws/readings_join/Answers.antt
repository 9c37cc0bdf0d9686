use Rattle.gate_core.proofs.Reading.{reads_onward}
use Rattle.gate_core.proofs.laws.readings_join.Goals as goal

pub returns : goal.returns
returns g c = reads_onward
