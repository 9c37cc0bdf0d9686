use Rattle.run_laws.proofs.Writing.{both_run}
use Rattle.run_laws.proofs.both_parts_run.Goals as goal

pub returns : goal.returns
returns c = both_run
