use Rattle.joined_runs.proofs.Seen.{agree}
use Rattle.joined_runs.proofs.public_runs_agree.Goals as goal

pub returns : goal.returns
returns c = agree
