use Rattle.growing_runs.proofs.Calls.{walks_add}
use Rattle.growing_runs.proofs.walks_only_add.Goals as goal

pub returns : goal.returns
returns c = walks_add
