use Rattle.growing_runs.proofs.Calls.{stays_in_budget}
use Rattle.growing_runs.proofs.runs_stay_in_budget.Goals as goal

pub returns : goal.returns
returns c = stays_in_budget
