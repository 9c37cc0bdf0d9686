use Rattle.std.proofs.Common.{ap, ◌∙◌, refl, Ok, Err}
use Rattle.std.proofs.lemmas.Result.{err_from_is_err_and}
use Rattle.clear_walk.specs.Runs.{around}
use Rattle.clear_walk.proofs.Walked.{by_acts}
use Rattle.clear_walk.proofs.Turns.{filled_so}
use Rattle.clear_walk.proofs.variables.make_parameter.Goals as goal

pub returns-in_err-variable : goal.returns-in_err-variable
returns-in_err-variable c =
    let q = err_from_is_err_and c.from_residual.result c.from_residual.ensures.1 in
    filled_so (around c.args.frame.now c.args.at) c.args.spot c.args.number c.args.value (Err _) c.in_err-variable.ensures (q.1 ∙ ap Err q.2, refl)

pub returns : goal.returns
returns c = filled_so (around c.args.frame.now c.args.at) c.args.spot c.args.number c.args.value (Ok _) c.in_ok-variable.ensures (by_acts c.fill.ensures)
