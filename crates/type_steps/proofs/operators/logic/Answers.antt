use Rattle.std.proofs.lemmas.Result.{err_from_is_err_and}
use Rattle.type_steps.proofs.Steps.{go, stop}
use Rattle.type_steps.proofs.operators.logic.Goals as goal

pub returns-in_err-need_integers : goal.returns-in_err-need_integers
returns-in_err-need_integers c =
    let q = err_from_is_err_and c.from_residual.result c.from_residual.ensures.1 in
    stop _ _ c.in_err-need_integers.ensures q.1 q.2

pub returns : goal.returns
returns c =
    go _ _ c.in_ok-need_integers.ensures (c.joined.ensures)
