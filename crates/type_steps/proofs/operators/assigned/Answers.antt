use Rattle.std.proofs.lemmas.Result.{err_from_is_err_and}
use Rattle.type_steps.proofs.Steps.{go, stop}
use Rattle.type_steps.proofs.operators.assigned.Goals as goal

pub returns-in_err-place : goal.returns-in_err-place
returns-in_err-place c =
    let q = err_from_is_err_and c.from_residual.result c.from_residual.ensures.1 in
    stop _ _ c.in_err-place.ensures q.1 q.2

pub returns-in_err-value : goal.returns-in_err-value
returns-in_err-value c =
    let q = err_from_is_err_and c.from_residual-in_err-value.result c.from_residual-in_err-value.ensures.1 in
    go _ _ c.in_ok-place.ensures (stop _ _ c.in_err-value.ensures q.1 q.2)

pub returns : goal.returns
returns c =
    go _ _ c.in_ok-place.ensures (go _ _ c.in_ok-value.ensures (c.stored.ensures))
