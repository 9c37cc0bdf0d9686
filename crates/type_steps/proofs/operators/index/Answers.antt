use Rattle.std.proofs.lemmas.Result.{err_from_is_err_and}
use Rattle.type_steps.proofs.Steps.{go, stop}
use Rattle.type_steps.proofs.operators.index.Goals as goal

pub returns-in_err-need_element : goal.returns-in_err-need_element
returns-in_err-need_element c =
    let q = err_from_is_err_and c.from_residual.result c.from_residual.ensures.1 in
    stop _ _ c.in_err-need_element.ensures q.1 q.2

pub returns-in_err-need_open : goal.returns-in_err-need_open
returns-in_err-need_open c =
    let q = err_from_is_err_and c.from_residual-in_err-need_open.result c.from_residual-in_err-need_open.ensures.1 in
    go _ _ c.in_ok-need_element.ensures (stop _ _ c.in_err-need_open.ensures q.1 q.2)

pub returns : goal.returns
returns c =
    go _ _ c.in_ok-need_element.ensures (go _ _ c.in_ok-need_open.ensures (c.indexed.ensures))
