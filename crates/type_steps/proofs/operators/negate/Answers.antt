use Rattle.std.proofs.lemmas.Result.{err_from_is_err_and}
use Rattle.type_steps.proofs.Steps.{go, stop}
use Rattle.type_steps.proofs.operators.negate.Goals as goal

pub returns-in_err-need_integer : goal.returns-in_err-need_integer
returns-in_err-need_integer c =
    let q = err_from_is_err_and c.from_residual.result c.from_residual.ensures.1 in
    stop _ _ c.in_err-need_integer.ensures q.1 q.2

pub returns : goal.returns
returns c =
    go _ _ c.in_ok-need_integer.ensures (c.negated.ensures)
