use Rattle.std.proofs.lemmas.Result.{err_from_is_err_and}
use Rattle.type_steps.proofs.Steps.{go, stop}
use Rattle.call_steps.proofs.functions.function_called.Goals as goal

pub returns-in_err-need_result : goal.returns-in_err-need_result
returns-in_err-need_result c =
    let q = err_from_is_err_and c.from_residual.result c.from_residual.ensures.1 in
    stop _ _ c.in_err-need_result.ensures q.1 q.2

pub returns-in_err-need_count : goal.returns-in_err-need_count
returns-in_err-need_count c =
    let q = err_from_is_err_and c.from_residual-in_err-need_count.result c.from_residual-in_err-need_count.ensures.1 in
    go _ _ c.in_ok-need_result.ensures (stop _ _ c.in_err-need_count.ensures q.1 q.2)

pub returns : goal.returns
returns c = go _ _ c.in_ok-need_result.ensures (go _ _ c.in_ok-need_count.ensures (c.call_value.ensures))
