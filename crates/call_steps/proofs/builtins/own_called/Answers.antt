use Rattle.std.proofs.lemmas.Result.{err_from_is_err_and}
use Rattle.type_steps.proofs.Steps.{go, stop}
use Rattle.call_steps.proofs.builtins.own_called.Goals as goal

pub returns-in_err-need_value : goal.returns-in_err-need_value
returns-in_err-need_value c =
    let q = err_from_is_err_and c.from_residual.result c.from_residual.ensures.1 in
    stop _ _ c.in_err-need_value.ensures q.1 q.2

pub returns : goal.returns
returns c = go _ _ c.in_ok-need_value.ensures (c.counted_call.ensures)
