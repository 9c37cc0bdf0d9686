use Rattle.std.proofs.lemmas.Result.{err_from_is_err_and}
use Rattle.type_steps.proofs.Steps.{go, stop}
use Rattle.type_steps.proofs.operators.cast.Goals as goal

pub returns-in_err-need_integer_type : goal.returns-in_err-need_integer_type
returns-in_err-need_integer_type c =
    let q = err_from_is_err_and c.from_residual.result c.from_residual.ensures.1 in
    stop _ _ c.in_err-need_integer_type.ensures q.1 q.2

pub returns-in_err-need_conversion : goal.returns-in_err-need_conversion
returns-in_err-need_conversion c =
    let q = err_from_is_err_and c.from_residual-in_err-need_conversion.result c.from_residual-in_err-need_conversion.ensures.1 in
    go _ _ c.in_ok-need_integer_type.ensures (stop _ _ c.in_err-need_conversion.ensures q.1 q.2)

pub returns : goal.returns
returns c =
    go _ _ c.in_ok-need_integer_type.ensures (go _ _ c.in_ok-need_conversion.ensures (c.turned.ensures))
