use Rattle.std.proofs.Common.{refl}
use Rattle.std.proofs.lemmas.Result.{err_from_is_err_and}
use Rattle.type_steps.proofs.Steps.{go, stop, fine}
use Rattle.written_types.proofs.headings.written_result.Goals as goal

pub returns-in_err-ty : goal.returns-in_err-ty
returns-in_err-ty c =
    let q = err_from_is_err_and c.from_residual.result c.from_residual.ensures.1 in
    stop _ _ c.in_err-ty.ensures q.1 q.2

pub returns-in_err-need_result : goal.returns-in_err-need_result
returns-in_err-need_result c =
    let q = err_from_is_err_and c.from_residual-in_err-need_result.result c.from_residual-in_err-need_result.ensures.1 in
    go _ _ c.in_ok-ty.ensures (stop _ _ c.in_err-need_result.ensures q.1 q.2)

pub returns : goal.returns
returns c = go _ _ c.in_ok-ty.ensures (go _ _ c.in_ok-need_result.ensures (fine refl))
