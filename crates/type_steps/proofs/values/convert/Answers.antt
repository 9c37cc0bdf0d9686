use Rattle.std.proofs.Common.{Ok, sym, ap}
use Rattle.std.proofs.lemmas.Result.{err_from_is_err_and}
use Rattle.type_steps.proofs.Steps.{go, stop, fine}
use Rattle.type_steps.proofs.values.convert.Goals as goal

pub returns-in_err-need_conversion : goal.returns-in_err-need_conversion
returns-in_err-need_conversion c =
    let q = err_from_is_err_and c.from_residual.result c.from_residual.ensures.1 in
    stop _ _ c.in_err-need_conversion.ensures q.1 q.2

pub returns : goal.returns
returns c =
    go _ _ c.in_ok-need_conversion.ensures (fine (ap (λ v. Ok v) (sym c.in_ok-converted.ensures)))
