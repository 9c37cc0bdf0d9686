use Rattle.std.proofs.Common.{refl}
use Rattle.std.proofs.lemmas.Result.{err_from_is_err_and}
use Rattle.type_steps.proofs.Steps.{go, stop, fine}
use Rattle.typed_headings.proofs.headings.judged_heading.Goals as goal

pub returns-in_err-heading : goal.returns-in_err-heading
returns-in_err-heading c =
    let q = err_from_is_err_and c.from_residual.result c.from_residual.ensures.1 in
    stop _ _ c.in_err-heading.ensures q.1 q.2

pub returns-in_err-need_standing : goal.returns-in_err-need_standing
returns-in_err-need_standing c =
    let q = err_from_is_err_and c.from_residual-in_err-need_standing.result c.from_residual-in_err-need_standing.ensures.1 in
    go _ _ c.in_ok-heading.ensures (stop _ _ c.in_err-need_standing.ensures q.1 q.2)

pub returns : goal.returns
returns c = go _ _ c.in_ok-heading.ensures (go _ _ c.in_ok-need_standing.ensures (fine refl))
