use Rattle.std.proofs.Common.{refl}
use Rattle.std.proofs.lemmas.Result.{err_from_is_err_and}
use Rattle.type_steps.proofs.Steps.{go, stop, fine}
use Rattle.written_types.proofs.headings.judged_param.Goals as goal

pub returns-in_err-slot : goal.returns-in_err-slot
returns-in_err-slot c =
    let q = err_from_is_err_and c.from_residual.result c.from_residual.ensures.1 in
    λ xs h. stop _ _ c.in_err-slot.ensures q.1 q.2

pub returns-in_err-need_new : goal.returns-in_err-need_new
returns-in_err-need_new c =
    let q = err_from_is_err_and c.from_residual-in_err-need_new.result c.from_residual-in_err-need_new.ensures.1 in
    λ xs h. go _ _ c.in_ok-slot.ensures (stop _ _ (c.in_err-need_new.ensures xs h) q.1 q.2)

pub returns : goal.returns
returns c = λ xs h. go _ _ c.in_ok-slot.ensures (go _ _ (c.in_ok-need_new.ensures xs h) (fine refl))
