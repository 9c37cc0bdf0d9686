use Rattle.std.proofs.Common.{refl}
use Rattle.std.proofs.lemmas.Result.{err_from_is_err_and}
use Rattle.type_steps.proofs.Steps.{go, stop, fine}
use Rattle.typed_structs.proofs.fields.judged_type.Goals as goal

pub returns-in_err-ty : goal.returns-in_err-ty
returns-in_err-ty c =
    let q = err_from_is_err_and c.from_residual.result c.from_residual.ensures.1 in
    λ xs h. stop _ _ c.in_err-ty.ensures q.1 q.2

pub returns-in_err-need_new : goal.returns-in_err-need_new
returns-in_err-need_new c =
    let q = err_from_is_err_and c.from_residual-in_err-need_new.result c.from_residual-in_err-need_new.ensures.1 in
    λ xs h. go _ _ c.in_ok-ty.ensures (stop _ _ (c.in_err-need_new.ensures xs h) q.1 q.2)

pub returns : goal.returns
returns c = λ xs h. go _ _ c.in_ok-ty.ensures (go _ _ (c.in_ok-need_new.ensures xs h) (fine refl))
