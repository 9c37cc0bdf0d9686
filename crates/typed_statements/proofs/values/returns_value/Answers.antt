use Rattle.std.proofs.Common.{refl}
use Rattle.std.proofs.lemmas.Result.{err_from_is_err_and}
use Rattle.type_steps.proofs.Steps.{go, stop, fine}
use Rattle.typed_statements.proofs.values.returns_value.Goals as goal

pub returns-in_err-needs : goal.returns-in_err-needs
returns-in_err-needs c =
    let q = err_from_is_err_and c.from_residual.result c.from_residual.ensures.1 in
    stop _ _ (rw c.is_nothing.ensures at c.in_err-needs.ensures) q.1 q.2

pub returns-in_err-value : goal.returns-in_err-value
returns-in_err-value c =
    let q = err_from_is_err_and c.from_residual-in_err-value.result c.from_residual-in_err-value.ensures.1 in
    go _ _ (rw c.is_nothing.ensures at c.in_ok-needs.ensures) (stop _ _ c.in_err-value.ensures q.1 q.2)

pub returns : goal.returns
returns c = go _ _ (rw c.is_nothing.ensures at c.in_ok-needs.ensures) (go _ _ c.in_ok-value.ensures (fine refl))
