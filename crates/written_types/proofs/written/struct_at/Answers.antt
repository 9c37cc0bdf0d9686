use Rattle.std.proofs.Common.{refl}
use Rattle.std.proofs.lemmas.Result.{err_from_is_err_and}
use Rattle.type_steps.proofs.Steps.{go, stop, fine}
use Rattle.written_types.proofs.written.struct_at.Goals as goal

pub returns-in_err-need_defined-clause-typed : goal.returns-in_err-need_defined-clause-typed
returns-in_err-need_defined-clause-typed c =
    let q = err_from_is_err_and c.from_residual.result c.from_residual.ensures.1 in
    stop _ _ c.in_err-need_defined.ensures q.1 q.2

pub returns-clause-typed : goal.returns-clause-typed
returns-clause-typed c = go _ _ c.in_ok-need_defined.ensures (fine refl)
