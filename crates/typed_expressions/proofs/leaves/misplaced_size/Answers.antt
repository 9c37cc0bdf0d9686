use Rattle.std.proofs.Common.{refl}
use Rattle.std.proofs.lemmas.Result.{err_from_is_err_and}
use Rattle.type_steps.proofs.Steps.{go, stop}
use Rattle.typed_expressions.proofs.Nodes.{refused}
use Rattle.typed_expressions.proofs.leaves.misplaced_size.Goals as goal

pub returns-in_err-base_type : goal.returns-in_err-base_type
returns-in_err-base_type c =
    let q = err_from_is_err_and c.from_residual.result c.from_residual.ensures.1 in
    stop _ _ c.in_err-base_type.ensures.typed q.1 q.2

pub returns : goal.returns
returns c = go _ _ c.in_ok-base_type.ensures.typed (refused refl)
