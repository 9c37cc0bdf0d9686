use Rattle.std.proofs.lemmas.Result.{err_from_is_err_and}
use Rattle.typed_statements.proofs.Walks.{walks, halts, still}
use Rattle.typed_statements.proofs.statements.type_express.Goals as goal

pub returns-in_err-value : goal.returns-in_err-value
returns-in_err-value c =
    let q = err_from_is_err_and c.from_residual.result c.from_residual.ensures.1 in
    halts _ _ c.in_err-value.ensures q.1 q.2

pub returns : goal.returns
returns c = walks _ _ c.in_ok-value.ensures (still _ _ c.requires)
