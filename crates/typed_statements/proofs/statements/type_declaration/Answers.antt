use Rattle.std.proofs.lemmas.Result.{err_from_is_err_and}
use Rattle.typed_statements.proofs.Walks.{walks, halts, still}
use Rattle.typed_statements.proofs.statements.type_declaration.Goals as goal

pub returns-in_err-list : goal.returns-in_err-list
returns-in_err-list c =
    let q = err_from_is_err_and c.from_residual.result c.from_residual.ensures.1 in
    halts _ _ c.in_err-list.ensures q.1 q.2

pub returns : goal.returns
returns c = walks _ _ c.in_ok-list.ensures (still _ _ c.in_ok-list.ensures.ended.1.sound)
