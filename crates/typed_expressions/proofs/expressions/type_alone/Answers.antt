use Rattle.std.proofs.lemmas.Result.{err_from_is_err_and}
use Rattle.typed_expressions.proofs.Nodes.{alone_ok, alone_err}
use Rattle.typed_expressions.proofs.expressions.type_alone.Goals as goal

pub returns-in_err-found : goal.returns-in_err-found
returns-in_err-found c =
    let q = err_from_is_err_and c.from_residual.result c.from_residual.ensures.1 in
    alone_err _ _ c.in_err-found.ensures q.1 q.2

pub returns : goal.returns
returns c = alone_ok _ _ c.in_ok-found.ensures c.in_ok-value_of.ensures
