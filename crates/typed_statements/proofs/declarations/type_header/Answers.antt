use Rattle.std.proofs.lemmas.Result.{err_from_is_err_and}
use Rattle.typed_statements.proofs.Walks.{walks, halts, still}
use Rattle.typed_statements.proofs.declarations.type_header.Goals as goal

pub returns-in-Nothing : goal.returns-in-Nothing
returns-in-Nothing c = rw c.in-Nothing.is (still _ _ c.requires)

pub returns-in_err-list-in-Declare : goal.returns-in_err-list-in-Declare
returns-in_err-list-in-Declare c =
    let q = err_from_is_err_and c.from_residual.result c.from_residual.ensures.1 in
    rw c.in-Declare.is (halts _ _ c.in_err-list-in-Declare.ensures q.1 q.2)

pub returns-in_ok-list-in-Declare : goal.returns-in_ok-list-in-Declare
returns-in_ok-list-in-Declare c = rw c.in-Declare.is (walks _ _ c.in_ok-list-in-Declare.ensures (still _ _ c.in_ok-list-in-Declare.ensures.ended.1.sound))

pub returns-in_err-value-in-Express : goal.returns-in_err-value-in-Express
returns-in_err-value-in-Express c =
    let q = err_from_is_err_and c.from_residual-in_err-value-in-Express.result c.from_residual-in_err-value-in-Express.ensures.1 in
    rw c.in-Express.is (halts _ _ (rw c.get.ensures at c.in_err-value-in-Express.ensures) q.1 q.2)

pub returns-in_ok-value-in-Express : goal.returns-in_ok-value-in-Express
returns-in_ok-value-in-Express c = rw c.in-Express.is (walks _ _ (rw c.get.ensures at c.in_ok-value-in-Express.ensures) (still _ _ c.requires))
