use Rattle.std.proofs.lemmas.Result.{err_from_is_err_and}
use Rattle.typed_statements.proofs.Walks.{walks, halts, still}
use Rattle.typed_statements.proofs.values.optional_in.Goals as goal

pub returns-in-None : goal.returns-in-None
returns-in-None c = rw c.in-None.is (still _ _ c.requires)

pub returns-in_err-value-in-Some : goal.returns-in_err-value-in-Some
returns-in_err-value-in-Some c =
    let q = err_from_is_err_and c.from_residual.result c.from_residual.ensures.1 in
    rw c.in-Some.is (halts _ _ (rw c.get.ensures at c.in_err-value-in-Some.ensures) q.1 q.2)

pub returns-in_ok-value-in-Some : goal.returns-in_ok-value-in-Some
returns-in_ok-value-in-Some c = rw c.in-Some.is (walks _ _ (rw c.get.ensures at c.in_ok-value-in-Some.ensures) (still _ _ c.requires))
