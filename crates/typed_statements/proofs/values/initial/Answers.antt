use Rattle.std.proofs.Common.{refl}
use Rattle.std.proofs.lemmas.Result.{err_from_is_err_and}
use Rattle.typed_statements.proofs.Walks.{walks, halts, still, asked}
use Rattle.typed_statements.proofs.values.initial.Goals as goal

pub returns-in-None : goal.returns-in-None
returns-in-None c = rw c.in-None.is (still _ _ c.requires)

pub returns-in_err-value-in-Some : goal.returns-in_err-value-in-Some
returns-in_err-value-in-Some c =
    let q = err_from_is_err_and c.from_residual.result c.from_residual.ensures.1 in
    rw c.in-Some.is (halts _ _ (rw c.get.ensures at c.in_err-value-in-Some.ensures) q.1 q.2)

pub returns-in_err-value-in-Some-2 : goal.returns-in_err-value-in-Some-2
returns-in_err-value-in-Some-2 c =
    let q = err_from_is_err_and c.from_residual-in_err-value-in-Some-2.result c.from_residual-in_err-value-in-Some-2.ensures.1 in
    rw c.in-Some.is (walks _ _ (rw c.get.ensures at c.in_ok-value-in-Some.ensures) (halts _ _ (asked _ _ c.args.scope.now (λ _. refl) c.requires c.in_err-value-in-Some-2.ensures) q.1 q.2))

pub returns-in_ok-value-in-Some-2 : goal.returns-in_ok-value-in-Some-2
returns-in_ok-value-in-Some-2 c =
    rw c.in-Some.is (walks _ _ (rw c.get.ensures at c.in_ok-value-in-Some.ensures) (walks _ _ (asked _ _ c.args.scope.now (λ _. refl) c.requires c.in_ok-value-in-Some-2.ensures) (still _ _ c.requires)))
