use Rattle.std.proofs.Common.{refl}
use Rattle.std.proofs.lemmas.Result.{err_from_is_err_and}
use Rattle.typed_statements.proofs.Walks.{walks, halts, still, asked}
use Rattle.typed_statements.proofs.statements.type_return.Goals as goal

pub returns-in_err-value : goal.returns-in_err-value
returns-in_err-value c =
    let q = err_from_is_err_and c.from_residual.result c.from_residual.ensures.1 in
    halts _ _ c.in_err-value.ensures q.1 q.2

pub returns-in_err-value-2 : goal.returns-in_err-value-2
returns-in_err-value-2 c =
    let q = err_from_is_err_and c.from_residual-in_err-value-2.result c.from_residual-in_err-value-2.ensures.1 in
    walks _ _ c.in_ok-value.ensures (halts _ _ (asked _ _ c.args.scope.now (λ _. refl) c.requires c.in_err-value-2.ensures) q.1 q.2)

pub returns : goal.returns
returns c = walks _ _ c.in_ok-value.ensures (walks _ _ (asked _ _ c.args.scope.now (λ _. refl) c.requires c.in_ok-value-2.ensures) (still _ _ c.requires))
