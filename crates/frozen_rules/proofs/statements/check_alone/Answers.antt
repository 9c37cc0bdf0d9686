use Rattle.std.proofs.Common.{◌∙◌, ap, refl, Err}
use Rattle.std.proofs.lemmas.Result.{err_from_is_err_and}
use Rattle.frozen_rules.proofs.Sequences.{stopped, finished}
use Rattle.frozen_rules.proofs.statements.check_alone.Goals as goal

pub returns-in_err-check_expr : goal.returns-in_err-check_expr
returns-in_err-check_expr c =
    let q = err_from_is_err_and c.from_residual.result c.from_residual.ensures.1 in
    stopped c.in_err-check_expr.ensures (q.1 ∙ ap Err q.2)

pub returns : goal.returns
returns c = finished c.in_ok-check_expr.ensures refl
