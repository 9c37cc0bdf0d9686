use Rattle.std.proofs.Common.{◌∙◌, ap, refl, Err}
use Rattle.std.proofs.lemmas.Result.{err_from_is_err_and}
use Rattle.frozen_rules.proofs.Sequences.{failed, passed, stopped, finished}
use Rattle.frozen_rules.proofs.statements.check_return.Goals as goal

pub returns-in_err-check_value : goal.returns-in_err-check_value
returns-in_err-check_value c =
    let q = err_from_is_err_and c.from_residual.result c.from_residual.ensures.1 in
    failed _ c.in_err-check_value.ensures (q.1 ∙ ap Err q.2)

pub returns-in_err-keep : goal.returns-in_err-keep
returns-in_err-keep c =
    let q = err_from_is_err_and c.from_residual-in_err-keep.result c.from_residual-in_err-keep.ensures.1 in
    passed c.in_ok-check_value.ensures (stopped c.in_err-keep.ensures (q.1 ∙ ap Err q.2))

pub returns : goal.returns
returns c = passed c.in_ok-check_value.ensures (finished c.in_ok-keep.ensures refl)
