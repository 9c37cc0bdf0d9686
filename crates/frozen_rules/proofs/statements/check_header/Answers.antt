use Rattle.std.proofs.Common.{◌∙◌, ap, Err, Ok}
use Rattle.std.proofs.lemmas.Result.{err_from_is_err_and}
use Rattle.frozen_rules.proofs.Sequences.{failed, passed, stopped, finished, value_is}
use Rattle.frozen_rules.proofs.statements.check_header.Goals as goal

pub returns-in_err-last : goal.returns-in_err-last
returns-in_err-last c =
    let q = err_from_is_err_and c.from_residual.result c.from_residual.ensures.1 in
    failed _ c.in_err-last.ensures (q.1 ∙ ap Err q.2)

pub returns-in_err-check_maybe : goal.returns-in_err-check_maybe
returns-in_err-check_maybe c =
    let q = err_from_is_err_and c.from_residual-in_err-check_maybe.result c.from_residual-in_err-check_maybe.ensures.1 in
    passed c.in_ok-last.ensures (stopped c.in_err-check_maybe.ensures (q.1 ∙ ap Err q.2))

pub returns : goal.returns
returns c = passed c.in_ok-last.ensures (finished c.in_ok-check_maybe.ensures (ap Ok (value_is c.in_ok-last.ensures)))
