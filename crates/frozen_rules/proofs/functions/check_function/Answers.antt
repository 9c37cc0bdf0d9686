use Rattle.std.proofs.Common.{◌∙◌, ap, refl, Err}
use Rattle.std.proofs.lemmas.Result.{err_from_is_err_and}
use Rattle.frozen_rules.proofs.Sequences.{told_as, stopped, finished}
use Rattle.frozen_rules.proofs.Parts.{function_is}
use Rattle.frozen_rules.proofs.functions.check_function.Goals as goal

pub returns-in_err-check_list : goal.returns-in_err-check_list
returns-in_err-check_list c =
    let q = err_from_is_err_and c.from_residual.result c.from_residual.ensures.1 in
    told_as (function_is c.args.typed.now c.args.f.now _ _ _ c.of_function.ensures c.last_param.ensures c.as_slice.ensures) (stopped c.in_err-check_list.ensures (q.1 ∙ ap Err q.2))

pub returns : goal.returns
returns c =
    told_as (function_is c.args.typed.now c.args.f.now _ _ _ c.of_function.ensures c.last_param.ensures c.as_slice.ensures) (finished c.in_ok-check_list.ensures refl)
