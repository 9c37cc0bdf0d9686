use Rattle.std.proofs.Common.{refl}
use Rattle.std.proofs.lemmas.Result.{err_from_is_err_and}
use Rattle.type_steps.proofs.Steps.{go, stop}
use Rattle.call_steps.proofs.Giving.{refused}
use Rattle.call_steps.proofs.prints.print_without_text.Goals as goal

pub returns-in_err-need_alone : goal.returns-in_err-need_alone
returns-in_err-need_alone c =
    let q = err_from_is_err_and c.from_residual.result c.from_residual.ensures.1 in
    λ a. stop _ _ c.in_err-need_alone.ensures q.1 q.2

pub returns-in_err-needs : goal.returns-in_err-needs
returns-in_err-needs c =
    let q = err_from_is_err_and c.from_residual-in_err-needs.result c.from_residual-in_err-needs.ensures.1 in
    λ a. go _ _ c.in_ok-need_alone.ensures (stop _ _ c.in_err-needs.ensures q.1 q.2)

pub returns : goal.returns
returns c = λ a. go _ _ c.in_ok-need_alone.ensures (go _ _ c.in_ok-needs.ensures (refused _ _ _ _ refl))
