use Rattle.std.proofs.Common.{ap, ◌∙◌, refl, Ok, Err}
use Rattle.std.proofs.lemmas.Result.{err_from_is_err_and}
use Rattle.clear_walk.proofs.Actions.{begins_so, paired}
use Rattle.clear_walk.proofs.updates.begin_update.Goals as goal

pub returns-in_err-operand : goal.returns-in_err-operand
returns-in_err-operand c =
    let q = err_from_is_err_and c.from_residual-in_err-operand.result c.from_residual-in_err-operand.ensures.1 in
    begins_so c.args.spot c.args.op c.args.place.now.spot c.args.place.now.ty c.args.ty.now c.args.at c.in_ok-old.old (Err _) c.in_ok-old.ensures c.in_err-operand.ensures (q.1 ∙ ap Err q.2, refl)

pub returns : goal.returns
returns c =
    begins_so c.args.spot c.args.op c.args.place.now.spot c.args.place.now.ty c.args.ty.now c.args.at c.in_ok-old.old (Ok c.in_ok-operand.operand) c.in_ok-old.ensures c.in_ok-operand.ensures
    (paired c.args.spot c.args.op c.args.place.now.spot c.args.place.now.ty c.args.ty.now c.args.at c.in_ok-old.old c.in_ok-operand.operand refl)
