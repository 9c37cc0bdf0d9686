use Rattle.std.proofs.Common.{ap, ◌∙◌, refl, Ok, Err}
use Rattle.std.proofs.lemmas.Result.{err_from_is_err_and}
use Rattle.oc_walk.specs.Cells.{Only, sets}
use Rattle.clear_actions.specs.Acting.{bare}
use Rattle.clear_walk.proofs.Actions.{act_do, updates_so, ready_so, new_so}
use Rattle.clear_walk.proofs.updates.update.Goals as goal

pub returns-in_err-operand : goal.returns-in_err-operand
returns-in_err-operand c =
    let q = err_from_is_err_and c.from_residual-in_err-operand.result c.from_residual-in_err-operand.ensures.1 in
    updates_so c.args.spot c.args.op c.args.place.now.spot c.args.place.now.ty c.args.ty.now c.args.at c.args.enabled c.args.value c.in_ok-old.old c.in_ok-old.ensures
    (ready_so c.args.spot c.args.op c.args.place.now.spot c.args.place.now.ty c.args.ty.now c.args.at c.args.enabled c.args.value c.in_ok-old.old (Err _) c.in_err-operand.ensures (q.1 ∙ ap Err q.2, refl))

pub returns-in_err-new : goal.returns-in_err-new
returns-in_err-new c =
    let q = err_from_is_err_and c.from_residual-in_err-new.result c.from_residual-in_err-new.ensures.1 in
    updates_so c.args.spot c.args.op c.args.place.now.spot c.args.place.now.ty c.args.ty.now c.args.at c.args.enabled c.args.value c.in_ok-old.old c.in_ok-old.ensures
    (ready_so c.args.spot c.args.op c.args.place.now.spot c.args.place.now.ty c.args.ty.now c.args.at c.args.enabled c.args.value c.in_ok-old.old (Ok c.in_ok-operand.operand) c.in_ok-operand.ensures
    (new_so c.args.spot c.args.op c.args.place.now.spot c.args.place.now.ty c.args.ty.now c.args.at c.args.enabled c.args.value c.in_ok-operand.operand (Err _) c.in_err-new.ensures (q.1 ∙ ap Err q.2, refl)))

pub returns : goal.returns
returns c =
    updates_so c.args.spot c.args.op c.args.place.now.spot c.args.place.now.ty c.args.ty.now c.args.at c.args.enabled c.args.value c.in_ok-old.old c.in_ok-old.ensures
    (ready_so c.args.spot c.args.op c.args.place.now.spot c.args.place.now.ty c.args.ty.now c.args.at c.args.enabled c.args.value c.in_ok-old.old (Ok c.in_ok-operand.operand) c.in_ok-operand.ensures
    (new_so c.args.spot c.args.op c.args.place.now.spot c.args.place.now.ty c.args.ty.now c.args.at c.args.enabled c.args.value c.in_ok-operand.operand (Ok c.in_ok-new.new) c.in_ok-new.ensures
    (act_do (sets bare c.args.place.now.spot c.args.enabled c.args.place.now.ty (Only c.args.at) c.in_ok-new.new) c.args.m.now c.write_cell.new.store c.write_cell.ensures)))
