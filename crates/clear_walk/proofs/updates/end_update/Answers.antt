use Rattle.std.proofs.Common.{ap, ◌∙◌, refl, Ok, Err}
use Rattle.std.proofs.lemmas.Result.{err_from_is_err_and}
use Rattle.oc_walk.specs.Cells.{Only, sets}
use Rattle.clear_actions.specs.Acting.{bare}
use Rattle.clear_walk.proofs.Actions.{act_do, act_once, ends_so, written_so}
use Rattle.clear_walk.proofs.updates.end_update.Goals as goal

pub returns-in_err-new : goal.returns-in_err-new
returns-in_err-new c =
    let q = err_from_is_err_and c.from_residual.result c.from_residual.ensures.1 in
    ends_so c.args.spot c.args.op c.args.place.now.spot c.args.place.now.ty c.args.ty.now c.args.at c.args.enabled c.args.old c.args.operand c.args.value (Err _) c.in_err-new.ensures (q.1 ∙ ap Err q.2, refl)

pub returns-in_err-write_cell : goal.returns-in_err-write_cell
returns-in_err-write_cell c =
    let q = err_from_is_err_and c.from_residual-in_err-write_cell.result c.from_residual-in_err-write_cell.ensures.1 in
    ends_so c.args.spot c.args.op c.args.place.now.spot c.args.place.now.ty c.args.ty.now c.args.at c.args.enabled c.args.old c.args.operand c.args.value (Ok c.in_ok-new.new) c.in_ok-new.ensures
    (written_so c.args.spot c.args.op c.args.place.now.spot c.args.place.now.ty c.args.ty.now c.args.at c.args.enabled c.args.old c.in_ok-new.new (Err _)
    (act_do (sets bare c.args.place.now.spot c.args.enabled c.args.place.now.ty (Only c.args.at) c.in_ok-new.new) c.args.m.now c.write_cell.new.store c.in_err-write_cell.ensures) (q.1 ∙ ap Err q.2, refl))

pub returns : goal.returns
returns c =
    ends_so c.args.spot c.args.op c.args.place.now.spot c.args.place.now.ty c.args.ty.now c.args.at c.args.enabled c.args.old c.args.operand c.args.value (Ok c.in_ok-new.new) c.in_ok-new.ensures
    (written_so c.args.spot c.args.op c.args.place.now.spot c.args.place.now.ty c.args.ty.now c.args.at c.args.enabled c.args.old c.in_ok-new.new (Ok _)
    (act_do (sets bare c.args.place.now.spot c.args.enabled c.args.place.now.ty (Only c.args.at) c.in_ok-new.new) c.args.m.now c.write_cell.new.store c.in_ok-write_cell.ensures) (act_once c.args.old refl))
