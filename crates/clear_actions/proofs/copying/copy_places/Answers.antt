use Rattle.std.proofs.Common.{Err, IsTrue, ap, sym, subst, ◌∙◌}
use Rattle.std.proofs.lemmas.Result.{err_from_is_err_and}
use Rattle.oc_cells.specs.Layout.{leaves, has_size}
use Rattle.clear_actions.proofs.CellByCell.{left_more, left_stops}
use Rattle.clear_actions.proofs.copying.copy_places.Goals as goal

pub copy_place-requires : goal.copy_place-requires
copy_place-requires c = subst (λ lss. IsTrue (has_size (leaves lss c.args.ty.now))) (sym c.loop-place.invariant.1.1) c.requires

pub loop-place-preserved : goal.loop-place-preserved
loop-place-preserved c =
    left_more c.args.spot c.args.enabled c.args.ty.now c.args.store.now c.args.to c.args.from c.loop-place.store c.copy_place.new.store c.loop-place.place c.loop-place.target c.loop-place.source _ _ c.loop-place.invariant c.in_ok-copy_place.ensures c.ahead-target.ensures c.ahead-source.ensures

pub returns-in_err-copy_place : goal.returns-in_err-copy_place
returns-in_err-copy_place c =
    let q = err_from_is_err_and c.from_residual.result c.from_residual.ensures.1 in
    left_stops c.args.spot c.args.enabled c.args.ty.now c.args.store.now c.args.to c.args.from c.loop-place.store c.copy_place.new.store c.loop-place.place c.loop-place.target c.loop-place.source _ _ c.loop-place.invariant c.in_err-copy_place.ensures (q.1 ∙ ap Err q.2)
