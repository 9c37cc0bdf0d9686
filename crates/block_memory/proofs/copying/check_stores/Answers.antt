use Rattle.std.proofs.Common.{◌∙◌, ap, sym, ◌<◌, ◌≤◌, subst}
use Rattle.std.specs.Option.{option_copied}
use Rattle.oc_cells.specs.Layout.{leaves}
use Rattle.block_memory.proofs.Copies.{stores_from_start, store_passes, store_fails, store_traps, stores_end, get_is_some}
use Rattle.block_memory.proofs.copying.check_stores.Goals as goal
use Rattle.block_memory.proofs.copying.check_stores.Goals.{in-Some+in-Ok+else-not-same_type, in_default}

pub loop-place-init : goal.loop-place-init
loop-place-init g c = (c.count_cells-place-end.ensures.0 c.requires, stores_from_start c.args.blocks.now c.args.at (leaves c.args.table.now c.args.ty.now))

pub returns-in-Err : goal.returns-in-Err
returns-in-Err g c =
    sym (c.loop-place.invariant.1 ∙ store_traps c.args.blocks.now c.args.at (leaves c.args.table.now c.args.ty.now) c.loop-place.place c.in-Some.leaf.now c.in-Some.leaf.now (sym (ap option_copied c.in-Some.is) ∙ c.leaf_at.ensures c.requires) c.in-Err.kind c.in-Err.ensures.trap)

pub returns-then-not-same_type : goal.returns-then-not-same_type
returns-then-not-same_type g c =
    sym (c.loop-place.invariant.1 ∙ store_fails c.args.blocks.now c.args.at (leaves c.args.table.now c.args.ty.now) c.loop-place.place c.in-Some.leaf.now c.get.result.now (sym (ap option_copied c.in-Some.is) ∙ c.leaf_at.ensures c.requires) c.in-Ok.cell.now c.in-Ok.ensures.found c.get.ensures (sym c.same_type.ensures ∙ c.if-not-same_type.true))

pub loop-place-preserved : goal.loop-place-preserved
loop-place-preserved g c = elim c.match-leaf_at.branch [
  | in-Some+in-Ok+else-not-same_type w ↦ (c.loop-place.invariant.0, c.loop-place.invariant.1 ∙ store_passes c.args.blocks.now c.args.at (leaves c.args.table.now c.args.ty.now) c.loop-place.place w.in-Some.leaf.now w.get.result.now (sym (ap option_copied w.in-Some.is) ∙ c.leaf_at.ensures c.requires) w.in-Ok.cell.now w.in-Ok.ensures.found w.get.ensures (sym w.same_type.ensures ∙ w.if-not-same_type.false))
  | in_default w ↦ absurd (get_is_some (leaves c.args.table.now c.args.ty.now) c.loop-place.place (subst (λ n. c.loop-place.place < n) c.loop-place.invariant.0 c.loop-place-test.true) (sym (c.leaf_at.ensures c.requires) ∙ ap option_copied w.in_default.is))
]

pub returns : goal.returns
returns g c = sym (c.loop-place.invariant.1 ∙ stores_end c.args.blocks.now c.args.at (leaves c.args.table.now c.args.ty.now) c.loop-place.place (subst (λ n. n ≤ c.loop-place.place) c.loop-place.invariant.0 c.loop-place-test.false))
