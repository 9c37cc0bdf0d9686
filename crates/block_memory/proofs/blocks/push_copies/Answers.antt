use Rattle.oc_cells.specs.Layout.{leaves}
use Rattle.block_memory.proofs.Growing.{adds_none, copies_step, all_copies}
use Rattle.block_memory.proofs.blocks.push_copies.Goals as goal

pub loop-init : goal.loop-init
loop-init g c = adds_none _

pub loop-preserved : goal.loop-preserved
loop-preserved g c = copies_step c.args.out.now c.loop.out _ (leaves c.args.table.now c.args.ty.now) c.loop.counter c.loop.invariant c.in_ok-push_blanks.ensures

pub returns : goal.returns
returns g c = all_copies _ _ _ _ _ c.loop.invariant c.loop.auto.counter-end c.loop-test.false
