use Rattle.std.proofs.Common.{◌∙◌, sym}
use Rattle.block_memory.proofs.Copies.{copied_start, copied_step, copied_end}
use Rattle.block_memory.proofs.copying.copy_all.Goals as goal

pub loop-place-init : goal.loop-place-init
loop-place-init g c = copied_start c.args.count c.args.blocks.now c.args.to c.args.from

pub loop-place-preserved : goal.loop-place-preserved
loop-place-preserved g c = c.loop-place.invariant ∙ copied_step _ _ _ _ c.args.to c.args.from c.loop-place-test.true c.copy_one.ensures

pub returns : goal.returns
returns g c = sym (c.loop-place.invariant ∙ copied_end c.args.count c.loop-place.place _ _ _ c.loop-place-test.false)
