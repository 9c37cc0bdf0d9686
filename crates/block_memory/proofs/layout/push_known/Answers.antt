use Rattle.block_memory.proofs.Growing.{adds_none, known_step, known_end}
use Rattle.block_memory.proofs.layout.push_known.Goals as goal

pub loop-leaf-init : goal.loop-leaf-init
loop-leaf-init g c = adds_none _

pub loop-leaf-preserved : goal.loop-leaf-preserved
loop-leaf-preserved g c = known_step _ _ _ _ _ _ _ c.loop-leaf.invariant c.in_ok-push_blank.ensures c.get.ensures c.leaf-item.is c.loop-leaf-test.true

pub returns : goal.returns
returns g c = known_end _ _ _ _ _ c.as_slice-leaf-items.ensures c.loop-leaf.invariant c.loop-leaf-test.false
