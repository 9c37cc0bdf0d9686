use Rattle.cond_lowering.proofs.Loops.{taken_next}
use Rattle.cond_lowering.proofs.functions.copy_slots.Goals as goal

pub loop-i-preserved : goal.loop-i-preserved
loop-i-preserved c = taken_next _ _ c.args.slots.now c.loop-i.i c.index-slots-i.result c.loop-i-test.true c.index-slots-i.is c.loop-i.invariant (rw c.in_ok-slot.ensures at c.in_ok-push.ensures.ok)
