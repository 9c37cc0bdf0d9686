use Rattle.cond_lowering.proofs.Loops.{taken_next}
use Rattle.cond_lowering.proofs.calls.copy_pieces.Goals as goal

pub loop-i-preserved : goal.loop-i-preserved
loop-i-preserved c = taken_next _ _ c.args.pieces.now c.loop-i.i c.index-pieces-i.result c.loop-i-test.true c.index-pieces-i.is c.loop-i.invariant (rw c.in_ok-piece.ensures at c.in_ok-push.ensures.ok)
