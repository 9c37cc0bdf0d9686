use Rattle.cond_lowering.proofs.Loops.{asked_next, asked_end}
use Rattle.std.proofs.Common.{arith, refl}
use Rattle.cond_lowering.proofs.calls.asked_by.Goals as goal

pub loop-i-preserved : goal.loop-i-preserved
loop-i-preserved c = record {
  told = asked_next c.args.pieces.now c.loop-i.i c.index-pieces-i.result _ _ _ _ c.loop-i-test.true c.index-pieces-i.is c.loop-i.invariant.told c.asked_at-count.ensures.value refl;
  small = omega (arith, c.loop-i.invariant.small, c.asked_at-count.ensures.bound);
}

pub returns : goal.returns
returns c = asked_end c.args.pieces.now c.loop-i.i c.loop-i.count c.loop-i-test.false c.loop-i.invariant.told
