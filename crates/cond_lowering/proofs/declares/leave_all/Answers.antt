use Rattle.std.proofs.Common.{arith}
use Rattle.cond_lowering.proofs.Exits.{leave_next, leave_ends}
use Rattle.cond_lowering.proofs.declares.leave_all.Goals as goal

pub outward-preserved : goal.outward-preserved
outward-preserved c = record {
  within = omega (arith, c.outward.invariant.within);
  rest = leave_next c.args.spot c.args.ds.now c.outward.at c.index-ds-at.result _ _ _ c.outward-test.true c.outward.invariant.within c.index-ds-at.is c.outward.invariant.rest c.in_ok-put.ensures.so;
}

pub returns : goal.returns
returns c = record { so = leave_ends c.args.spot c.args.ds.now c.outward.at _ _ c.outward-test.false c.outward.invariant.rest }
