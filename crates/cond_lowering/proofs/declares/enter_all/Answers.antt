use Rattle.std.proofs.Common.{sym}
use Rattle.std.proofs.lemmas.List.{append-nil}
use Rattle.cond_lowering.proofs.Exits.{enter_next, enter_ends}
use Rattle.cond_lowering.proofs.declares.enter_all.Goals as goal

pub loop-i-init : goal.loop-i-init
loop-i-init c = sym (append-nil c.args.exits.now)

pub loop-i-preserved : goal.loop-i-preserved
loop-i-preserved c = enter_next c.args.spot c.args.ds.now c.loop-i.i c.index-ds-i.result _ _ _ c.loop-i-test.true c.index-ds-i.is c.loop-i.invariant c.in_ok-push.ensures.ok

pub returns : goal.returns
returns c = enter_ends c.args.spot c.args.ds.now c.loop-i.i _ _ c.loop-i-test.false c.loop-i.invariant
