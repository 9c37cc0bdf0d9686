use Rattle.event_gates.proofs.Copying.{handed_on}
use Rattle.event_gates.proofs.operations.operate_one.Goals as goal

pub returns-in-Plus : goal.returns-in-Plus
returns-in-Plus g c = handed_on _ _ _ _ c.args.op c.args.x.now c.copy.result c.args.gates.now c.in-Plus.is c.copy.ensures
