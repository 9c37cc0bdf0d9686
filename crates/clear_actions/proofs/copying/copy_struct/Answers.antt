use Rattle.clear_actions.proofs.AtOnce.{moves_so}
use Rattle.clear_actions.proofs.copying.copy_struct.Goals as goal

pub returns : goal.returns
returns c = moves_so c.args.spot c.args.enabled c.args.ty.now c.args.to c.args.value c.args.machine.now c.copy_fields.new.store c.copy_fields.result c.copy_fields.ensures
