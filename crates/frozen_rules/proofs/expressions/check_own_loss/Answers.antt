use Rattle.frozen_rules.proofs.Nodes.{lost_so}
use Rattle.frozen_rules.proofs.expressions.check_own_loss.Goals as goal

pub returns : goal.returns
returns c = lost_so c.args.e.now.spot _ _ c.loses_unfrozen.ensures c.keep.ensures
