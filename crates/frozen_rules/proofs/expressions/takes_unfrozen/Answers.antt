use Rattle.frozen_rules.proofs.Nodes.{plain_own}
use Rattle.frozen_rules.proofs.expressions.takes_unfrozen.Goals as goal

pub returns-in_default : goal.returns-in_default
returns-in_default c = plain_own c.args.which.now c.in_default.not-Reveal c.in_default.not-Free
