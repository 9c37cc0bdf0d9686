use Rattle.clear_actions.proofs.Views.{none_made}
use Rattle.clear_actions.proofs.builtins.allocate_target.Goals as goal

pub returns-in-None : goal.returns-in-None
returns-in-None c = none_made c.args.spot _ c.args.count c.args.store.now _ c.in-None.ensures c.odd.ensures
