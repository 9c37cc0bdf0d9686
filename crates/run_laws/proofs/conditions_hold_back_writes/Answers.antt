use Rattle.run_laws.proofs.Writing.{held_back, public}
use Rattle.run_laws.proofs.conditions_hold_back_writes.Goals as goal

pub returns-clause-held_back : goal.returns-clause-held_back
returns-clause-held_back c = held_back

pub returns-clause-public : goal.returns-clause-public
returns-clause-public c = public
