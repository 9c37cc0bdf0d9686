use Rattle.rules_typed.proofs.Programs.{programs_typed}
use Rattle.rules_typed.proofs.programs_are_typed.Goals as goal

pub returns : goal.returns
returns c = programs_typed
