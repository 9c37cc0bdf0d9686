use Rattle.judged_programs.proofs.Judged.{programs}
use Rattle.judged_programs.proofs.programs_are_judged.Goals as goal

pub returns : goal.returns
returns c = programs
