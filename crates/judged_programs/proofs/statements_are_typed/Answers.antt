use Rattle.judged_programs.proofs.Judged.{statements}
use Rattle.judged_programs.proofs.statements_are_typed.Goals as goal

pub returns : goal.returns
returns c = statements
