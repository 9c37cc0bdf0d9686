use Rattle.type_rules.proofs.Judged.{statements}
use Rattle.type_rules.proofs.statements_are_judged.Goals as goal

pub returns : goal.returns
returns c = statements
