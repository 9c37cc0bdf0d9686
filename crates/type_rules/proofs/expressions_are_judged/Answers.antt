use Rattle.type_rules.proofs.Judged.{expressions}
use Rattle.type_rules.proofs.expressions_are_judged.Goals as goal

pub returns : goal.returns
returns c = expressions
