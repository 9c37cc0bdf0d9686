use Rattle.oc_parser.proofs.Shallow.{light_shallow}
use Rattle.oc_parser.proofs.laws.light_trees_are_shallow.Goals as goal

pub returns : goal.returns
returns c = light_shallow
