use Rattle.oc_grammar.proofs.Parsing.{start, ends}
use Rattle.oc_declarators.proofs.integers.int_after.Goals as goal

pub returns-in-Bool : goal.returns-in-Bool
returns-in-Bool c = rw c.in-Bool.is (ends (start _ _ _))
