use Rattle.oc_typing.specs.Tree.{tree_of}
use Rattle.frozen_rules.proofs.Programs.{in_scope_of}
use Rattle.frozen_rules.proofs.check.Checked.tree.Goals as goal

pub returns-clause-in_scope : goal.returns-clause-in_scope
returns-clause-in_scope c = in_scope_of (tree_of c.args.self.now.typed.now) c.args.self.now.in_scope
