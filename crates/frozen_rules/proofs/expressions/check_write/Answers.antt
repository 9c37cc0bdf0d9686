use Rattle.frozen_rules.specs.Scopes.{facts_of, around}
use Rattle.frozen_rules.proofs.Nodes.{write_so}
use Rattle.frozen_rules.proofs.expressions.check_write.Goals as goal

pub returns : goal.returns
returns c = write_so (around c.args.typed.now c.args.f.now) (facts_of c.args.w) c.args.place.now _ _ c.write_rule.ensures c.keeps_public.ensures c.keep.ensures
