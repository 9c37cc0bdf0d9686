use Rattle.std.proofs.Common.{refl}
use Rattle.typed_statements.proofs.Walks.{asked}
use Rattle.typed_statements.proofs.values.alone_in.Goals as goal

pub returns : goal.returns
returns c = asked _ _ c.args.scope.now (λ _. refl) c.requires c.type_alone.ensures
