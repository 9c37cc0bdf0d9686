use Rattle.std.proofs.Common.{refl, sym}
use Rattle.oc_typing.specs.Tree.{tree_of}
use Rattle.judged_scopes.proofs.Judged.{scopes}
use Rattle.accepted_sources.proofs.accepting.broken_scopes.Goals as goal

pub returns-in-Ok : goal.returns-in-Ok
returns-in-Ok c = sym ((scopes (tree_of c.args.typed.now)).0 (c.in-Ok.ensures.kept.0 refl))
