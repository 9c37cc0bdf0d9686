use Rattle.judged_scopes.proofs.Judged.{scopes}
use Rattle.judged_scopes.proofs.scopes_are_judged.Goals as goal

pub returns : goal.returns
returns c = scopes
