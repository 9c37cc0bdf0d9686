use Rattle.accepted_sources.proofs.Judged.{judged}
use Rattle.accepted_sources.proofs.accepting.sources_are_judged.Goals as goal

pub returns : goal.returns
returns c = judged
