use Rattle.session_shapes.proofs.Counting.{have}
use Rattle.session_shapes.proofs.events_have_ands.Goals as goal

pub returns : goal.returns
returns c = have
