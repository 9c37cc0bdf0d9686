use Rattle.session_shapes.proofs.Seeing.{see_no_value}
use Rattle.session_shapes.proofs.shapes_see_no_value.Goals as goal

pub returns : goal.returns
returns c = see_no_value
