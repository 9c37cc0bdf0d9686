use Rattle.oc_declarators.proofs.Marks.{marked_read}
use Rattle.oc_declarators.proofs.bases.marked.Goals as goal

pub returns : goal.returns
returns c = marked_read _ _ _ _ _ _ _ c.in_ok-kind.ensures
