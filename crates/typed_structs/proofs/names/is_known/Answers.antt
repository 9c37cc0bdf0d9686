use Rattle.written_types.proofs.Counting.{no_truth_at}
use Rattle.typed_structs.proofs.names.is_known.Goals as goal

pub returns-in-None : goal.returns-in-None
returns-in-None c = no_truth_at c.args.known.now c.args.number c.in-None.ensures.value
