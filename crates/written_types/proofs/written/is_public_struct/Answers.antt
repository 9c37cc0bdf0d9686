use Rattle.written_types.proofs.Counting.{no_truth_at}
use Rattle.written_types.proofs.written.is_public_struct.Goals as goal

pub returns-in-None : goal.returns-in-None
returns-in-None c = no_truth_at c.args.names.now.public c.args.number c.in-None.ensures.value
