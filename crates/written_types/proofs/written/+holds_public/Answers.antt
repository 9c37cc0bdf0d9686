use Rattle.written_types.proofs.Counting.{array_public}
use Rattle.written_types.proofs.written.+holds_public.Goals as goal

pub returns-in-Array : goal.returns-in-Array
returns-in-Array t c =
    array_public c.args.names.now.public c.in-Array.len c.in-Array.of c.args.ty.now c.get.result.now c.holds_public.result c.in-Array.is c.holds_public.ensures c.get.ensures
