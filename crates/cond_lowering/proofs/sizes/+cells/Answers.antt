use Rattle.cond_lowering.proofs.Capped.{array_capped}
use Rattle.cond_lowering.proofs.sizes.+cells.Goals as goal

pub returns-in-Array : goal.returns-in-Array
returns-in-Array t c = array_capped c.args.table.now c.in-Array.len c.in-Array.of c.args.ty.now c.cells-each.result c.capped.result c.in-Array.is (rw c.get.ensures at c.cells-each.ensures) c.capped.ensures
