use Rattle.block_memory.proofs.Sizes.{counts_array}
use Rattle.block_memory.proofs.layout.+count_cells.Goals as goal

pub returns-in-Array : goal.returns-in-Array
returns-in-Array t c = counts_array c.args.table.now c.in-Array.len c.count_cells.result c.saturating_mul.result c.in-Array.of c.get.result.now c.args.ty.now c.in-Array.is c.get.ensures c.count_cells.ensures c.saturating_mul.ensures
