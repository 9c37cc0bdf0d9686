use Rattle.std.proofs.Common.{inl, inr}
use Rattle.std.specs.Option.{option_copied}
use Rattle.block_memory.proofs.Sizes.{leaf_in_array, no_leaf_in_array}
use Rattle.block_memory.proofs.layout.+leaf_at.Goals as goal

pub returns-then-cells-eq0 : goal.returns-then-cells-eq0
returns-then-cells-eq0 t c = no_leaf_in_array c.args.table.now c.in-Array.len c.args.number c.count_cells-cells.result c.in-Array.of c.get-of.result.now c.args.ty.now c.in-Array.is c.get-of.ensures c.count_cells-cells.ensures (inl c.if-cells-eq0.true)

pub returns-then-number-cells : goal.returns-then-number-cells
returns-then-number-cells t c = no_leaf_in_array c.args.table.now c.in-Array.len c.args.number c.count_cells-cells.result c.in-Array.of c.get-of.result.now c.args.ty.now c.in-Array.is c.get-of.ensures c.count_cells-cells.ensures (inr c.if-number-cells.true)

pub returns-else-number-cells : goal.returns-else-number-cells
returns-else-number-cells t c = leaf_in_array c.args.table.now c.in-Array.len c.args.number c.count_cells-cells.result c.in-Array.of c.get-of.result.now c.args.ty.now (option_copied c.leaf_at.result) c.in-Array.is c.get-of.ensures c.count_cells-cells.ensures c.if-cells-eq0.false c.if-number-cells.false c.leaf_at.ensures
