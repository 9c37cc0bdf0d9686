use Rattle.std.proofs.Common.{sym}
use Rattle.oc_cells.specs.Memory.{written}
use Rattle.block_memory.proofs.Writes.{update_past}
use Rattle.block_memory.proofs.cells.write_cell.Goals as goal

pub returns-else-place-len : goal.returns-else-place-len
returns-else-place-len g c = sym (update_past (written c.args.value) c.args.cells.now c.args.place (rw (← c.len.ensures) c.if-place-len.false))
