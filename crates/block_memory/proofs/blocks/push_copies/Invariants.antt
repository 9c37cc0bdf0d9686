use Rattle.oc_cells.specs.Layout.{leaves, repeated}
use Rattle.block_memory.specs.Content.{Adds}
use Rattle.block_memory.proofs.blocks.push_copies.Given as goal

abbrev pub invariant-loop : goal.invariant-loop
invariant-loop g l = Adds g.C.HiddenCell.is_zero_of (repeated l.counter (leaves l.table l.ty)) l.initial.out l.out
