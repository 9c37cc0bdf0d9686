use Rattle.std.proofs.Common.{take}
use Rattle.block_memory.specs.Content.{Adds}
use Rattle.block_memory.proofs.layout.push_known.Given as goal

abbrev pub invariant-loop-leaf : goal.invariant-loop-leaf
invariant-loop-leaf g l = Adds g.C.HiddenCell.is_zero_of (take l.leaf-index l.leaf-items) l.initial.out l.out
