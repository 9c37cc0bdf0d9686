use Rattle.std.proofs.Common.{◌≡◌, ◌-◌}
use Rattle.oc_cells.specs.Memory.{copied}
use Rattle.block_memory.specs.Content.{further}
use Rattle.block_memory.proofs.copying.copy_all.Given as goal

abbrev pub invariant-loop-place : goal.invariant-loop-place
invariant-loop-place g l = copied l.count l.initial.blocks l.to l.from ≡ copied (l.count - l.place) l.blocks (further l.to l.place) (further l.from l.place)
