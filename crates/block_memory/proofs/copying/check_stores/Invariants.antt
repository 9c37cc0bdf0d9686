use Rattle.std.proofs.Common.{◌≡◌, length, drop}
use Rattle.oc_cells.specs.Layout.{leaves}
use Rattle.oc_cells.specs.Memory.{all_storable}
use Rattle.block_memory.specs.Content.{further}
use Rattle.block_memory.proofs.copying.check_stores.Given as goal

abbrev pub invariant-loop-place : goal.invariant-loop-place
invariant-loop-place g l = (l.place-end ≡ length (leaves l.table l.ty)) × (all_storable l.blocks l.at (leaves l.table l.ty) ≡ all_storable l.blocks (further l.at l.place) (drop l.place (leaves l.table l.ty)))
