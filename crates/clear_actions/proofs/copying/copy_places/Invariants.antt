use Rattle.std.proofs.Common.{◌≡◌, drop}
use Rattle.oc_cells.specs.Layout.{leaves}
use Rattle.oc_walk.specs.Cells.{copies_all}
use Rattle.clear_actions.specs.Acting.{SameBlocks, bare, mem_of}
use Rattle.clear_actions.proofs.copying.copy_places.Given as goal

abbrev pub invariant-loop-place : goal.invariant-loop-place
invariant-loop-place l = (copies_all bare l.spot l.enabled (leaves l.initial.store.blocks.structs l.ty) l.fn.to l.fn.from (mem_of l.initial.store) ≡ copies_all bare l.spot l.enabled (drop l.place (leaves l.initial.store.blocks.structs l.ty)) l.target l.source (mem_of l.store)) × SameBlocks l.initial.store l.store
