use Rattle.std.proofs.Common.{ap, ◌∙◌}
use Rattle.oc_cells.specs.Layout.{size_of}
use Rattle.clear_walk.proofs.Targets.{target_is}
use Rattle.clear_walk.proofs.types.element_size.Goals as goal

pub returns-in-Pointer : goal.returns-in-Pointer
returns-in-Pointer c = c.size_of.ensures ∙ ap (λ t. size_of c.args.store.now.blocks.structs t) (c.get.ensures ∙ target_is c.args.ty.now c.in-Pointer.frozen c.in-Pointer.to c.in-Pointer.is)
