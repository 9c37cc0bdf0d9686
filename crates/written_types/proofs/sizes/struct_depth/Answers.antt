use Rattle.std.proofs.Common.{sym, ap, ◌∙◌}
use Rattle.std.specs.Prelude.{slice_index_or}
use Rattle.written_types.proofs.Counting.{depth_at, no_depth_at}
use Rattle.written_types.proofs.sizes.struct_depth.Goals as goal

pub returns-in-Some : goal.returns-in-Some
returns-in-Some c =
    sym (depth_at c.args.shapes.now.list c.args.number c.in-Some.shape.now c.in-Some.ensures.value) ∙ ap (λ ds. slice_index_or ds c.args.number 0) c.args.shapes.now.nested

pub returns-in-None : goal.returns-in-None
returns-in-None c =
    sym (no_depth_at c.args.shapes.now.list c.args.number c.in-None.ensures.value) ∙ ap (λ ds. slice_index_or ds c.args.number 0) c.args.shapes.now.nested
