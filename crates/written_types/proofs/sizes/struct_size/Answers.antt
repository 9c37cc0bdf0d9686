use Rattle.std.proofs.Common.{min, sym, ap, ◌∙◌}
use Rattle.std.specs.Prelude.{slice_index_or}
use Rattle.written_types.proofs.Counting.{size_at, no_size_at}
use Rattle.written_types.proofs.sizes.struct_size.Goals as goal

pub returns-in-Some : goal.returns-in-Some
returns-in-Some c =
    c.capped.ensures
    ∙ ap (λ n. min n 65537) (sym (size_at c.args.shapes.now.list c.args.number c.in-Some.shape.now c.in-Some.ensures.value) ∙ ap (λ ss. slice_index_or ss c.args.number 0) c.args.shapes.now.sized)

pub returns-in-None : goal.returns-in-None
returns-in-None c =
    ap (λ n. min n 65537) (sym (no_size_at c.args.shapes.now.list c.args.number c.in-None.ensures.value) ∙ ap (λ ss. slice_index_or ss c.args.number 0) c.args.shapes.now.sized)
