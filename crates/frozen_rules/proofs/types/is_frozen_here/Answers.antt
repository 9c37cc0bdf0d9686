use Rattle.std.proofs.Common.{◌∙◌, sym, ap}
use Rattle.oc_cells.specs.Types.{public_structs, holds_public}
use Rattle.frozen_rules.proofs.Forms.{mark_here}
use Rattle.frozen_rules.proofs.types.is_frozen_here.Goals as goal

pub returns-then-frozen : goal.returns-then-frozen
returns-then-frozen c =
    let ps = public_structs c.args.structs.now in
    rw (c.if-frozen.true, c.in-Pointer.is) (c.has_public.ensures ∙ ap (λ x. holds_public ps x) c.get.ensures ∙ sym (mark_here ps c.in-Pointer.mark c.in-Pointer.to))
