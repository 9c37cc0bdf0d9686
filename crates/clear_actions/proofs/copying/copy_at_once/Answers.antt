use Rattle.std.proofs.Common.{Err, refl, sym, ap, ◌∙◌}
use Rattle.block_memory.proofs.Sizes.{sized}
use Rattle.clear_actions.proofs.AtOnce.{at_once, told}
use Rattle.clear_actions.proofs.copying.copy_at_once.Goals as goal

pub returns-in-Ok : goal.returns-in-Ok
returns-in-Ok c =
    at_once c.args.spot c.args.ty.now c.args.to c.args.from c.args.store.now _ c.copy_cells.result _ c.requires.sized (sized _ c.requires.sized).1 c.requires.near
    c.is_kept.ensures.forms c.copy_cells.ensures refl (sym (ap (λ r. told r c.args.spot) c.in-Ok.is))

pub returns-in-Err : goal.returns-in-Err
returns-in-Err c =
    at_once c.args.spot c.args.ty.now c.args.to c.args.from c.args.store.now _ c.copy_cells.result _ c.requires.sized (sized _ c.requires.sized).1 c.requires.near
    c.is_kept.ensures.forms c.copy_cells.ensures refl (ap Err c.trap.ensures ∙ sym (ap (λ r. told r c.args.spot) c.in-Err.is))
