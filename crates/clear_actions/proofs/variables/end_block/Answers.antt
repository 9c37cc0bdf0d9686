use Rattle.std.proofs.Common.{sym, ap, ◌∙◌}
use Rattle.oc_cells.proofs.Gone.{gone_stay}
use Rattle.clear_actions.proofs.variables.end_block.Goals as goal

pub returns-else-is_live : goal.returns-else-is_live
returns-else-is_live c =
    ap (λ bs. record c.args.store.now { blocks = record c.args.store.now.blocks { blocks = bs } })
    (sym (gone_stay c.args.store.now.blocks.blocks c.args.block (sym c.is_live.ensures ∙ c.if-is_live.false)))
