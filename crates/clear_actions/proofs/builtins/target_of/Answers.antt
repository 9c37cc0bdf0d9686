use Rattle.std.proofs.Common.{sym, ap, ◌∙◌}
use Rattle.oc_cells.specs.Types.{target}
use Rattle.clear_actions.proofs.Views.{target_at}
use Rattle.clear_actions.proofs.builtins.target_of.Goals as goal

pub returns-in-Pointer : goal.returns-in-Pointer
returns-in-Pointer c = c.get.ensures ∙ (sym (target_at c.in-Pointer.frozen _) ∙ ap target (sym c.in-Pointer.is))
