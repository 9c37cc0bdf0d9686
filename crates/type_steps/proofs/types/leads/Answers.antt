use Rattle.std.proofs.Common.{refl, sym, ap, ◌∙◌}
use Rattle.std.specs.Prelude.{not}
use Rattle.type_rules.specs.Judging.{is_nothing, leads}
use Rattle.type_steps.proofs.Views.{pointer_at}
use Rattle.type_steps.proofs.types.leads.Goals as goal

pub returns-in-Pointer : goal.returns-in-Pointer
returns-in-Pointer c = ap not (c.is_nothing.ensures ∙ ap is_nothing c.get.ensures) ∙ (refl ∙ (sym (pointer_at c.in-Pointer.frozen _) ∙ ap leads (sym c.in-Pointer.is)))
