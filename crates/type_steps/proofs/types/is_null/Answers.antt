use Rattle.std.proofs.Common.{sym, ap, ◌∙◌}
use Rattle.type_rules.specs.Judging.{is_nothing, is_null}
use Rattle.type_steps.proofs.Views.{null_at}
use Rattle.type_steps.proofs.types.is_null.Goals as goal

pub returns-in-Pointer : goal.returns-in-Pointer
returns-in-Pointer c = c.is_nothing.ensures ∙ (ap is_nothing c.get.ensures ∙ (sym (null_at c.in-Pointer.frozen _) ∙ ap is_null (sym c.in-Pointer.is)))
