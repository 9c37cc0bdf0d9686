use Rattle.std.proofs.Common.{◌≡◌, Result, Ok, Err, IfOk, sym, ap, ◌∙◌}
use Rattle.oc_values.specs.declared.lists.NoMemory.{NoMemory}
use Rattle.oc_cells.specs.declared.types.CType.{CType}
use Rattle.type_rules.specs.Judging.{element}
use Rattle.type_steps.proofs.Views.{element_at}
use Rattle.type_steps.proofs.types.element_of.Goals as goal

same_ok : (r : Result CType NoMemory) (s t : CType) → IfOk r (λ x. x ≡ s) → s ≡ t → IfOk r (λ x. x ≡ t)
same_ok (Ok x) s t h e = h ∙ e
same_ok (Err x) s t h e = h

pub returns-in-Array : goal.returns-in-Array
returns-in-Array c = same_ok _ _ _ c.share_type.ensures (c.get.ensures ∙ (sym (element_at c.in-Array.len _) ∙ ap element (sym c.in-Array.is)))
