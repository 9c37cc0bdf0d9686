use Rattle.std.proofs.Common.{◌≡◌, Result, Ok, Err, IfOk, sym, ap, ◌∙◌}
use Rattle.oc_values.specs.declared.lists.NoMemory.{NoMemory}
use Rattle.oc_cells.specs.declared.types.CType.{CType}
use Rattle.oc_cells.specs.Types.{target}
use Rattle.type_steps.proofs.Views.{target_at}
use Rattle.type_steps.proofs.types.target_of.Goals as goal

same_ok : (r : Result CType NoMemory) (s t : CType) → IfOk r (λ x. x ≡ s) → s ≡ t → IfOk r (λ x. x ≡ t)
same_ok (Ok x) s t h e = h ∙ e
same_ok (Err x) s t h e = h

pub returns-in-Pointer : goal.returns-in-Pointer
returns-in-Pointer c = same_ok _ _ _ c.share_type.ensures (c.get.ensures ∙ (sym (target_at c.in-Pointer.frozen _) ∙ ap target (sym c.in-Pointer.is)))
