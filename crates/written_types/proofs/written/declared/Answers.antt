use Rattle.std.proofs.Common.{◌≡◌, List, ℕ, Bool, false, Result, Ok, Err, IfOk, sym, ap, ◌∙◌}
use Rattle.oc_values.specs.declared.lists.NoMemory.{NoMemory}
use Rattle.oc_cells.specs.declared.types.CType.{CType}
use Rattle.oc_cells.specs.Types.{normal}
use Rattle.type_rules.specs.Written.{arrays}
use Rattle.written_types.proofs.Forms.{normal_arrays}
use Rattle.written_types.proofs.written.declared.Goals as goal

arrays_so : (ps : List Bool) (ns ms : List ℕ) (t u : CType) (r : Result CType NoMemory) → IfOk r (λ x. x ≡ arrays ms u) → ms ≡ ns → u ≡ normal ps false t → IfOk r (λ x. x ≡ normal ps false (arrays ns t))
arrays_so ps ns ms t u (Ok x) h p q = h ∙ ap (λ ms. arrays ms u) p ∙ ap (λ u. arrays ns u) q ∙ sym (normal_arrays ps ns t)
arrays_so ps ns ms t u (Err x) h p q = h

pub returns : goal.returns
returns c = arrays_so _ _ _ _ _ _ c.arrays.ensures c.as_slice.ensures c.in_ok-pointer.ensures
