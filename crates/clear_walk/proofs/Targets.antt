-- What a pointer type leads to, as the code opens it.
use Rattle.std.proofs.Common.{◌≡◌, refl, sym, ap, ◌∙◌, Bool}
use Rattle.oc_cells.specs.declared.types.CType.{CType, Pointer}
use Rattle.oc_cells.specs.declared.types.CType.TheBlock.{hidden-the_row-CType-0}
use denote.Hole.Carrier.{hidden}
use Rattle.oc_cells.specs.Types.{target}

target_at : (f : Bool) (t : CType) → target (Pointer f t) ≡ t
unfolding hidden-the_row-CType-0 hidden
target_at f t = refl

pub target_is : (u : CType) (f : Bool) (t : CType) → u ≡ Pointer f t → t ≡ target u
target_is u f t h = sym (target_at f t) ∙ ap target (sym h)
