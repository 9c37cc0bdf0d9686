-- The definitions at each form of a type, as the code opens it.
use Rattle.std.proofs.Common.{◌≡◌, refl, ℕ, Bool, false, nat_eq}
use Rattle.std.specs.Prelude.{◌&&◌, not}
use Rattle.oc_cells.specs.declared.types.CType.{CType, Pointer, Array}
use Rattle.oc_cells.specs.declared.types.CType.TheBlock.{hidden-the_row-CType-0}
use denote.Hole.Carrier.{hidden}
use Rattle.oc_cells.specs.Types.{same, marks_agree, target}
use Rattle.type_rules.specs.Judging.{is_nothing, is_null, leads, bare, element}

module _ (f : Bool) (t : CType) where
  pub null_at : is_null (Pointer f t) ≡ is_nothing t
  unfolding hidden-the_row-CType-0 hidden
  null_at = refl

  pub pointer_at : leads (Pointer f t) ≡ not (is_nothing t)
  unfolding hidden-the_row-CType-0 hidden
  pointer_at = refl

  pub bare_at : bare (Pointer f t) ≡ Pointer f (bare t)
  unfolding hidden-the_row-CType-0 hidden
  bare_at = refl

pub same_pointers : (m f g : Bool) (t s : CType) → same m (Pointer f t) (Pointer g s) ≡ (marks_agree m f g && same m t s)
unfolding hidden-the_row-CType-0 hidden
same_pointers m f g t s = refl

pub same_arrays : (m : Bool) (j k : ℕ) (t s : CType) → same m (Array j t) (Array k s) ≡ (nat_eq j k && same m t s)
unfolding hidden-the_row-CType-0 hidden
same_arrays m j k t s = refl

pub same_bare_pointers : (f g : Bool) (t s : CType) → same false (bare (Pointer f t)) (bare (Pointer g s)) ≡ same false (bare t) (bare s)
unfolding hidden-the_row-CType-0 hidden
same_bare_pointers f g t s = refl

pub same_bare_arrays : (j k : ℕ) (t s : CType) → same false (bare (Array j t)) (bare (Array k s)) ≡ (nat_eq j k && same false (bare t) (bare s))
unfolding hidden-the_row-CType-0 hidden
same_bare_arrays j k t s = refl

pub target_at : (f : Bool) (t : CType) → target (Pointer f t) ≡ t
unfolding hidden-the_row-CType-0 hidden
target_at f t = refl

pub element_at : (n : ℕ) (t : CType) → element (Array n t) ≡ t
unfolding hidden-the_row-CType-0 hidden
element_at n t = refl
