use Rattle.std.proofs.Common.{ℕ, ◌≡◌, ◌∙◌, sym, ap, Bool}
use Rattle.oc_cells.specs.Types.{is_frozen_pointer}
use Rattle.oc_typed.specs.declared.typed.TExpr.{TExpr}
use Rattle.oc_typed.specs.declared.typed.TPlace.{TPlace}
use Rattle.oc_typed.specs.declared.typed.TExprNode.{TExprNode, PointerStep}
use Rattle.oc_typed.specs.declared.typed.TPlaceNode.{TPlaceNode, Deref, Index, Field}
use Rattle.oc_typing.specs.Typed.{Context}
use Rattle.scope_rules.specs.Frozen.{Facts, type_here, is_frozen, from_frozen}
use Rattle.frozen_rules.specs.Scopes.{facts_of, around}
use Rattle.frozen_rules.proofs.Views.{frozen_deref, frozen_index, frozen_field, from_step}
use Rattle.frozen_rules.proofs.places.+places.Goals as goal

module _ (g : Context) (w : Facts) where
  -- whether an expression is a frozen pointer
  abbrev leads : TExpr → Bool
  leads e = is_frozen_pointer (type_here g.public (from_frozen g w e.node) e.ty)

  deref_so : (n : TPlaceNode) (x y : TExpr) → n ≡ Deref y → x ≡ y → leads x ≡ is_frozen g w n
  deref_so n x y e q = ap (λ z. leads z) q ∙ sym (frozen_deref g w y) ∙ ap (λ m. is_frozen g w m) (sym e)

  index_so : (n : TPlaceNode) (x y z : TExpr) → n ≡ Index y z → x ≡ y → leads x ≡ is_frozen g w n
  index_so n x y z e q = ap (λ v. leads v) q ∙ sym (frozen_index g w y z) ∙ ap (λ m. is_frozen g w m) (sym e)

  field_so : (n : TPlaceNode) (x y : TPlace) (k : ℕ) → n ≡ Field y k → x ≡ y → is_frozen g w x.node ≡ is_frozen g w n
  field_so n x y k e q = ap (λ (z : TPlace). is_frozen g w z.node) q ∙ sym (frozen_field g w y k) ∙ ap (λ m. is_frozen g w m) (sym e)

  step_so : (n : TExprNode) (x y z : TExpr) (back behind : Bool) → n ≡ PointerStep y z back behind → x ≡ y → from_frozen g w x.node ≡ from_frozen g w n
  step_so n x y z back behind e q = ap (λ (v : TExpr). from_frozen g w v.node) q ∙ sym (from_step g w y z back behind) ∙ ap (λ m. from_frozen g w m) (sym e)

pub comes_from_frozen-returns-in-PointerStep : goal.comes_from_frozen-returns-in-PointerStep
comes_from_frozen-returns-in-PointerStep t c =
    c.comes_from_frozen.ensures ∙ step_so (around c.args.typed.now c.args.f.now) (facts_of c.args.w) c.args.e.now.node _ c.in-PointerStep.pointer c.in-PointerStep.amount _ _ c.in-PointerStep.is c.get.ensures

pub is_frozen_place-returns-in-Deref : goal.is_frozen_place-returns-in-Deref
is_frozen_place-returns-in-Deref t c =
    c.leads_to_frozen.ensures ∙ deref_so (around c.args.typed.now c.args.f.now) (facts_of c.args.w) c.args.place.now.node _ c.in-Deref.pointer c.in-Deref.is c.get.ensures

pub is_frozen_place-returns-in-Index : goal.is_frozen_place-returns-in-Index
is_frozen_place-returns-in-Index t c =
    c.leads_to_frozen-in-Index.ensures ∙ index_so (around c.args.typed.now c.args.f.now) (facts_of c.args.w) c.args.place.now.node _ c.in-Index.pointer c.in-Index.amount c.in-Index.is c.get-in-Index.ensures

pub is_frozen_place-returns-in-Field : goal.is_frozen_place-returns-in-Field
is_frozen_place-returns-in-Field t c =
    c.is_frozen_place.ensures ∙ field_so (around c.args.typed.now c.args.f.now) (facts_of c.args.w) c.args.place.now.node _ c.in-Field.base c.in-Field.offset c.in-Field.is c.get-in-Field.ensures
