-- The visits at each form of a node, and what is frozen there, as the code opens it.
use Rattle.std.proofs.Common.{ℕ, ◌≡◌, List, [], ◌∷◌, ◌++◌, Some, Bool, refl, ap, ◌∙◌}
use Rattle.std.specs.Prelude.{◌||◌, not, slice_get}
use Rattle.oc_values.specs.declared.integers.BinaryOp.{BinaryOp}
use Rattle.oc_values.specs.declared.integers.OneOp.{OneOp}
use Rattle.oc_cells.specs.declared.types.CType.{CType}
use Rattle.oc_cells.specs.Types.{is_frozen_pointer}
use Rattle.oc_source.specs.declared.spot.Spot.{Spot}
use Rattle.oc_typed.specs.declared.typed.TExpr.{TExpr}
use Rattle.oc_typed.specs.declared.typed.TPlace.{TPlace}
use Rattle.oc_typed.specs.declared.typed.TExprNode.{Unary, Binary, PointerStep, PointerSame, Logic, Choose, Assign, Update, Convert, Call, Builtin as Known, Row_of-TExpr}
use Rattle.oc_typed.specs.declared.typed.TExprNode.TheBlock.{hidden-the_row-TExpr-0, hidden-the_row-TExpr-1, hidden-the_row-TPlace-2, back-the_row-TExpr}
use Rattle.oc_typed.specs.declared.typed.TPlaceNode.{Deref, Index, Field}
use Rattle.oc_typed.specs.declared.typed.Builtin.{Builtin}
use Rattle.oc_typed.specs.Static.{types_of}
use Rattle.oc_typing.specs.Typed.{Context}
use Rattle.scope_rules.specs.declared.rules.ScopeRule.TheVariants.{F2, F3}
use Rattle.scope_rules.specs.Frozen.{Facts, type_here, is_frozen, from_frozen, loses, is_marked}
use Rattle.scope_rules.specs.InScope.{params_of, comings}
use Rattle.scope_rules.specs.FirstFault.{visit, in_order, visits, visits_place, visits_all}
use Rattle.sqlite_items.specs.formers.items.Items.{the_former}
use denote.Hole.Carrier.{hidden}
use mathlib.Core.Former.{this, list_count, children}
use mathlib.Core.List.{map}
use Rattle.frozen_rules.specs.Lists.{whole, visits_arg, visits_list, visits_filling, visit_write, types_in}

-- a list of arguments as the row that the tree keeps
abbrev row_of : (es : List TExpr) → Row_of-TExpr (list_count (this {0}) (map (λ x. (this {0}).shape TExpr x) es) 0)
row_of es = back-the_row-TExpr (list_count (this {0}) (map (λ x. (this {0}).shape TExpr x) es) 0) (children (the_former (this {0})) TExpr es)

types_row : (es : List TExpr) → types_of (row_of es) ≡ types_in es
unfolding hidden
types_row [] = refl
types_row (e ∷ es) = ap (λ ts. e.ty ∷ ts) (types_row es)

module _ (g : Context) (w : Facts) where
  rows_at : (ts : List CType) (es : List TExpr) → visits_all g w ts (row_of es) ≡ visits_list g w ts es
  unfolding hidden
  rows_at ts [] = refl
  rows_at [] (e ∷ es) = ap (λ vs. whole g w e ++ vs) (rows_at [] es)
  rows_at (t ∷ ts) (e ∷ es) = ap (λ vs. whole g w e ++ visit F2 e.spot (not (loses g (from_frozen g w e.node) e.ty t)) ++ vs) (rows_at ts es)

  module _ (p : Spot) (t : CType) where
    pub unary_at : (op : OneOp) (e : TExpr) → visits g w p t (Unary op e) ≡ whole g w e
    unfolding hidden-the_row-TExpr-0 hidden
    unary_at op e = refl

    pub binary_at : (op : BinaryOp) (l r : TExpr) → visits g w p t (Binary op l r) ≡ whole g w l ++ whole g w r
    unfolding hidden-the_row-TExpr-0 hidden
    binary_at op l r = refl

    pub step_at : (l r : TExpr) (back behind : Bool) → visits g w p t (PointerStep l r back behind) ≡ in_order behind (whole g w l) (whole g w r)
    unfolding hidden-the_row-TExpr-0 hidden
    step_at l r back behind = refl

    pub same_at : (l r : TExpr) (negated : Bool) → visits g w p t (PointerSame l r negated) ≡ whole g w l ++ whole g w r
    unfolding hidden-the_row-TExpr-0 hidden
    same_at l r negated = refl

    pub logic_at : (all : Bool) (l r : TExpr) → visits g w p t (Logic all l r) ≡ whole g w l ++ whole g w r
    unfolding hidden-the_row-TExpr-0 hidden
    logic_at all l r = refl

    pub choose_at : (c l r : TExpr) → visits g w p t (Choose c l r) ≡ whole g w c ++ whole g w l ++ whole g w r
    unfolding hidden-the_row-TExpr-0 hidden
    choose_at c l r = refl

    pub assign_at : (q : TPlace) (e : TExpr) → visits g w p t (Assign q e) ≡ visits_filling g w q e ++ visit_write g w q
    unfolding hidden-the_row-TExpr-0 hidden
    assign_at q e = refl

    pub update_at : (op : BinaryOp) (q : TPlace) (e : TExpr) (old : Bool) → visits g w p t (Update op q e old)
        ≡ visits_place g w q.node ++ whole g w e ++ visit_write g w q
    unfolding hidden-the_row-TExpr-0 hidden
    update_at op q e old = refl

    pub convert_at : (e : TExpr) → visits g w p t (Convert e) ≡ visits_arg g w (Some t) e
    unfolding hidden-the_row-TExpr-0 hidden
    convert_at e = refl

    pub call_at : (f : ℕ) (es : List TExpr) → visits g w p t (Call f es)
        ≡ visits_list g w (params_of (slice_get g.functions f)) es ++ visit F3 p (not w.hidden || is_marked (slice_get g.functions f))
    unfolding hidden-the_row-TExpr-1 hidden
    call_at f es = ap (λ vs. vs ++ visit F3 p (not w.hidden || is_marked (slice_get g.functions f))) (rows_at (params_of (slice_get g.functions f)) es)

    pub builtin_at : (which : Builtin) (es : List TExpr) → visits g w p t (Known which es) ≡ visits_list g w (comings which (types_in es)) es ++ visit F3 p (not w.hidden)
    unfolding hidden-the_row-TExpr-1 hidden
    builtin_at which es =
        ap (λ ts. visits_all g w (comings which ts) (row_of es) ++ visit F3 p (not w.hidden)) (types_row es)
        ∙ ap (λ vs. vs ++ visit F3 p (not w.hidden)) (rows_at (comings which (types_in es)) es)

  pub deref_at : (e : TExpr) → visits_place g w (Deref e) ≡ whole g w e
  unfolding hidden-the_row-TExpr-0 hidden
  deref_at e = refl

  pub index_at : (l r : TExpr) → visits_place g w (Index l r) ≡ whole g w l ++ whole g w r
  unfolding hidden-the_row-TExpr-0 hidden
  index_at l r = refl

  pub field_at : (b : TPlace) (n : ℕ) → visits_place g w (Field b n) ≡ visits_place g w b.node
  unfolding hidden-the_row-TPlace-2 hidden
  field_at b n = refl

  pub frozen_deref : (e : TExpr) → is_frozen g w (Deref e) ≡ is_frozen_pointer (type_here g.public (from_frozen g w e.node) e.ty)
  unfolding hidden-the_row-TExpr-0 hidden
  frozen_deref e = refl

  pub frozen_index : (l r : TExpr) → is_frozen g w (Index l r) ≡ is_frozen_pointer (type_here g.public (from_frozen g w l.node) l.ty)
  unfolding hidden-the_row-TExpr-0 hidden
  frozen_index l r = refl

  pub frozen_field : (b : TPlace) (n : ℕ) → is_frozen g w (Field b n) ≡ is_frozen g w b.node
  unfolding hidden-the_row-TPlace-2 hidden
  frozen_field b n = refl

  pub from_step : (l r : TExpr) (back behind : Bool) → from_frozen g w (PointerStep l r back behind) ≡ from_frozen g w l.node
  unfolding hidden-the_row-TExpr-0 hidden
  from_step l r back behind = refl
