-- What is told of a node, from what is told of its parts.
use Rattle.std.proofs.Common.{ℕ, ◌≡◌, List, [], ◌++◌, Option, Some, Bool, true, false, refl, ap, sym, ◌∙◌}
use Rattle.std.specs.Prelude.{◌||◌, not, slice_get, Result}
use Rattle.oc_values.specs.declared.integers.BinaryOp.{BinaryOp}
use Rattle.oc_values.specs.declared.integers.OneOp.{OneOp}
use Rattle.oc_cells.specs.declared.types.CType.{CType}
use Rattle.oc_source.specs.declared.spot.Spot.{Spot}
use Rattle.oc_typed.specs.declared.typed.TExpr.{TExpr}
use Rattle.oc_typed.specs.declared.typed.TPlace.{TPlace}
use Rattle.oc_typed.specs.declared.typed.TExprNode.{TExprNode, Unary, Binary, PointerStep, PointerSame, Logic, Choose, Assign, Update, Convert, Call, Builtin as Known}
use Rattle.oc_typed.specs.declared.typed.TPlaceNode.{TPlaceNode, Deref, Index, Field}
use Rattle.oc_typed.specs.declared.typed.Builtin.{Builtin}
use Rattle.oc_values.specs.declared.integers.IntKind.{IntKind}
use Rattle.oc_typed.specs.declared.typed.Builtin.TheVariants.{Reveal, Free}
use Rattle.oc_typed.specs.declared.typed.TypedFunction.{TypedFunction}
use Rattle.oc_typing.specs.Typed.{Context}
use Rattle.scope_rules.specs.declared.rules.ScopeRule.{ScopeRule}
use Rattle.scope_rules.specs.declared.rules.ScopeRule.TheVariants.{F2, F3}
use Rattle.scope_rules.specs.declared.rules.ScopeFault.{ScopeFault}
use Rattle.scope_rules.specs.Frozen.{Facts, is_kept, is_marked}
use Rattle.scope_rules.specs.InScope.{params_of, comings}
use Rattle.scope_rules.specs.FirstFault.{Visit, visit, writing, in_order, visits, visits_place}
use Rattle.frozen_rules.specs.Scopes.{Judges}
use Rattle.frozen_rules.specs.Lists.{whole, visits_arg, visits_list, visits_filling, visit_write, types_in}
use Rattle.frozen_rules.proofs.Sequences.{told_as}
use Rattle.frozen_rules.proofs.Views.{unary_at, binary_at, step_at, same_at, logic_at, choose_at, assign_at, update_at, convert_at, call_at, builtin_at, deref_at, index_at, field_at}

module _ (g : Context) (w : Facts) (e : TExpr) {A : Type 0} {a : A} {z : Result A ScopeFault} where
  -- the visits of the expression, where its node is known
  visits_is : {vs : List Visit} (n : TExprNode) → e.node ≡ n → visits g w e.spot e.ty n ≡ vs → Judges vs a z → Judges (whole g w e) a z
  visits_is n i v h = told_as (ap (λ m. visits g w e.spot e.ty m) i ∙ v) h

  pub place_so : (n : TExprNode) (q : TPlace) → e.node ≡ n → visits g w e.spot e.ty n ≡ visits_place g w q.node → Judges (visits_place g w q.node) a z → Judges (whole g w e) a z
  place_so n q i v h = visits_is n i v h

  pub unary_so : (op : OneOp) (x y : TExpr) → e.node ≡ Unary op y → x ≡ y → Judges (whole g w x) a z → Judges (whole g w e) a z
  unary_so op x y i p h = visits_is (Unary op y) i (unary_at g w e.spot e.ty op y ∙ ap (λ v. whole g w v) (sym p)) h

  pub binary_so : (op : BinaryOp) (x y l r : TExpr) → e.node ≡ Binary op l r → x ≡ l → y ≡ r → Judges (whole g w x ++ whole g w y) a z → Judges (whole g w e) a z
  binary_so op x y l r i p q h = visits_is (Binary op l r) i (binary_at g w e.spot e.ty op l r ∙ ap (λ v. whole g w v ++ whole g w r) (sym p) ∙ ap (λ v. whole g w x ++ whole g w v) (sym q)) h

  pub same_so : (x y l r : TExpr) (b : Bool) → e.node ≡ PointerSame l r b → x ≡ l → y ≡ r → Judges (whole g w x ++ whole g w y) a z → Judges (whole g w e) a z
  same_so x y l r b i p q h = visits_is (PointerSame l r b) i (same_at g w e.spot e.ty l r b ∙ ap (λ v. whole g w v ++ whole g w r) (sym p) ∙ ap (λ v. whole g w x ++ whole g w v) (sym q)) h

  pub logic_so : (b : Bool) (x y l r : TExpr) → e.node ≡ Logic b l r → x ≡ l → y ≡ r → Judges (whole g w x ++ whole g w y) a z → Judges (whole g w e) a z
  logic_so b x y l r i p q h = visits_is (Logic b l r) i (logic_at g w e.spot e.ty b l r ∙ ap (λ v. whole g w v ++ whole g w r) (sym p) ∙ ap (λ v. whole g w x ++ whole g w v) (sym q)) h

  pub step_so : (x y l r : TExpr) (back behind : Bool) → e.node ≡ PointerStep l r back behind → x ≡ l → y ≡ r → Judges (in_order behind (whole g w x) (whole g w y)) a z → Judges (whole g w e) a z
  step_so x y l r back behind i p q h =
      visits_is (PointerStep l r back behind) i (step_at g w e.spot e.ty l r back behind ∙ ap (λ v. in_order behind (whole g w v) (whole g w r)) (sym p) ∙ ap (λ v. in_order behind (whole g w x) (whole g w v)) (sym q)) h

  pub choose_so : (x y k c l r : TExpr) → e.node ≡ Choose c l r → x ≡ c → y ≡ l → k ≡ r → Judges (whole g w x ++ whole g w y ++ whole g w k) a z → Judges (whole g w e) a z
  choose_so x y k c l r i p q m h =
      visits_is (Choose c l r) i (choose_at g w e.spot e.ty c l r ∙ ap (λ v. whole g w v ++ whole g w l ++ whole g w r) (sym p) ∙ ap (λ v. whole g w x ++ whole g w v ++ whole g w r) (sym q)
      ∙ ap (λ v. whole g w x ++ whole g w y ++ whole g w v) (sym m)) h

  pub assign_so : (q : TPlace) (x y : TExpr) → e.node ≡ Assign q y → x ≡ y → Judges (visits_filling g w q x ++ visit_write g w q) a z → Judges (whole g w e) a z
  assign_so q x y i p h = visits_is (Assign q y) i (assign_at g w e.spot e.ty q y ∙ ap (λ v. visits_filling g w q v ++ visit_write g w q) (sym p)) h

  pub update_so : (op : BinaryOp) (q : TPlace) (x y : TExpr) (old : Bool) → e.node ≡ Update op q y old → x ≡ y → Judges (visits_place g w q.node ++ whole g w x ++ visit_write g w q) a z → Judges (whole g w e) a z
  update_so op q x y old i p h = visits_is (Update op q y old) i (update_at g w e.spot e.ty op q y old ∙ ap (λ v. visits_place g w q.node ++ whole g w v ++ visit_write g w q) (sym p)) h

  pub convert_so : (x y : TExpr) → e.node ≡ Convert y → x ≡ y → Judges (visits_arg g w (Some e.ty) x) a z → Judges (whole g w e) a z
  convert_so x y i p h = visits_is (Convert y) i (convert_at g w e.spot e.ty y ∙ ap (λ v. visits_arg g w (Some e.ty) v) (sym p)) h

  pub call_so : (f : ℕ) (xs es : List TExpr) → e.node ≡ Call f es → xs ≡ es
      → Judges (visits_list g w (params_of (slice_get g.functions f)) xs ++ visit F3 e.spot (not w.hidden || is_marked (slice_get g.functions f))) a z → Judges (whole g w e) a z
  call_so f xs es i p h =
      visits_is (Call f es) i (call_at g w e.spot e.ty f es
      ∙ ap (λ vs. visits_list g w (params_of (slice_get g.functions f)) vs ++ visit F3 e.spot (not w.hidden || is_marked (slice_get g.functions f))) (sym p)) h

  pub own_so : (which : Builtin) (xs es : List TExpr) → e.node ≡ Known which es → xs ≡ es
      → Judges (visits_list g w (comings which (types_in xs)) xs ++ visit F3 e.spot (not w.hidden)) a z → Judges (whole g w e) a z
  own_so which xs es i p h =
      visits_is (Known which es) i (builtin_at g w e.spot e.ty which es
      ∙ ap (λ vs. visits_list g w (comings which (types_in vs)) vs ++ visit F3 e.spot (not w.hidden)) (sym p)) h

module _ (g : Context) (w : Facts) (q : TPlace) {A : Type 0} {a : A} {z : Result A ScopeFault} where
  places_is : {vs : List Visit} (n : TPlaceNode) → q.node ≡ n → visits_place g w n ≡ vs → Judges vs a z → Judges (visits_place g w q.node) a z
  places_is n i v h = told_as (ap (λ m. visits_place g w m) i ∙ v) h

  pub deref_so : (x y : TExpr) → q.node ≡ Deref y → x ≡ y → Judges (whole g w x) a z → Judges (visits_place g w q.node) a z
  deref_so x y i p h = places_is (Deref y) i (deref_at g w y ∙ ap (λ v. whole g w v) (sym p)) h

  pub index_so : (x y l r : TExpr) → q.node ≡ Index l r → x ≡ l → y ≡ r → Judges (whole g w x ++ whole g w y) a z → Judges (visits_place g w q.node) a z
  index_so x y l r i p k h = places_is (Index l r) i (index_at g w l r ∙ ap (λ v. whole g w v ++ whole g w r) (sym p) ∙ ap (λ v. whole g w x ++ whole g w v) (sym k)) h

  pub field_so : (x y : TPlace) (n : ℕ) → q.node ≡ Field y n → x ≡ y → Judges (visits_place g w x.node) a z → Judges (visits_place g w q.node) a z
  field_so x y n i p h = places_is (Field y n) i (field_at g w y n ∙ ap (λ (v : TPlace). visits_place g w v.node) (sym p)) h

  pub write_so : (rule : ScopeRule) (b : Bool) → rule ≡ writing w → b ≡ is_kept g w q.ty q.node → Judges (visit rule q.spot (not b)) a z → Judges (visit_write g w q) a z
  write_so rule b r k h = told_as (ap (λ x. visit x q.spot (not (is_kept g w q.ty q.node))) (sym r) ∙ ap (λ x. visit rule q.spot (not x)) (sym k)) h

module _ {A : Type 0} {a : A} {z : Result A ScopeFault} where
  pub lost_so : (p : Spot) (b d : Bool) → b ≡ d → Judges (visit F2 p (not b)) a z → Judges (visit F2 p (not d)) a z
  lost_so p b d e h = told_as (ap (λ x. visit F2 p (not x)) (sym e)) h

  pub marked_so : (p : Spot) (b d : Bool) → b ≡ d → Judges (visit F3 p b) a z → Judges (visit F3 p d) a z
  marked_so p b d e h = told_as (ap (λ x. visit F3 p x) (sym e)) h

  pub order_behind : (xs ys : List Visit) (b : Bool) → b ≡ true → Judges (ys ++ xs) a z → Judges (in_order b xs ys) a z
  order_behind xs ys b e h = told_as (ap (λ x. in_order x xs ys) e) h

  pub order_before : (xs ys : List Visit) (b : Bool) → b ≡ false → Judges (xs ++ ys) a z → Judges (in_order b xs ys) a z
  order_before xs ys b e h = told_as (ap (λ x. in_order x xs ys) e) h

  -- a function that is called, found by its number
  pub callee_so : (g : Context) (w : Facts) (es : List TExpr) (p : Spot) (o k : Option TypedFunction) → o ≡ k
      → Judges (visits_list g w (params_of o) es ++ visit F3 p (not w.hidden || is_marked o)) a z → Judges (visits_list g w (params_of k) es ++ visit F3 p (not w.hidden || is_marked k)) a z
  callee_so g w es p o k e h = told_as (ap (λ x. visits_list g w (params_of x) es ++ visit F3 p (not w.hidden || is_marked x)) (sym e)) h

-- which calls of the language's own ask nothing of their arguments
pub plain_own : (b : Builtin) → ((k : IntKind) → b ≡ Reveal k → ⊥) → (b ≡ Free → ⊥) → (ts : List CType) → comings b ts ≡ []
plain_own (Reveal k) r f ts = absurd (r k refl)
plain_own Free r f ts = absurd (f refl)
plain_own _ r f ts = refl
