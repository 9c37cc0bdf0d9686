-- The rules at each node, as the code opens it.
use Rattle.std.proofs.Common.{◌≡◌, ℕ, Bool, true, false, nat_eq, List, Option, Some, None, Result, Ok, Err, refl, sym, ap, ◌∙◌, subst}
use Rattle.oc_values.specs.declared.integers.BinaryOp.{BinaryOp}
use Rattle.oc_source.specs.declared.spot.Spot.{Spot}
use Rattle.oc_source.specs.declared.parsed.TypeName.{TypeName}
use Rattle.oc_source.specs.declared.parsed.BaseKind.{BaseKind}
use Rattle.oc_source.specs.declared.parsed.BaseKind.TheVariants as base
use Rattle.oc_source.specs.declared.parsed.UnaryOp.{UnaryOp}
use Rattle.oc_source.specs.declared.parsed.Expr.{Expr}
use Rattle.oc_source.specs.declared.parsed.ExprNode.{ExprNode, Unary, Bump, Binary, Logic, Choose, Assign, Index, Field, Arrow, Cast, SizeOf}
use Rattle.oc_source.specs.declared.parsed.ExprNode.TheBlock.{hidden-the_row-Expr-0}
use denote.Hole.Carrier.{hidden}
use Rattle.oc_cells.specs.declared.types.CType.{CType, Int, Pointer', Array', Struct, Nothing}
use Rattle.oc_cells.specs.Types.{target, normal}
use Rattle.oc_typed.specs.declared.typed.TExpr.{TExpr}
use Rattle.oc_typed.specs.declared.typed.TPlaceNode as place
use Rattle.type_rules.specs.declared.judging.Seen.{Seen}
use Rattle.type_rules.specs.declared.judging.Found.{Found}
use Rattle.type_rules.specs.declared.judging.Found.TheVariants.{Place, Value}
use Rattle.type_rules.specs.declared.judging.TypeRule.{TypeRule}
use Rattle.type_rules.specs.declared.judging.TypeRule.TheVariants.{T9}
use Rattle.type_rules.specs.Judging.{Judged, next, breaks}
use Rattle.type_rules.specs.Lookup.{Lookup, value_of}
use Rattle.type_rules.specs.Operators.{unary, bump, operate, logic, choice, assign, index, field, field_in, field_at, arrow, cast}
use Rattle.type_rules.specs.Rules.{expr, typed_value, typed_alone, misplaced_size}
use Rattle.type_rules.specs.Written.{type_name, base_kind, struct_named, number_from, starred}
use Rattle.type_steps.specs.declared.fault.TypeFault.{TypeFault}
use Rattle.type_steps.specs.declared.fault.TypeFault.TheVariants.{Refused}
use Rattle.type_steps.proofs.Steps.{go, stop, fine}
use Rattle.type_steps.specs.Answering.{Answers}
use Rattle.typed_expressions.specs.Sites.{found}

-- an expression of this form
pub by_form : (g : Lookup) (alone : Bool) (e : Expr) (n : ExprNode) {r : Result Found TypeFault} (m : Judged Found) → e.node ≡ n → expr g alone e.spot n ≡ m → Answers m r → Answers (found g alone e) r
unfolding found
by_form g alone e n {r} m h q x = subst (λ j. Answers j r) (sym (ap (λ n. expr g alone e.spot n) h ∙ q)) x

module _ (g : Lookup) (alone : Bool) (p : Spot) where
  pub unary_at : (op : UnaryOp) (e : Expr) → expr g alone p (Unary op e) ≡ next (found g false e) (λ f. unary p op f)
  unfolding hidden-the_row-Expr-0 hidden found typed_value
  unary_at op e = refl

  pub bump_at : (up before : Bool) (e : Expr) → expr g alone p (Bump up before e) ≡ next (found g false e) (λ f. bump p up before f)
  unfolding hidden-the_row-Expr-0 hidden found typed_value
  bump_at up before e = refl

  pub binary_at : (op : BinaryOp) (l r : Expr) → expr g alone p (Binary op l r) ≡ next (typed_value g l) (λ x. next (typed_value g r) (λ y. operate p op x y))
  unfolding hidden-the_row-Expr-0 hidden found typed_value
  binary_at op l r = refl

  pub logic_at : (all : Bool) (l r : Expr) → expr g alone p (Logic all l r) ≡ next (typed_value g l) (λ x. next (typed_value g r) (λ y. logic p all x y))
  unfolding hidden-the_row-Expr-0 hidden found typed_value
  logic_at all l r = refl

  pub choice_at : (c y n : Expr) → expr g alone p (Choose c y n) ≡ next (typed_value g c) (λ a. next (typed_value g y) (λ b. next (typed_value g n) (λ d. choice p a b d)))
  unfolding hidden-the_row-Expr-0 hidden found typed_value
  choice_at c y n = refl

  pub assign_at : (op : Option BinaryOp) (l r : Expr) → expr g alone p (Assign op l r) ≡ next (found g false l) (λ f. next (typed_value g r) (λ v. assign p op f v))
  unfolding hidden-the_row-Expr-0 hidden found typed_value
  assign_at op l r = refl

  pub index_at : (e a : Expr) → expr g alone p (Index e a) ≡ next (typed_value g e) (λ x. next (typed_value g a) (λ y. index p x y))
  unfolding hidden-the_row-Expr-0 hidden found typed_value
  index_at e a = refl

  pub field_node : (e : Expr) (x : List ℕ) → expr g alone p (Field e x) ≡ next (found g false e) (λ f. field g p x f)
  unfolding hidden-the_row-Expr-0 hidden found typed_value
  field_node e x = refl

  pub arrow_node : (e : Expr) (x : List ℕ) → expr g alone p (Arrow e x) ≡ next (typed_value g e) (λ v. arrow g p x v)
  unfolding hidden-the_row-Expr-0 hidden found typed_value
  arrow_node e x = refl

  pub cast_node : (w : TypeName) (e : Expr) → expr g alone p (Cast w e) ≡ next (type_name g w) (λ ty. next (typed_value g e) (λ v. cast p ty v))
  unfolding hidden-the_row-Expr-0 hidden found typed_value
  cast_node w e = refl

-- one judgement after another, by what follows
next_same : {A B : Type 0} (m : Judged A) (k l : A → Judged B) → ((a : A) → k a ≡ l a) → next m k ≡ next m l
unfolding next
next_same (Ok a) k l h = h a
next_same (Err f) k l h = refl

-- a refusal
pub refused : {A : Type 0} {m : Judged A} {r : TypeRule} {p : Spot} → m ≡ Err (record { rule = r; spot = p }) → Answers m (Err (Refused r p))
refused h = record { said = h }

-- the value of what is found
pub value_ok : (g : Lookup) (e : Expr) {f : Found} {v : TExpr} → Answers (found g false e) (Ok f) → v ≡ value_of f → Answers (typed_value g e) (Ok v)
unfolding typed_value found
value_ok g e {f} x h = go (found g false e) (λ f. Ok (value_of f)) x (fine (ap (λ v. Ok v) (sym h)))

pub value_err : (g : Lookup) (e : Expr) {f h : TypeFault} {r : Result TExpr TypeFault} → Answers {A = Found} (found g false e) (Err f) → r ≡ Err h → h ≡ f → Answers (typed_value g e) r
unfolding typed_value found
value_err g e x y z = stop (found g false e) (λ f. Ok (value_of f)) x y z

-- the same of an expression that stands alone
pub alone_ok : (g : Lookup) (e : Expr) {f : Found} {v : TExpr} → Answers (found g true e) (Ok f) → v ≡ value_of f → Answers (typed_alone g e) (Ok v)
unfolding typed_alone found
alone_ok g e {f} x h = go (found g true e) (λ f. Ok (value_of f)) x (fine (ap (λ v. Ok v) (sym h)))

pub alone_err : (g : Lookup) (e : Expr) {f h : TypeFault} {r : Result TExpr TypeFault} → Answers {A = Found} (found g true e) (Err f) → r ≡ Err h → h ≡ f → Answers (typed_alone g e) r
unfolding typed_alone found
alone_err g e x y z = stop (found g true e) (λ f. Ok (value_of f)) x y z

-- what is looked up beside variables is the same whatever variables are visible
module _ (g : Lookup) (vs : List Seen) where
  named_in : (by_value : Bool) (p : Spot) (o : Option ℕ) → struct_named (record g { seen = vs }) by_value p o ≡ struct_named g by_value p o
  named_in by_value p None = refl
  named_in by_value p (Some n) = refl

  kind_in : (by_value : Bool) (p : Spot) (obliv : Bool) (k : BaseKind) → base_kind (record g { seen = vs }) by_value p obliv k ≡ base_kind g by_value p obliv k
  kind_in by_value p obliv (base.Int k) = refl
  kind_in by_value p obliv (base.Struct x) = named_in by_value p (number_from 0 g.names x)

  pub type_in : (w : TypeName) → type_name (record g { seen = vs }) w ≡ type_name g w
  type_in w = ap (λ m. next m (λ b. Ok (normal g.public false (starred w.base.frozen w.stars b)))) (kind_in (nat_eq w.stars 0) w.base.spot w.base.obliv w.base.kind)

  size_in : (p : Spot) (w : TypeName) → misplaced_size (record g { seen = vs }) p w ≡ misplaced_size g p w
  size_in p w = ap (λ m. next m (λ _. breaks p T9)) (kind_in (nat_eq w.stars 0) w.base.spot w.base.obliv w.base.kind)

  fields_in : (t : CType) (x : List ℕ) → field_in (record g { seen = vs }) t x ≡ field_in g t x
  fields_in (Int k o) x = refl
  fields_in (Pointer' f u t) x = refl
  fields_in (Array' n u t) x = refl
  fields_in (Struct n) x = refl
  fields_in Nothing x = refl

  field_same : (p : Spot) (x : List ℕ) (f : Found) → field (record g { seen = vs }) p x f ≡ field g p x f
  field_same p x (Value e) = refl
  field_same p x (Place q) = ap (λ o. field_at p q o) (fields_in q.ty x)

  arrow_same : (p : Spot) (x : List ℕ) (e : TExpr) → arrow (record g { seen = vs }) p x e ≡ arrow g p x e
  arrow_same p x e = ap (λ o. field_at p (record { spot = p; ty = target e.ty; node = place.Deref e }) o) (fields_in (target e.ty) x)

  module _ (alone : Bool) (p : Spot) where
    pub field_form : (e : Expr) (x : List ℕ) → expr (record g { seen = vs }) alone p (Field e x) ≡ next (found (record g { seen = vs }) false e) (λ f. field g p x f)
    field_form e x = field_node (record g { seen = vs }) alone p e x ∙ next_same (found (record g { seen = vs }) false e) (λ f. field (record g { seen = vs }) p x f) (λ f. field g p x f) (field_same p x)

    pub arrow_form : (e : Expr) (x : List ℕ) → expr (record g { seen = vs }) alone p (Arrow e x) ≡ next (typed_value (record g { seen = vs }) e) (λ v. arrow g p x v)
    arrow_form e x = arrow_node (record g { seen = vs }) alone p e x ∙ next_same (typed_value (record g { seen = vs }) e) (λ v. arrow (record g { seen = vs }) p x v) (λ v. arrow g p x v) (arrow_same p x)

    pub cast_form : (w : TypeName) (e : Expr) → expr (record g { seen = vs }) alone p (Cast w e) ≡ next (type_name g w) (λ ty. next (typed_value (record g { seen = vs }) e) (λ v. cast p ty v))
    cast_form w e = cast_node (record g { seen = vs }) alone p w e ∙ ap (λ m. next m (λ ty. next (typed_value (record g { seen = vs }) e) (λ v. cast p ty v))) (type_in w)

    pub size_form : (w : TypeName) → expr (record g { seen = vs }) alone p (SizeOf w) ≡ misplaced_size g p w
    size_form w = size_in p w
