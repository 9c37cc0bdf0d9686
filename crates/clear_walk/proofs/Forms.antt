-- How the parts of an expression or a place make its walk.
use Rattle.std.proofs.Common.{ℕ, ◌≡◌, ℤ, List, [], ◌∷◌, Result, refl, sym, ap, ◌∙◌, Bool, true, false}
use Rattle.std.specs.Prelude.{if◌then◌else◌}
use Rattle.oc_values.specs.declared.integers.BinaryOp.{BinaryOp}
use Rattle.oc_values.specs.declared.integers.OneOp.{OneOp}
use Rattle.oc_values.specs.declared.integers.IntKind.TheVariants.{Bool as KBool, I32}
use Rattle.oc_cells.specs.declared.memory.Address.{Address}
use Rattle.oc_cells.specs.Types.{kind_of, is_hidden, target, alike}
use Rattle.oc_cells.specs.Layout.{size_of}
use Rattle.oc_typed.specs.Static.{same_spot}
use Rattle.oc_typed.specs.declared.typed.Builtin.{Builtin}
use Rattle.oc_typed.specs.declared.typed.TExpr.{TExpr}
use Rattle.oc_typed.specs.declared.typed.TExprNode.{TExprNode, Read, AddressOf, Decay, Unary, Binary, PointerStep, PointerSame, Logic, Choose, Assign, Update, Convert, Call, Builtin as Own}
use Rattle.oc_typed.specs.declared.typed.TPlace.{TPlace}
use Rattle.oc_typed.specs.declared.typed.TPlaceNode.{TPlaceNode, Deref, Index, Field}
use Rattle.oc_walk.specs.declared.run.Value.{Value}
use Rattle.oc_walk.specs.declared.run.Value.TheVariants.{Pointer}
use Rattle.oc_walk.specs.Walking.{Site, bind, pure, choose, still, deeper, ahead}
use Rattle.oc_walk.specs.Cells.{Goal, Only, fetches, gets, sets, same_places, follows, moves}
use Rattle.oc_walk.specs.Operations.{unaries, operates, tests, turns}
use Rattle.oc_walk.specs.Builtins.{performs}
use Rattle.oc_walk.specs.Expressions.{Under, whole, expr, place, stepping, both_or_one, decided, assigns, readied, renewed, converted, solely}
use Rattle.oc_walk.proofs.Views.{all_of, source_in as source_in', read_at, address_at, decay_at, unary_at, binary_at, step_at, step_first_at, same_at, logic_at, choose_at, assign_at, update_at, old_at, convert_at, call_at, builtin_at, deref_at, index_at, field_at}
use Rattle.clear_actions.specs.Acting.{ClearState}
use Rattle.clear_actions.specs.declared.machine.Machine.{Machine}
use Rattle.clear_actions.specs.declared.machine.Fault.{Fault}
use Rattle.clear_walk.specs.Runs.{Around, domain_of, Here, Walks, RunsExpr, RunsNode, RunsPlace, RunsPlaceNode, goal_of, place_of, two, wholes, source_in}
use Rattle.clear_walk.proofs.Walked.{CAct, Then, Goes, chain, as_walk, as_states, two_then}

-- an expression with this node
pub node_is : {at : Around} {e : TExpr} {n : TExprNode} {m m1 : Machine} {r : Result (Value ℤ) Fault} → e.node ≡ n → RunsNode at e n m r m1 → RunsExpr at e m r m1
node_is {at = at} {e = e} {n = n} h x = record { runs = as_walk (λ x w. whole (domain_of at) x w e) (λ x w. expr (domain_of at) x w e.spot e.ty n) (λ x w. ap (λ c. expr (domain_of at) x w e.spot e.ty c) h) x.runs }

-- a place with this node
pub place_is : {at : Around} {q : TPlace} {n : TPlaceNode} {m m1 : Machine} {r : Result Address Fault} → q.node ≡ n → RunsPlaceNode at q n m r m1 → RunsPlace at q m r m1
place_is {at = at} {q = q} {n = n} h x = record { runs = as_walk (place_of at q) (λ x w. place (domain_of at) x w q.spot q.ty n) (λ x w. ap (λ c. place (domain_of at) x w q.spot q.ty c) h) x.runs }

-- an array's place as a pointer is its address
pub decay_is : {at : Around} {e : TExpr} {q : TPlace} {m m1 : Machine} {r : Result (Value ℤ) Fault} → e.node ≡ Decay q → RunsNode at e (AddressOf q) m r m1 → RunsExpr at e m r m1
decay_is {at = at} {e = e} {q = q} h x =
    node_is h (record { runs = as_walk (λ x w. expr (domain_of at) x w e.spot e.ty (Decay q)) (λ x w. expr (domain_of at) x w e.spot e.ty (AddressOf q)) (λ x w. decay_at (domain_of at) x w e.spot e.ty q ∙ sym (address_at (domain_of at) x w e.spot e.ty q)) x.runs })

abbrev V : Type 0
V = Value ℤ

module _ (at : Around) where
  pub read_so : (e : TExpr) (q : TPlace) {m m1 m2 : Machine} (r1 : Result Address Fault) {r : Result V Fault} → Walks at (λ x w. place_of at q (deeper x) w) m (goal_of r1) m1 → Goes at (λ x w g. still (fetches (domain_of at) q.spot q.ty g)) (goal_of r1) m1 r m2 → RunsNode at e (Read q) m r m2
  read_so e q r1 x y = record {
    runs = as_walk (λ x w. expr (domain_of at) x w e.spot e.ty (Read q)) (λ x w. bind (place_of at q (deeper x) w) (λ g. still (fetches (domain_of at) q.spot q.ty g))) (λ x w. read_at (domain_of at) x w e.spot e.ty q)
        (chain (λ x w. place_of at q (deeper x) w) (λ x w g. still (fetches (domain_of at) q.spot q.ty g)) (goal_of r1) x y);
  }

  pub address_so : (e : TExpr) (q : TPlace) {m m1 m2 : Machine} (r1 : Result Address Fault) {r : Result V Fault} → Walks at (λ x w. place_of at q (deeper x) w) m (goal_of r1) m1 → Goes at (λ x w g. bind (solely (domain_of at) q.spot g) (λ a. pure (Pointer a))) (goal_of r1) m1 r m2 → RunsNode at e (AddressOf q) m r m2
  address_so e q r1 x y = record {
    runs = as_walk (λ x w. expr (domain_of at) x w e.spot e.ty (AddressOf q)) (λ x w. bind (place_of at q (deeper x) w) (λ g. bind (solely (domain_of at) q.spot g) (λ a. pure (Pointer a)))) (λ x w. address_at (domain_of at) x w e.spot e.ty q)
        (chain (λ x w. place_of at q (deeper x) w) (λ x w g. bind (solely (domain_of at) q.spot g) (λ a. pure (Pointer a))) (goal_of r1) x y);
  }

  pub unary_so : (e : TExpr) (op : OneOp) (a : TExpr) {m m1 m2 : Machine} (r1 : Result V Fault) {r : Result V Fault} → Walks at (λ x w. whole (domain_of at) (deeper x) w a) m r1 m1 → Goes at (λ x w v. still (unaries (domain_of at) e.spot op (kind_of a.ty) (is_hidden e.ty) v)) r1 m1 r m2 → RunsNode at e (Unary op a) m r m2
  unary_so e op a r1 x y = record {
    runs = as_walk (λ x w. expr (domain_of at) x w e.spot e.ty (Unary op a)) (λ x w. bind (whole (domain_of at) (deeper x) w a) (λ v. still (unaries (domain_of at) e.spot op (kind_of a.ty) (is_hidden e.ty) v))) (λ x w. unary_at (domain_of at) x w e.spot e.ty op a)
        (chain (λ x w. whole (domain_of at) (deeper x) w a) (λ x w v. still (unaries (domain_of at) e.spot op (kind_of a.ty) (is_hidden e.ty) v)) r1 x y);
  }

  -- two parts, and what follows both
  pub by_two : (g : Here at V) (a b : TExpr) (k : Site → Under (domain_of at) → V → V → CAct V) {m m1 m2 : Machine} (r1 : Result (V × V) Fault) {r : Result V Fault}
      → ((x : Site) (w : Under (domain_of at)) → g x w ≡ bind (whole (domain_of at) (deeper x) w a) (λ v. bind (whole (domain_of at) (deeper x) w b) (λ z. k x w v z)))
      → Walks at (λ x w. two at a b (deeper x) w) m r1 m1 → Goes at (λ x w v. k x w v.0 v.1) r1 m1 r m2 → Walks at g m r m2
  by_two g a b k r1 q x y =
      as_states g (λ x w. bind (two at a b (deeper x) w) (λ v. k x w v.0 v.1)) (λ x w s. ap (λ h. h s) (q x w) ∙ two_then at a b k x (deeper x) w s)
      (chain (λ x w. two at a b (deeper x) w) (λ x w v. k x w v.0 v.1) r1 x y)

  pub binary_so : (e : TExpr) (op : BinaryOp) (a b : TExpr) {m m1 m2 : Machine} (r1 : Result (V × V) Fault) {r : Result V Fault} → Walks at (λ x w. two at a b (deeper x) w) m r1 m1 → Goes at (λ x w v. still (operates (domain_of at) e.spot op (kind_of a.ty) (is_hidden e.ty) v.0 v.1)) r1 m1 r m2 → RunsNode at e (Binary op a b) m r m2
  binary_so e op a b r1 x y = record {
    runs = by_two (λ x w. expr (domain_of at) x w e.spot e.ty (Binary op a b)) a b (λ x w v z. still (operates (domain_of at) e.spot op (kind_of a.ty) (is_hidden e.ty) v z)) r1 (λ x w. binary_at (domain_of at) x w e.spot e.ty op a b) x y;
  }

  pub step_so : (e a b : TExpr) (back : Bool) {m m1 m2 : Machine} (r1 : Result (V × V) Fault) {r : Result V Fault} → Walks at (λ x w. two at a b (deeper x) w) m r1 m1 → Goes at (λ x w v. stepping (domain_of at) e.spot (size_of x.run.structs (target e.ty)) back v.0 v.1) r1 m1 r m2 → RunsNode at e (PointerStep a b back false) m r m2
  step_so e a b back r1 x y = record {
    runs = by_two (λ x w. expr (domain_of at) x w e.spot e.ty (PointerStep a b back false)) a b (λ x w v z. stepping (domain_of at) e.spot (size_of x.run.structs (target e.ty)) back v z) r1 (λ x w. step_at (domain_of at) x w e.spot e.ty a b back) x y;
  }

  pub step_first_so : (e a b : TExpr) (back : Bool) {m m1 m2 : Machine} (r1 : Result (V × V) Fault) {r : Result V Fault} → Walks at (λ x w. two at b a (deeper x) w) m r1 m1 → Goes at (λ x w v. stepping (domain_of at) e.spot (size_of x.run.structs (target e.ty)) back v.1 v.0) r1 m1 r m2 → RunsNode at e (PointerStep a b back true) m r m2
  step_first_so e a b back r1 x y = record {
    runs = by_two (λ x w. expr (domain_of at) x w e.spot e.ty (PointerStep a b back true)) b a (λ x w v z. stepping (domain_of at) e.spot (size_of x.run.structs (target e.ty)) back z v) r1 (λ x w. step_first_at (domain_of at) x w e.spot e.ty a b back) x y;
  }

  pub same_so : (e a b : TExpr) (negated : Bool) {m m1 m2 : Machine} (r1 : Result (V × V) Fault) {r : Result V Fault} → Walks at (λ x w. two at a b (deeper x) w) m r1 m1 → Goes at (λ x w v. still (same_places (domain_of at) e.spot negated v.0 v.1)) r1 m1 r m2 → RunsNode at e (PointerSame a b negated) m r m2
  same_so e a b negated r1 x y = record {
    runs = by_two (λ x w. expr (domain_of at) x w e.spot e.ty (PointerSame a b negated)) a b (λ x w v z. still (same_places (domain_of at) e.spot negated v z)) r1 (λ x w. same_at (domain_of at) x w e.spot e.ty a b negated) x y;
  }

  chosen : {T : Type 0} (b c : Bool) (m n : CAct T) (s : ClearState) → b ≡ c → choose b m n s ≡ choose c m n s
  chosen b c m n s h = ap (λ d. choose d m n s) h

  pub hidden_logic_so : (e : TExpr) (all : Bool) (a b : TExpr) {m m1 m2 : Machine} (r1 : Result (V × V) Fault) {r : Result V Fault} → is_hidden e.ty ≡ true → Walks at (λ x w. two at a b (deeper x) w) m r1 m1 → Goes at (λ x w v. still (operates (domain_of at) e.spot (both_or_one (domain_of at) all) KBool true v.0 v.1)) r1 m1 r m2 → RunsNode at e (Logic all a b) m r m2
  hidden_logic_so e all a b r1 h x y = record {
    runs = as_states (λ x w. expr (domain_of at) x w e.spot e.ty (Logic all a b)) (λ x w. bind (whole (domain_of at) (deeper x) w a) (λ v. bind (whole (domain_of at) (deeper x) w b) (λ z. still (operates (domain_of at) e.spot (both_or_one (domain_of at) all) KBool true v z))))
        (λ x w s. ap (λ h. h s) (logic_at (domain_of at) x w e.spot e.ty all a b) ∙ chosen (is_hidden e.ty) true _ _ s h)
        (by_two (λ x w. bind (whole (domain_of at) (deeper x) w a) (λ v. bind (whole (domain_of at) (deeper x) w b) (λ z. still (operates (domain_of at) e.spot (both_or_one (domain_of at) all) KBool true v z)))) a b (λ x w v z. still (operates (domain_of at) e.spot (both_or_one (domain_of at) all) KBool true v z)) r1 (λ x w. refl) x y);
  }

  -- what follows the left operand of a public one
  abbrev pub then_test : TExpr → Bool → TExpr → Then at V V
  then_test e all b x w v =
      bind (still (tests (domain_of at) e.spot v)) (λ t. choose (alike all t) (bind (whole (domain_of at) (deeper x) w b) (λ z. still (turns (domain_of at) e.spot KBool I32 false z))) (pure (decided (domain_of at) t)))

  pub logic_so : (e : TExpr) (all : Bool) (a b : TExpr) {m m1 m2 : Machine} (r1 : Result V Fault) {r : Result V Fault} → is_hidden e.ty ≡ false → Walks at (λ x w. whole (domain_of at) (deeper x) w a) m r1 m1 → Goes at (then_test e all b) r1 m1 r m2 → RunsNode at e (Logic all a b) m r m2
  logic_so e all a b r1 h x y = record {
    runs = as_states (λ x w. expr (domain_of at) x w e.spot e.ty (Logic all a b)) (λ x w. bind (whole (domain_of at) (deeper x) w a) (then_test e all b x w))
        (λ x w s. ap (λ h. h s) (logic_at (domain_of at) x w e.spot e.ty all a b) ∙ chosen (is_hidden e.ty) false _ _ s h)
        (chain (λ x w. whole (domain_of at) (deeper x) w a) (then_test e all b) r1 x y);
  }

  -- what follows the condition of a choice
  abbrev pub then_one : TExpr → TExpr → TExpr → Then at V V
  then_one e a b x w v = bind (still (tests (domain_of at) e.spot v)) (λ t. choose t (whole (domain_of at) (deeper x) w a) (whole (domain_of at) (deeper x) w b))

  pub choose_so : (e c a b : TExpr) {m m1 m2 : Machine} (r1 : Result V Fault) {r : Result V Fault} → Walks at (λ x w. whole (domain_of at) (deeper x) w c) m r1 m1 → Goes at (then_one e a b) r1 m1 r m2 → RunsNode at e (Choose c a b) m r m2
  choose_so e c a b r1 x y = record {
    runs = as_walk (λ x w. expr (domain_of at) x w e.spot e.ty (Choose c a b)) (λ x w. bind (whole (domain_of at) (deeper x) w c) (then_one e a b x w)) (λ x w. choose_at (domain_of at) x w e.spot e.ty c a b)
        (chain (λ x w. whole (domain_of at) (deeper x) w c) (then_one e a b) r1 x y);
  }

  -- what follows the place of an assignment
  abbrev pub then_value : TPlace → TExpr → Then at (Goal ℤ) V
  then_value q a x w g = bind (whole (domain_of at) (deeper x) w a) (λ v. assigns (domain_of at) x w.enable q.spot a.spot q.ty g v)

  pub assign_so : (e : TExpr) (q : TPlace) (a : TExpr) {m m1 m2 : Machine} (r1 : Result Address Fault) {r : Result V Fault} → Walks at (λ x w. place_of at q (deeper x) w) m (goal_of r1) m1 → Goes at (then_value q a) (goal_of r1) m1 r m2 → RunsNode at e (Assign q a) m r m2
  assign_so e q a r1 x y = record {
    runs = as_walk (λ x w. expr (domain_of at) x w e.spot e.ty (Assign q a)) (λ x w. bind (place_of at q (deeper x) w) (then_value q a x w)) (λ x w. assign_at (domain_of at) x w e.spot e.ty q a)
        (chain (λ x w. place_of at q (deeper x) w) (then_value q a) (goal_of r1) x y);
  }

  -- what follows the place of an update
  abbrev pub then_operand : TExpr → BinaryOp → TPlace → TExpr → Then at (Goal ℤ) V
  then_operand e op q a x w g =
      bind (whole (domain_of at) (deeper x) w a) (λ v. bind (still (gets (domain_of at) q.spot q.ty g)) (λ o. bind (readied (domain_of at) e.spot op q.ty a.ty o) (λ y. bind (renewed (domain_of at) x e.spot op q.ty a.ty y v) (λ z.
      still (sets (domain_of at) q.spot w.enable q.ty g z)))))

  pub update_so : (e : TExpr) (op : BinaryOp) (q : TPlace) (a : TExpr) {m m1 m2 : Machine} (r1 : Result Address Fault) {r : Result V Fault} → Walks at (λ x w. place_of at q (deeper x) w) m (goal_of r1) m1 → Goes at (then_operand e op q a) (goal_of r1) m1 r m2 → RunsNode at e (Update op q a false) m r m2
  update_so e op q a r1 x y = record {
    runs = as_walk (λ x w. expr (domain_of at) x w e.spot e.ty (Update op q a false)) (λ x w. bind (place_of at q (deeper x) w) (then_operand e op q a x w)) (λ x w. update_at (domain_of at) x w e.spot e.ty op q a)
        (chain (λ x w. place_of at q (deeper x) w) (then_operand e op q a) (goal_of r1) x y);
  }

  -- what follows the place of an update whose value is the old one
  abbrev pub then_old : TExpr → BinaryOp → TPlace → TExpr → Then at (Goal ℤ) V
  then_old e op q a x w g =
      bind (still (gets (domain_of at) q.spot q.ty g)) (λ old. bind (still (gets (domain_of at) q.spot q.ty g)) (λ o.
      bind (readied (domain_of at) e.spot op q.ty a.ty o) (λ y. bind (whole (domain_of at) (deeper x) w a) (λ v. bind (renewed (domain_of at) x e.spot op q.ty a.ty y v) (λ z.
      bind (still (sets (domain_of at) q.spot w.enable q.ty g z)) (λ _. pure old))))))

  pub old_so : (e : TExpr) (op : BinaryOp) (q : TPlace) (a : TExpr) {m m1 m2 : Machine} (r1 : Result Address Fault) {r : Result V Fault} → Walks at (λ x w. place_of at q (deeper x) w) m (goal_of r1) m1 → Goes at (then_old e op q a) (goal_of r1) m1 r m2 → RunsNode at e (Update op q a true) m r m2
  old_so e op q a r1 x y = record {
    runs = as_walk (λ x w. expr (domain_of at) x w e.spot e.ty (Update op q a true)) (λ x w. bind (place_of at q (deeper x) w) (then_old e op q a x w)) (λ x w. old_at (domain_of at) x w e.spot e.ty op q a)
        (chain (λ x w. place_of at q (deeper x) w) (then_old e op q a) (goal_of r1) x y);
  }

  pub convert_so : (e a : TExpr) {m m1 m2 : Machine} (r1 : Result V Fault) {r : Result V Fault} → Walks at (λ x w. whole (domain_of at) (if same_spot e.spot a.spot then x else deeper x) w a) m r1 m1 → Goes at (λ x w v. converted (domain_of at) e.spot a.ty e.ty v) r1 m1 r m2 → RunsNode at e (Convert a) m r m2
  convert_so e a r1 x y = record {
    runs = as_walk (λ x w. expr (domain_of at) x w e.spot e.ty (Convert a)) (λ x w. bind (whole (domain_of at) (if same_spot e.spot a.spot then x else deeper x) w a) (λ v. converted (domain_of at) e.spot a.ty e.ty v)) (λ x w. convert_at (domain_of at) x w e.spot e.ty a)
        (chain (λ x w. whole (domain_of at) (if same_spot e.spot a.spot then x else deeper x) w a) (λ x w v. converted (domain_of at) e.spot a.ty e.ty v) r1 x y);
  }

  wholes_so : (x : Site) (w : Under (domain_of at)) (es : List TExpr) → all_of (domain_of at) x w es ≡ wholes at x w es
  wholes_so x w [] = refl
  wholes_so x w (e ∷ es) = ap (λ m. bind (whole (domain_of at) x w e) (λ v. bind m (λ vs. pure (v ∷ vs)))) (wholes_so x w es)

  pub call_so : (e : TExpr) (f : ℕ) (es : List TExpr) {m m1 m2 : Machine} (r1 : Result (List V) Fault) {r : Result V Fault} → Walks at (λ x w. wholes at (deeper x) w es) m r1 m1 → Goes at (λ x w vs. w.call e.spot f w.enable x.room vs) r1 m1 r m2 → RunsNode at e (Call f es) m r m2
  call_so e f es r1 x y = record {
    runs = as_walk (λ x w. expr (domain_of at) x w e.spot e.ty (Call f es)) (λ x w. bind (wholes at (deeper x) w es) (λ vs. w.call e.spot f w.enable x.room vs))
        (λ x w. call_at (domain_of at) x w e.spot e.ty f es ∙ ap (λ m. bind m (λ vs. w.call e.spot f w.enable x.room vs)) (wholes_so (deeper x) w es))
        (chain (λ x w. wholes at (deeper x) w es) (λ x w vs. w.call e.spot f w.enable x.room vs) r1 x y);
  }

  source_so : (es : List TExpr) → source_in' es ≡ source_in es
  source_so [] = refl
  source_so (e ∷ es) = refl

  pub own_so : (e : TExpr) (b : Builtin) (es : List TExpr) {m m1 m2 : Machine} (r1 : Result (List V) Fault) {r : Result V Fault} → Walks at (λ x w. wholes at (deeper x) w es) m r1 m1 → Goes at (λ x w vs. performs (domain_of at) x e.spot e.ty (source_in es) b vs) r1 m1 r m2 → RunsNode at e (Own b es) m r m2
  own_so e b es r1 x y = record {
    runs = as_walk (λ x w. expr (domain_of at) x w e.spot e.ty (Own b es)) (λ x w. bind (wholes at (deeper x) w es) (λ vs. performs (domain_of at) x e.spot e.ty (source_in es) b vs))
        (λ x w. builtin_at (domain_of at) x w e.spot e.ty b es ∙ ap (λ m. bind m (λ vs. performs (domain_of at) x e.spot e.ty (source_in' es) b vs)) (wholes_so (deeper x) w es) ∙ ap (λ o. bind (wholes at (deeper x) w es) (λ vs. performs (domain_of at) x e.spot e.ty o b vs)) (source_so es))
        (chain (λ x w. wholes at (deeper x) w es) (λ x w vs. performs (domain_of at) x e.spot e.ty (source_in es) b vs) r1 x y);
  }

  -- what follows a pointer's value, of which a place is made
  abbrev pub then_only : (Site → V → CAct Address) → Then at V (Goal ℤ)
  then_only act x w v = bind (act x v) (λ a. pure (Only a))

  pub deref_so : (q : TPlace) (a : TExpr) {m m1 m2 : Machine} (r1 : Result V Fault) {r : Result Address Fault} → Walks at (λ x w. whole (domain_of at) (deeper x) w a) m r1 m1 → Goes at (then_only (λ x v. still (follows (domain_of at) q.spot v))) r1 m1 (goal_of r) m2 → RunsPlaceNode at q (Deref a) m r m2
  deref_so q a r1 {r} x y = record {
    runs = as_walk (λ x w. place (domain_of at) x w q.spot q.ty (Deref a)) (λ x w. bind (whole (domain_of at) (deeper x) w a) (then_only (λ x v. still (follows (domain_of at) q.spot v)) x w)) (λ x w. deref_at (domain_of at) x w q.spot q.ty a)
        (chain (λ x w. whole (domain_of at) (deeper x) w a) (then_only (λ x v. still (follows (domain_of at) q.spot v))) r1 x y);
  }

  pub index_so : (q : TPlace) (a b : TExpr) {m m1 m2 : Machine} (r1 : Result (V × V) Fault) {r : Result Address Fault} → Walks at (λ x w. two at a b (deeper x) w) m r1 m1 → Goes at (λ x w v. bind (still (moves (domain_of at) q.spot (size_of x.run.structs q.ty) false v.0 v.1)) (λ a. pure (Only a))) r1 m1 (goal_of r) m2 → RunsPlaceNode at q (Index a b) m r m2
  index_so q a b r1 {r} x y = record {
    runs = as_states (λ x w. place (domain_of at) x w q.spot q.ty (Index a b)) (λ x w. bind (two at a b (deeper x) w) (λ v. bind (still (moves (domain_of at) q.spot (size_of x.run.structs q.ty) false v.0 v.1)) (λ a. pure (Only a))))
        (λ x w s. ap (λ h. h s) (index_at (domain_of at) x w q.spot q.ty a b) ∙ two_then at a b (λ x w v n. bind (still (moves (domain_of at) q.spot (size_of x.run.structs q.ty) false v n)) (λ a. pure (Only a))) x (deeper x) w s)
        (chain (λ x w. two at a b (deeper x) w) (λ x w v. bind (still (moves (domain_of at) q.spot (size_of x.run.structs q.ty) false v.0 v.1)) (λ a. pure (Only a))) r1 x y);
  }

  pub field_so : (q b : TPlace) (n : ℕ) {m m1 m2 : Machine} (r1 : Result Address Fault) {r : Result Address Fault} → Walks at (λ x w. place_of at b (deeper x) w) m (goal_of r1) m1 → Goes at (λ x w g. bind (solely (domain_of at) q.spot g) (λ a. pure (Only (ahead n a)))) (goal_of r1) m1 (goal_of r) m2 → RunsPlaceNode at q (Field b n) m r m2
  field_so q b n r1 {r} x y = record {
    runs = as_walk (λ x w. place (domain_of at) x w q.spot q.ty (Field b n)) (λ x w. bind (place_of at b (deeper x) w) (λ g. bind (solely (domain_of at) q.spot g) (λ a. pure (Only (ahead n a))))) (λ x w. field_at (domain_of at) x w q.spot q.ty b n)
        (chain (λ x w. place_of at b (deeper x) w) (λ x w g. bind (solely (domain_of at) q.spot g) (λ a. pure (Only (ahead n a)))) (goal_of r1) x y);
  }
