-- What follows the first part of a node.
use Rattle.std.proofs.Common.{ℕ, ◌≡◌, ℤ, List, [], Result, Ok, refl, sym, ap, subst, Bool, true, false}
use Rattle.std.specs.Prelude.{if◌then◌else◌}
use Rattle.oc_values.specs.declared.integers.IntKind.TheVariants.{Bool as KBool, I32}
use Rattle.oc_values.specs.declared.integers.BinaryOp.{BinaryOp}
use Rattle.oc_source.specs.declared.spot.Spot.{Spot}
use Rattle.oc_cells.specs.declared.types.CType.{CType}
use Rattle.oc_cells.specs.declared.types.SlotType.{SlotType}
use Rattle.oc_cells.specs.declared.memory.Address.{Address}
use Rattle.oc_cells.specs.Types.{alike}
use Rattle.oc_typed.specs.Static.{same_spot}
use Rattle.oc_typed.specs.declared.typed.Builtin.{Builtin}
use Rattle.oc_typed.specs.declared.typed.TExpr.{TExpr}
use Rattle.oc_typed.specs.declared.typed.TPlace.{TPlace}
use Rattle.oc_walk.specs.declared.run.Source.{Source}
use Rattle.oc_walk.specs.declared.run.Value.{Value}
use Rattle.oc_walk.specs.declared.run.Value.TheVariants.{Pointer}
use Rattle.oc_walk.specs.Walking.{Site, Res, Go, Stop, after, bind, pure, choose, still, deeper, ahead}
use Rattle.oc_walk.specs.Cells.{Goal, Only, gets}
use Rattle.oc_walk.specs.Operations.{tests, turns}
use Rattle.oc_walk.specs.Builtins.{performs}
use Rattle.oc_walk.specs.Expressions.{whole, assigns, readied, solely, decided}
use Rattle.clear_actions.specs.Acting.{ClearState, Gives, MovesWithin, bare, mem_of, state_of}
use Rattle.clear_actions.specs.Calls.{site}
use Rattle.clear_actions.specs.declared.machine.Machine.{Machine}
use Rattle.clear_actions.specs.declared.machine.Fault.{Fault}
use Rattle.clear_walk.specs.declared.around.Frame.{Frame}
use Rattle.clear_walk.specs.declared.around.At.{At}
use Rattle.clear_walk.specs.Places.{below, beside}
use Rattle.clear_walk.specs.Runs.{Around, around, domain_of, site_of, Walks, Acts, RunsExpr, RunsTwo, RunsCall, updates, begins_update, ends_update}
use Rattle.clear_walk.proofs.Walked.{CAct, Then, Goes, chain, as_states, at_once, by_look, by_acts, deep_expr}
use Rattle.clear_walk.proofs.Forms.{then_value, then_operand, then_old}

abbrev V : Type 0
V = Value ℤ

-- two parts of a node are these
pub both_are : {A B C : Type 0} (f : A → B → C) {a x : A} {b y : B} → x ≡ a → y ≡ b → f a b ≡ f x y
both_are f p q = rw (p, q) refl

pub three_are : {A B C D : Type 0} (f : A → B → C → D) {a x : A} {b y : B} {c z : C} → x ≡ a → y ≡ b → z ≡ c → f a b c ≡ f x y z
three_are f p q r = rw (p, q, r) refl

module _ (at : Around) where
  -- an action under the enable
  pub by_enabled : {T : Type 0} (act : Bool → Site → CAct T) {m m1 : Machine} {r : Result T Fault} → Acts (act at.enabled) m r m1 → Walks at (λ x w. act w.enable x) m r m1
  by_enabled act d = record {
    does = λ ls rounds n t lt. d.does (site_of ls rounds at) (sym t.structs_are) t.limit;
    kept = d.kept;
    fewer = d.fewer;
  }

  pub called_here : {p : Spot} {f : ℕ} {vs : List V} {m m1 : Machine} {r : Result V Fault} → RunsCall at p f vs m r m1 → Walks at (λ x w. w.call p f w.enable x.room vs) m r m1
  called_here x = record { does = λ ls rounds n t lt. x.runs.does ls rounds n t lt; kept = x.runs.kept; fewer = x.runs.fewer }

  pub performed : (p : Spot) (t : CType) (s : Source) (b : Builtin) (vs : List V) {m m1 : Machine} {r : Result V Fault}
      → ((rounds room : ℕ) (slots : List SlotType) → MovesWithin (performs (domain_of at) (site at.setup m.store.blocks.structs rounds slots room) p t s b vs) r m m1)
      → Walks at (λ x w. performs (domain_of at) x p t s b vs) m r m1
  performed p ty s b vs {m} {m1} {r} d = record {
    does = λ ls rounds n t lt. subst (λ l. Gives (performs (domain_of at) (site at.setup l rounds at.slots at.room) p ty s b vs (state_of m)) r (state_of m1)) t.structs_are ((d rounds at.room at.slots).0 t.limit);
    kept = (d 0 0 []).1;
    fewer = (d 0 0 []).2;
  }

  pub address_goes : (p : Spot) (a : Address) {m : Machine} {r : Result V Fault} → r ≡ Ok (Pointer a) → Walks at (λ x w. bind (solely (domain_of at) p (Only a)) (λ a. pure (Pointer a))) m r m
  address_goes p a h = as_states (λ x w. bind (solely (domain_of at) p (Only a)) (λ a. pure (Pointer a))) (λ x w. pure (Pointer a)) (λ x w s. refl) (at_once (Pointer a) h)

  pub field_goes : (p : Spot) (k : ℕ) (a : Address) {m : Machine} {r : Result (Goal ℤ) Fault} → r ≡ Ok (Only (ahead k a)) → Walks at (λ x w. bind (solely (domain_of at) p (Only a)) (λ a. pure (Only (ahead k a)))) m r m
  field_goes p k a h = as_states (λ x w. bind (solely (domain_of at) p (Only a)) (λ a. pure (Only (ahead k a)))) (λ x w. pure (Only (ahead k a))) (λ x w s. refl) (at_once (Only (ahead k a)) h)

  -- an address as a place
  pub only_goes : (act : Site → CAct Address) {m m1 : Machine} (r1 : Result Address Fault) {r : Result (Goal ℤ) Fault} → Walks at (λ x w. act x) m r1 m1 → Goes at (λ x w a. pure (Only a)) r1 m1 r m1 → Walks at (λ x w. bind (act x) (λ a. pure (Only a))) m r m1
  only_goes act r1 x y = chain (λ x w. act x) (λ x w a. pure (Only a)) r1 x y

  -- a test, and what follows it
  pub test_then : {T : Type 0} (p : Spot) (v : V) (k : Then at Bool T) {m m2 : Machine} (r1 : Result Bool Fault) {r : Result T Fault} → Gives (tests bare p v (mem_of m.store)) r1 (mem_of m.store) → Goes at k r1 m r m2 → Walks at (λ x w. bind (still (tests (domain_of at) p v)) (k x w)) m r m2
  test_then p v k r1 d y = chain (λ x w. still (tests (domain_of at) p v)) k r1 (by_look (tests bare p v) d) y

  -- what follows the test of a public `&&` or `||`
  pub decided_goes : (e : TExpr) (all : Bool) (b : TExpr) (t : Bool) {m : Machine} {r : Result V Fault} → alike all t ≡ false → r ≡ Ok (decided (domain_of at) t) → Walks at (λ x w. choose (alike all t) (bind (whole (domain_of at) (deeper x) w b) (λ z. still (turns (domain_of at) e.spot KBool I32 false z))) (pure (decided (domain_of at) t))) m r m
  decided_goes e all b t h q = as_states (λ x w. choose (alike all t) (bind (whole (domain_of at) (deeper x) w b) (λ z. still (turns (domain_of at) e.spot KBool I32 false z))) (pure (decided (domain_of at) t))) (λ x w. pure (decided (domain_of at) t))
      (λ x w s. ap (λ c. choose c (bind (whole (domain_of at) (deeper x) w b) (λ z. still (turns (domain_of at) e.spot KBool I32 false z))) (pure (decided (domain_of at) t)) s) h) (at_once (decided (domain_of at) t) q)

  pub other_goes : (e : TExpr) (all : Bool) (b : TExpr) (t : Bool) {m m1 m2 : Machine} (r1 : Result V Fault) {r : Result V Fault} → alike all t ≡ true → Walks at (λ x w. whole (domain_of at) (deeper x) w b) m r1 m1 → Goes at (λ x w z. still (turns (domain_of at) e.spot KBool I32 false z)) r1 m1 r m2 → Walks at (λ x w. choose (alike all t) (bind (whole (domain_of at) (deeper x) w b) (λ z. still (turns (domain_of at) e.spot KBool I32 false z))) (pure (decided (domain_of at) t))) m r m2
  other_goes e all b t r1 h x y = as_states (λ x w. choose (alike all t) (bind (whole (domain_of at) (deeper x) w b) (λ z. still (turns (domain_of at) e.spot KBool I32 false z))) (pure (decided (domain_of at) t))) (λ x w. bind (whole (domain_of at) (deeper x) w b) (λ z. still (turns (domain_of at) e.spot KBool I32 false z)))
      (λ x w s. ap (λ c. choose c (bind (whole (domain_of at) (deeper x) w b) (λ z. still (turns (domain_of at) e.spot KBool I32 false z))) (pure (decided (domain_of at) t)) s) h)
      (chain (λ x w. whole (domain_of at) (deeper x) w b) (λ x w z. still (turns (domain_of at) e.spot KBool I32 false z)) r1 x y)

  -- what follows the test of a choice
  pub yes_goes : (a b : TExpr) (t : Bool) {m m1 : Machine} {r : Result V Fault} → t ≡ true → Walks at (λ x w. whole (domain_of at) (deeper x) w a) m r m1 → Walks at (λ x w. choose t (whole (domain_of at) (deeper x) w a) (whole (domain_of at) (deeper x) w b)) m r m1
  yes_goes a b t h x = as_states (λ x w. choose t (whole (domain_of at) (deeper x) w a) (whole (domain_of at) (deeper x) w b)) (λ x w. whole (domain_of at) (deeper x) w a) (λ x w s. ap (λ c. choose c (whole (domain_of at) (deeper x) w a) (whole (domain_of at) (deeper x) w b) s) h) x

  pub no_goes : (a b : TExpr) (t : Bool) {m m1 : Machine} {r : Result V Fault} → t ≡ false → Walks at (λ x w. whole (domain_of at) (deeper x) w b) m r m1 → Walks at (λ x w. choose t (whole (domain_of at) (deeper x) w a) (whole (domain_of at) (deeper x) w b)) m r m1
  no_goes a b t h x = as_states (λ x w. choose t (whole (domain_of at) (deeper x) w a) (whole (domain_of at) (deeper x) w b)) (λ x w. whole (domain_of at) (deeper x) w b) (λ x w s. ap (λ c. choose c (whole (domain_of at) (deeper x) w a) (whole (domain_of at) (deeper x) w b) s) h) x

  -- what follows the place of an assignment
  pub value_goes : (q : TPlace) (a : TExpr) (g : Address) {m m1 m2 : Machine} (r1 : Result V Fault) {r : Result V Fault} → Walks at (λ x w. whole (domain_of at) (deeper x) w a) m r1 m1 → Goes at (λ x w v. assigns (domain_of at) x w.enable q.spot a.spot q.ty (Only g) v) r1 m1 r m2 → Walks at (λ x w. then_value at q a x w (Only g)) m r m2
  value_goes q a g r1 x y = chain (λ x w. whole (domain_of at) (deeper x) w a) (λ x w v. assigns (domain_of at) x w.enable q.spot a.spot q.ty (Only g) v) r1 x y

  pub assign_goes : (q r : Spot) (u : CType) (g : Address) (v : V) {m m1 : Machine} {res : Result V Fault} → Acts (λ x. assigns bare x at.enabled q r u (Only g) v) m res m1 → Walks at (λ x w. assigns (domain_of at) x w.enable q r u (Only g) v) m res m1
  assign_goes q r u g v d = by_enabled (λ e x. assigns bare x e q r u (Only g) v) d

  -- what follows the place of an update, and then its operand
  pub operand_goes : (e : TExpr) (op : BinaryOp) (q : TPlace) (a : TExpr) (g : Address) {m m1 m2 : Machine} (r1 : Result V Fault) {r : Result V Fault} → Walks at (λ x w. whole (domain_of at) (deeper x) w a) m r1 m1 → Goes at (λ x w v. updates x w.enable e.spot op q.spot q.ty a.ty g v) r1 m1 r m2 → Walks at (λ x w. then_operand at e op q a x w (Only g)) m r m2
  operand_goes e op q a g r1 x y = chain (λ x w. whole (domain_of at) (deeper x) w a) (λ x w v. updates x w.enable e.spot op q.spot q.ty a.ty g v) r1 x y

  pub update_goes : (p : Spot) (op : BinaryOp) (q : Spot) (u t : CType) (g : Address) (v : V) {m m1 : Machine} {r : Result V Fault} → Acts (λ x. updates x at.enabled p op q u t g v) m r m1 → Walks at (λ x w. updates x w.enable p op q u t g v) m r m1
  update_goes p op q u t g v d = by_enabled (λ e x. updates x e p op q u t g v) d

  -- what follows the first part of an update whose value is the old one
  abbrev pub then_end : TExpr → BinaryOp → TPlace → TExpr → Address → Then at (V × V) V
  then_end e op q a g x w o = bind (whole (domain_of at) (deeper x) w a) (λ v. ends_update x w.enable e.spot op q.spot q.ty a.ty g o.0 o.1 v)

  -- the first part, and what follows both of its values
  old_parts : (p : Spot) (op : BinaryOp) (q : Spot) (u t : CType) (g : Address) (k : V → V → CAct V) (s : ClearState)
      → bind (still (gets bare q u (Only g))) (λ old. bind (still (gets bare q u (Only g))) (λ o. bind (readied bare p op u t o) (λ y. k old y))) s ≡ bind (begins_update p op q u t g) (λ o. k o.0 o.1) s
  old_parts p op q u t g k s = first (still (gets bare q u (Only g)) s)
    where
      pair : V → V → CAct (V × V)
      pair v z = pure (v, z)

      third : (old : V) (r : Res ClearState V) → after r (λ y. k old y) ≡ after (after r (pair old)) (λ o. k o.0 o.1)
      third old (Go y v) = refl
      third old (Stop h v) = refl

      second : (old : V) (r : Res ClearState V) → after r (λ o. bind (readied bare p op u t o) (λ y. k old y)) ≡ after (after r (λ o. bind (readied bare p op u t o) (pair old))) (λ o. k o.0 o.1)
      second old (Go o v) = third old (readied bare p op u t o v)
      second old (Stop h v) = refl

      first : (r : Res ClearState V) → after r (λ old. bind (still (gets bare q u (Only g))) (λ o. bind (readied bare p op u t o) (λ y. k old y))) ≡ after (after r (λ old. bind (still (gets bare q u (Only g))) (λ o. bind (readied bare p op u t o) (pair old)))) (λ o. k o.0 o.1)
      first (Go old v) = second old (still (gets bare q u (Only g)) v)
      first (Stop h v) = refl

  pub old_goes : (e : TExpr) (op : BinaryOp) (q : TPlace) (a : TExpr) (g : Address) {m m1 m2 : Machine} (r1 : Result (V × V) Fault) {r : Result V Fault} → Acts (λ x. begins_update e.spot op q.spot q.ty a.ty g) m r1 m1 → Goes at (then_end e op q a g) r1 m1 r m2 → Walks at (λ x w. then_old at e op q a x w (Only g)) m r m2
  old_goes e op q a g r1 d y =
      as_states (λ x w. then_old at e op q a x w (Only g)) (λ x w. bind (begins_update e.spot op q.spot q.ty a.ty g) (then_end e op q a g x w))
      (λ x w s. old_parts e.spot op q.spot q.ty a.ty g (λ old y. bind (whole (domain_of at) (deeper x) w a) (λ v. ends_update x w.enable e.spot op q.spot q.ty a.ty g old y v)) s)
      (chain (λ x w. begins_update e.spot op q.spot q.ty a.ty g) (then_end e op q a g) r1 (by_acts d) y)

  pub end_goes : (e : TExpr) (op : BinaryOp) (q : TPlace) (a : TExpr) (g : Address) (old y : V) {m m1 m2 : Machine} (r1 : Result V Fault) {r : Result V Fault} → Walks at (λ x w. whole (domain_of at) (deeper x) w a) m r1 m1 → Goes at (λ x w v. ends_update x w.enable e.spot op q.spot q.ty a.ty g old y v) r1 m1 r m2 → Walks at (λ x w. then_end e op q a g x w (old, y)) m r m2
  end_goes e op q a g old y r1 x z = chain (λ x w. whole (domain_of at) (deeper x) w a) (λ x w v. ends_update x w.enable e.spot op q.spot q.ty a.ty g old y v) r1 x z

  pub ended_goes : (p : Spot) (op : BinaryOp) (q : Spot) (u t : CType) (g : Address) (old y v : V) {m m1 : Machine} {r : Result V Fault} → Acts (λ x. ends_update x at.enabled p op q u t g old y v) m r m1 → Walks at (λ x w. ends_update x w.enable p op q u t g old y v) m r m1
  ended_goes p op q u t g old y v d = by_enabled (λ e x. ends_update x e p op q u t g old y v) d

  -- two expressions, from their own
  pub two_so : (a b : TExpr) {m m1 m2 : Machine} (r1 : Result V Fault) {r : Result (V × V) Fault} → RunsExpr at a m r1 m1 → Goes at (λ x w v. bind (whole (domain_of at) x w b) (λ z. pure (v, z))) r1 m1 r m2 → RunsTwo at a b m r m2
  two_so a b r1 x y = record { runs = chain (λ x w. whole (domain_of at) x w a) (λ x w v. bind (whole (domain_of at) x w b) (λ z. pure (v, z))) r1 x.runs y }

  pub second_goes : (b : TExpr) (v : V) {m m1 m2 : Machine} (r1 : Result V Fault) {r : Result (V × V) Fault} → RunsExpr at b m r1 m1 → Goes at (λ x w z. pure (v, z)) r1 m1 r m2 → Walks at (λ x w. bind (whole (domain_of at) x w b) (λ z. pure (v, z))) m r m2
  second_goes b v r1 x y = chain (λ x w. whole (domain_of at) x w b) (λ x w z. pure (v, z)) r1 x.runs y

-- the part of a conversion
pub beside_expr : (f : Frame) (p d : At) (q : Spot) {e : TExpr} {m m1 : Machine} {r : Result V Fault} → d ≡ beside p q e.spot → RunsExpr (around f d) e m r m1 → Walks (around f p) (λ x w. whole (domain_of (around f p)) (if same_spot q e.spot then x else deeper x) w e) m r m1
beside_expr f p d q {e} {m} {m1} {r} h x = by_test (same_spot q e.spot) h
  where
    by_test : (b : Bool) → d ≡ (if b then p else below p) → Walks (around f p) (λ x w. whole (domain_of (around f p)) (if b then x else deeper x) w e) m r m1
    by_test true g = (subst (λ k. RunsExpr (around f k) e m r m1) g x).runs
    by_test false g = deep_expr f p d g x
