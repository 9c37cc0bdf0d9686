-- How the code's steps make a walk.
use Rattle.std.proofs.Common.{ℕ, ◌-◌, ◌≡◌, ◌≤◌, ℤ, List, Result, Ok, Err, refl, sym, ap, ◌∙◌, subst, arith}
use Rattle.oc_cells.specs.declared.types.CType.{CType}
use Rattle.oc_cells.specs.declared.memory.Address.{Address}
use Rattle.oc_typed.specs.declared.typed.TExpr.{TExpr}
use Rattle.oc_typed.specs.declared.typed.TPlace.{TPlace}
use Rattle.oc_walk.specs.declared.run.Value.{Value}
use Rattle.oc_walk.specs.Walking.{Site, Res, Go, Stop, Act, after, bind, pure, still, stilled, deeper}
use Rattle.oc_walk.specs.Expressions.{Under, whole}
use Rattle.clear_actions.specs.Acting.{ClearMem, ClearState, Gives, Does, Moves, SameBlocks, mem_of, state_of}
use Rattle.clear_actions.specs.declared.machine.Machine.{Machine}
use Rattle.clear_actions.specs.declared.machine.Store.{Store}
use Rattle.clear_actions.specs.declared.machine.Fault.{Fault}
use Rattle.clear_actions.specs.declared.machine.Fault.TheVariants.{Halted, NoMemory}
use Rattle.clear_walk.specs.declared.around.Frame.{Frame}
use Rattle.clear_walk.specs.declared.around.At.{At}
use Rattle.clear_walk.specs.Places.{below}
use Rattle.clear_walk.specs.Runs.{Around, around, domain_of, site_of, under_of, Ready, Here, Walks, Acts, RunsExpr, RunsPlace, RunsTwo, RunsExprs, goal_of, place_of, two, wholes}

abbrev pub CAct : Type 0 → Type 0
CAct T = Act ClearState T

-- what is walked after a first part's result
abbrev pub Then : Around → Type 0 → Type 0 → Type 0
Then at T U = Site → Under (domain_of at) → T → CAct U

-- what surrounds a node's parts
abbrev pub lowered : Around → Around
lowered at = record at { room = at.room - 1 }

pub same_later : (a b c : Store) → SameBlocks a b → SameBlocks b c → SameBlocks a c
same_later a b c k l = (l.0 ∙ k.0, l.1 ∙ k.1)

pub ready_later : {ls : List (List CType)} {rounds : ℕ} {m n : Machine} → Ready ls rounds m → SameBlocks m.store n.store → n.steps ≤ m.steps → Ready ls rounds n
ready_later r k f = record { limit = k.0 ∙ r.limit; structs_are = k.1 ∙ r.structs_are; steps = let s = r.steps in omega (arith, f, s) }

pub stops : {A B : Type 0} (q : Res ClearState A) (k : A → CAct B) (f : Fault) (s : ClearState) → Gives {A = A} q (Err f) s → Gives {A = B} (after q k) (Err f) s
stops q k (Halted h) s d = ap (λ r. after r k) d
stops q k NoMemory s d = tt

module _ {T U : Type 0} {at : Around} (f : Here at T) (k : Then at T U) where
  and_then : {m m1 m2 : Machine} {a : T} {r : Result U Fault} → Walks at f m (Ok a) m1 → Walks at (λ x w. k x w a) m1 r m2 → Walks at (λ x w. bind (f x w) (k x w)) m r m2
  and_then {m} {m1} {m2} {a} {r} p q = record {
    does = λ ls rounds n t lt. subst (λ z. Gives (after z (k (site_of ls rounds at) (under_of ls rounds n at))) r (state_of m2)) (sym (p.does ls rounds n t lt)) (q.does ls rounds n (ready_later t p.kept p.fewer) lt);
    kept = same_later m.store m1.store m2.store p.kept q.kept;
    fewer = let b = p.fewer in let c = q.fewer in omega (arith, b, c);
  }

  or_stops : {m m1 : Machine} {e : Fault} → Walks at f m (Err e) m1 → Walks at (λ x w. bind (f x w) (k x w)) m (Err e) m1
  or_stops {m} {m1} {e} p = record {
    does = λ ls rounds n t lt. stops (f (site_of ls rounds at) (under_of ls rounds n at) (state_of m)) (k (site_of ls rounds at) (under_of ls rounds n at)) e (state_of m1) (p.does ls rounds n t lt);
    kept = p.kept;
    fewer = p.fewer;
  }

-- what follows a first answer: the rest of the walk, or the same fault
abbrev pub Goes : {T U : Type 0} (at : Around) (k : Then at T U) → Result T Fault → Machine → Result U Fault → Machine → Type 0
Goes at k (Ok a) m1 r m2 = Walks at (λ x w. k x w a) m1 r m2
Goes at k (Err e) m1 r m2 = (r ≡ Err e) × (m2 ≡ m1)

pub chain : {T U : Type 0} {at : Around} (f : Here at T) (k : Then at T U) {m m1 m2 : Machine} {r : Result U Fault} (r1 : Result T Fault) → Walks at f m r1 m1 → Goes at k r1 m1 r m2 → Walks at (λ x w. bind (f x w) (k x w)) m r m2
chain f k (Ok a) p q = and_then f k p q
chain {at = at} f k {m} {m1} {m2} {r} (Err e) p q =
    subst (λ z. Walks at (λ x w. bind (f x w) (k x w)) m z m2) (sym q.0) (subst (λ n. Walks at (λ x w. bind (f x w) (k x w)) m (Err e) n) (sym q.1) (or_stops f k p))

-- a walk that is the same in other words
pub as_walk : {T : Type 0} {at : Around} (f g : Here at T) {m m1 : Machine} {r : Result T Fault} → ((x : Site) (w : Under (domain_of at)) → f x w ≡ g x w) → Walks at g m r m1 → Walks at f m r m1
as_walk {at = at} f g {m} {m1} {r} e p = record {
  does = λ ls rounds n t lt. subst (λ h. Gives (h (state_of m)) r (state_of m1)) (sym (e (site_of ls rounds at) (under_of ls rounds n at))) (p.does ls rounds n t lt);
  kept = p.kept;
  fewer = p.fewer;
}

-- a walk that is the same at each state
pub as_states : {T : Type 0} {at : Around} (f g : Here at T) {m m1 : Machine} {r : Result T Fault} → ((x : Site) (w : Under (domain_of at)) (s : ClearState) → f x w s ≡ g x w s) → Walks at g m r m1 → Walks at f m r m1
as_states {at = at} f g {m} {m1} {r} e p = record {
  does = λ ls rounds n t lt. subst (λ h. Gives h r (state_of m1)) (sym (e (site_of ls rounds at) (under_of ls rounds n at) (state_of m))) (p.does ls rounds n t lt);
  kept = p.kept;
  fewer = p.fewer;
}

-- a walk of a node's part
pub lower : {T : Type 0} {at : Around} (f : Here at T) {m m1 : Machine} {r : Result T Fault} → Walks (lowered at) f m r m1 → Walks at (λ x w. f (deeper x) w) m r m1
lower f p = record {
  does = λ ls rounds n t lt. p.does ls rounds n t (omega (arith, lt));
  kept = p.kept;
  fewer = p.fewer;
}

pub nothing_changes : (s : Store) → SameBlocks s s
nothing_changes s = (refl, refl)

-- a result at once
pub at_once : {T : Type 0} {at : Around} (a : T) {m : Machine} {r : Result T Fault} → r ≡ Ok a → Walks at (λ x w. pure a) m r m
at_once {at = at} a {m} e = subst (λ q. Walks at (λ x w. pure a) m q m) (sym e) (record { does = λ ls rounds n t lt. refl; kept = nothing_changes m.store; fewer = omega arith })

pub still_gives : {T : Type 0} (q : Res ClearMem T) (r : Result T Fault) (m : Machine) (s : Store) → Gives q r (mem_of s) → Gives (stilled (state_of m) q) r (state_of (record m { store = s }))
still_gives q (Ok a) m s d = ap (λ z. stilled (state_of m) z) d
still_gives q (Err (Halted h)) m s d = ap (λ z. stilled (state_of m) z) d
still_gives q (Err NoMemory) m s d = tt

-- an action on memory that changes nothing
pub by_look : {T : Type 0} {at : Around} (act : Act ClearMem T) {m : Machine} {r : Result T Fault} → Gives (act (mem_of m.store)) r (mem_of m.store) → Walks at (λ x w. still act) m r m
by_look act {m} {r} d = record {
  does = λ ls rounds n t lt. still_gives (act (mem_of m.store)) r m m.store d;
  kept = nothing_changes m.store;
  fewer = omega arith;
}

-- an action on memory
pub by_act : {T : Type 0} {at : Around} (act : Act ClearMem T) {m : Machine} {s : Store} {r : Result T Fault} → Does (act (mem_of m.store)) r m.store s → Walks at (λ x w. still act) m r (record m { store = s })
by_act act {m} {s} {r} d = record {
  does = λ ls rounds n t lt. still_gives (act (mem_of m.store)) r m s d.0;
  kept = d.1;
  fewer = omega arith;
}

-- an action on the whole state
pub by_move : {T : Type 0} {at : Around} (act : CAct T) {m m1 : Machine} {r : Result T Fault} → Moves act r m m1 → Walks at (λ x w. act) m r m1
by_move act d = record { does = λ ls rounds n t lt. d.0; kept = d.1; fewer = d.2 }

-- an action at each site with the store's structs
pub by_acts : {T : Type 0} {at : Around} {act : Site → CAct T} {m m1 : Machine} {r : Result T Fault} → Acts act m r m1 → Walks at (λ x w. act x) m r m1
by_acts {at = at} d = record {
  does = λ ls rounds n t lt. d.does (site_of ls rounds at) (sym t.structs_are) t.limit;
  kept = d.kept;
  fewer = d.fewer;
}

module _ (f : Frame) (p d : At) (h : d ≡ below p) where
  -- a part of a node
  pub deep_expr : {e : TExpr} {m m1 : Machine} {r : Result (Value ℤ) Fault} → RunsExpr (around f d) e m r m1 → Walks (around f p) (λ x w. whole (domain_of (around f p)) (deeper x) w e) m r m1
  deep_expr {e} {m} {m1} {r} x =
      lower {at = around f p} (λ x w. whole (domain_of (around f p)) x w e) (subst (λ q. RunsExpr (around f q) e m r m1) h x).runs

  pub deep_two : {a b : TExpr} {m m1 : Machine} {r : Result (Value ℤ × Value ℤ) Fault} → RunsTwo (around f d) a b m r m1 → Walks (around f p) (λ x w. two (around f p) a b (deeper x) w) m r m1
  deep_two {a} {b} {m} {m1} {r} x = lower {at = around f p} (two (around f p) a b) (subst (λ q. RunsTwo (around f q) a b m r m1) h x).runs

  pub deep_place : {q : TPlace} {m m1 : Machine} {r : Result Address Fault} → RunsPlace (around f d) q m r m1 → Walks (around f p) (λ x w. place_of (around f p) q (deeper x) w) m (goal_of r) m1
  deep_place {q} {m} {m1} {r} x = lower {at = around f p} (place_of (around f p) q) (subst (λ k. RunsPlace (around f k) q m r m1) h x).runs

  pub deep_exprs : {es : List TExpr} {m m1 : Machine} {r : Result (List (Value ℤ)) Fault} → RunsExprs (around f d) es m r m1 → Walks (around f p) (λ x w. wholes (around f p) (deeper x) w es) m r m1
  deep_exprs {es} {m} {m1} {r} x = lower {at = around f p} (λ x w. wholes (around f p) x w es) (subst (λ k. RunsExprs (around f k) es m r m1) h x).runs

-- an action, what follows it, and what follows that
pub after_after : {A B C : Type 0} (q : Res ClearState A) (f : A → CAct B) (k : B → CAct C) → after (after q f) k ≡ after q (λ a. bind (f a) k)
after_after (Go a s) f k = refl
after_after (Stop h s) f k = refl

-- two expressions, then what follows both values
pub two_then : (at : Around) (a b : TExpr) {U : Type 0} (k : Site → Under (domain_of at) → Value ℤ → Value ℤ → CAct U) (x y : Site) (w : Under (domain_of at)) (s : ClearState)
    → bind (whole (domain_of at) y w a) (λ v. bind (whole (domain_of at) y w b) (λ z. k x w v z)) s ≡ bind (two at a b y w) (λ v. k x w v.0 v.1) s
two_then at a b {U} k x y w s =
    inner (whole (domain_of at) y w a s) ∙ sym (after_after (whole (domain_of at) y w a s) (λ v. bind (whole (domain_of at) y w b) (pair v)) (λ v. k x w v.0 v.1))
  where
    pair : Value ℤ → Value ℤ → CAct (Value ℤ × Value ℤ)
    pair v z = pure (v, z)

    last : (v : Value ℤ) (q : Res ClearState (Value ℤ)) → after q (λ z. k x w v z) ≡ after (after q (pair v)) (λ v. k x w v.0 v.1)
    last v (Go z t) = refl
    last v (Stop h t) = refl

    inner : (q : Res ClearState (Value ℤ)) → after q (λ v. bind (whole (domain_of at) y w b) (λ z. k x w v z)) ≡ after q (λ v. bind (bind (whole (domain_of at) y w b) (pair v)) (λ v. k x w v.0 v.1))
    inner (Go v t) = last v (whole (domain_of at) y w b t)
    inner (Stop h t) = refl
