-- What follows the first part of a statement.
use Rattle.std.proofs.Common.{ℕ, ◌≡◌, ℤ, List, Option, Some, None, Result, Ok, refl, sym, ap, subst, Bool, true, false, not, ◌&&◌}
use Rattle.std.specs.Prelude.{slice_get}
use Rattle.oc_values.specs.Integers.{is_zero, number_of}
use Rattle.oc_values.specs.declared.integers.IntKind.TheVariants.{Bool as KBool}
use Rattle.oc_source.specs.declared.spot.Spot.{Spot}
use Rattle.oc_cells.specs.declared.types.CType.{CType}
use Rattle.oc_cells.specs.declared.types.SlotType.{SlotType}
use Rattle.oc_cells.specs.declared.memory.Address.TheVariants.{At as AtCell}
use Rattle.oc_typed.specs.declared.typed.TExpr.{TExpr}
use Rattle.oc_typed.specs.declared.typed.TDeclared.{TDeclared}
use Rattle.oc_typed.specs.declared.typed.TForInit.{TForInit}
use Rattle.oc_typed.specs.declared.typed.TForInit.TheVariants.{Declare as InitDeclare, Express as InitExpress}
use Rattle.oc_typed.specs.declared.typed.TStmt.{TStmt}
use Rattle.oc_walk.specs.declared.run.Value.{Value}
use Rattle.oc_walk.specs.declared.run.Value.TheVariants.{Hidden}
use Rattle.oc_walk.specs.declared.run.Flow.{Flow}
use Rattle.oc_walk.specs.declared.run.Flow.TheVariants.{Next, Back}
use Rattle.oc_walk.specs.Walking.{Site, Res, Go, Stop, after, bind, pure, still, step}
use Rattle.oc_walk.specs.Cells.{opens, puts, typed_slot}
use Rattle.oc_walk.specs.Operations.{tests, condition}
use Rattle.oc_walk.specs.Expressions.{Under, under, whole, initializes}
use Rattle.oc_walk.specs.Statements.{proceed, started, part_done, advances}
use Rattle.clear_actions.specs.Acting.{ClearState, Moves, bare}
use Rattle.clear_actions.specs.declared.machine.Machine.{Machine}
use Rattle.clear_actions.specs.declared.machine.Fault.{Fault}
use Rattle.clear_walk.specs.declared.variables.Opened.{Opened}
use Rattle.clear_walk.specs.declared.writes.Condition.{Condition}
use Rattle.clear_walk.specs.Runs.{Around, domain_of, Walks, Acts, RunsExpr, RunsTest, RunsCondition, RunsHidden, RunsAdvance, RunsStart, RunsDeclared, RunsDeclares, RunsHeader, RunsOpened, RunsFilled, RunsPart, RunsOther, RunsBoth, RunsAlways, RunsReturn, integer_of, opened_of, opened, part_of, other_of}
use Rattle.clear_walk.proofs.Walked.{CAct, Then, Goes, chain, as_states, at_once, by_acts, by_move}
use Rattle.clear_walk.proofs.Bodies.{then_turn}

abbrev V : Type 0
V = Value ℤ

abbrev F : Type 0
F = Flow ℤ

-- what surrounds a node under another enable
abbrev pub enabling : Around → Bool → Around
enabling at e = record at { enabled = e }

module _ (at : Around) where
  pub tested_so : (c : TExpr) {m m1 m2 : Machine} (r1 : Result V Fault) {r : Result Bool Fault} → RunsExpr at c m r1 m1 → Goes at (λ x w v. still (tests (domain_of at) c.spot v)) r1 m1 r m2 → RunsTest at c m r m2
  tested_so c r1 x y = record { runs = chain (λ x w. whole (domain_of at) x w c) (λ x w v. still (tests (domain_of at) c.spot v)) r1 x.runs y }

  pub hidden_so : (c : TExpr) {m m1 m2 : Machine} (r1 : Result V Fault) {r : Result Condition Fault} → RunsExpr at c m r1 m1 → Goes at (λ x w v. still (condition (domain_of at) c.spot v)) r1 m1 (integer_of r) m2 → RunsHidden at c m r m2
  hidden_so c r1 x y = record { runs = chain (λ x w. whole (domain_of at) x w c) (λ x w v. still (condition (domain_of at) c.spot v)) r1 x.runs y }

  pub condition_so : {o : Option TExpr} {c : TExpr} {m m1 : Machine} {r : Result Bool Fault} → o ≡ Some c → RunsTest at c m r m1 → RunsCondition at o m r m1
  condition_so {o} {c} {m} {m1} {r} h x = subst (λ o. RunsCondition at o m r m1) (sym h) (record { runs = x.runs })

  pub start_so : (t : CType) (b : ℕ) {o : Option TExpr} {e : TExpr} {m m1 m2 : Machine} (r1 : Result V Fault) {r : Result (Unit {0}) Fault} → o ≡ Some e → RunsExpr at e m r1 m1 → Goes at (λ x w v. initializes (domain_of at) e.spot x.run.structs t (AtCell b 0) v) r1 m1 r m2 → RunsStart at t b o m r m2
  start_so t b {o} {e} {m} {m1} {m2} r1 {r} h x y = subst (λ o. RunsStart at t b o m r m2) (sym h) (record { runs = chain (λ x w. whole (domain_of at) x w e) (λ x w v. initializes (domain_of at) e.spot x.run.structs t (AtCell b 0) v) r1 x.runs y })

  pub advance_so : {o : Option TExpr} {e : TExpr} {m m1 m2 : Machine} (r1 : Result V Fault) {r : Result (Unit {0}) Fault} → o ≡ Some e → RunsExpr at e m r1 m1 → Goes at (λ x w v. pure tt) r1 m1 r m2 → RunsAdvance at o m r m2
  advance_so {o} {e} {m} {m1} {m2} r1 {r} h x y = subst (λ o. RunsAdvance at o m r m2) (sym h) (record { runs = chain (λ x w. whole (domain_of at) x w e) (λ x w v. pure tt) r1 x.runs y })

  pub return_expr : {o : Option TExpr} {e : TExpr} {m m1 m2 : Machine} (r1 : Result V Fault) {r : Result F Fault} → o ≡ Some e → RunsExpr at e m r1 m1 → Goes at (λ x w v. pure (Back v)) r1 m1 r m2 → RunsReturn at o m r m2
  return_expr {o} {e} {m} {m1} {m2} r1 {r} h x y = subst (λ o. RunsReturn at o m r m2) (sym h) (record { runs = chain (λ x w. whole (domain_of at) x w e) (λ x w v. pure (Back v)) r1 x.runs y })

  pub header_declares : {i : TForInit} {ds : List TDeclared} {m m1 : Machine} {r : Result (Unit {0}) Fault} → i ≡ InitDeclare ds → RunsDeclares at ds m r m1 → RunsHeader at i m r m1
  header_declares {i} {ds} {m} {m1} {r} h x = subst (λ i. RunsHeader at i m r m1) (sym h) (record { runs = x.runs })

  pub header_advance : {i : TForInit} {e : TExpr} {m m1 : Machine} {r : Result (Unit {0}) Fault} → i ≡ InitExpress e → RunsAdvance at (Some e) m r m1 → RunsHeader at i m r m1
  header_advance {i} {e} {m} {m1} {r} h x = subst (λ i. RunsHeader at i m r m1) (sym h) (record { runs = x.runs })

  pub other_part : {o : Option TStmt} {s : TStmt} {m m1 : Machine} {r : Result F Fault} → o ≡ Some s → RunsPart at s m r m1 → RunsOther at o m r m1
  other_part {o} {s} {m} {m1} {r} h x = subst (λ o. RunsOther at o m r m1) (sym h) (record { runs = x.runs })

  -- a new variable, and what follows with its type and its block
  slot_parts : {T : Type 0} (p : Spot) (n : ℕ) (o : Option SlotType) (ls : List (List CType)) (k : CType → ℕ → CAct T) (s : ClearState)
      → typed_slot (domain_of at) p o (λ t. bind (opens (domain_of at) p ls t.ty n) (λ b. k t.ty b)) s
      ≡ bind (typed_slot (domain_of at) p o (λ t. bind (opens (domain_of at) p ls t.ty n) (λ b. pure {A = CType × ℕ} (t.ty, b)))) (λ o. k o.0 o.1) s
  slot_parts p n None ls k s = refl
  slot_parts p n (Some t) ls k s = made (opens (domain_of at) p ls t.ty n s)
    where
      pair : ℕ → CAct (CType × ℕ)
      pair b = pure (t.ty, b)

      made : (q : Res ClearState ℕ) → after q (λ b. k t.ty b) ≡ after (after q pair) (λ o. k o.0 o.1)
      made (Go b u) = refl
      made (Stop h u) = refl

  pub opened_so : {T : Type 0} (p : Spot) (n : ℕ) (k : Site → Under (domain_of at) → CType → ℕ → CAct T) {m m1 m2 : Machine} (r1 : Result Opened Fault) {r : Result T Fault} → RunsOpened at p n m r1 m1 → Goes at (λ x w o. k x w o.0 o.1) (opened_of r1) m1 r m2
      → Walks at (λ x w. typed_slot (domain_of at) p (slice_get x.slots n) (λ t. bind (opens (domain_of at) p x.run.structs t.ty n) (λ b. k x w t.ty b))) m r m2
  opened_so p n k r1 x y =
      as_states (λ x w. typed_slot (domain_of at) p (slice_get x.slots n) (λ t. bind (opens (domain_of at) p x.run.structs t.ty n) (λ b. k x w t.ty b))) (λ x w. bind (opened at p n x w) (λ o. k x w o.0 o.1))
      (λ x w s. slot_parts p n (slice_get x.slots n) x.run.structs (k x w) s)
      (chain (opened at p n) (λ x w o. k x w o.0 o.1) (opened_of r1) x.runs y)

  pub declared_so : (d : TDeclared) {m m1 m2 : Machine} (r1 : Result Opened Fault) {r : Result (Unit {0}) Fault} → RunsOpened at d.spot d.slot m r1 m1 → Goes at (λ x w o. started (domain_of at) x w o.0 o.1 d.init) (opened_of r1) m1 r m2 → RunsDeclared at d m r m2
  declared_so d r1 x y = record { runs = opened_so d.spot d.slot (λ x w t b. started (domain_of at) x w t b d.init) r1 x y }

  pub filled_so : (p : Spot) (n : ℕ) (v : V) {m m1 m2 : Machine} (r1 : Result Opened Fault) {r : Result (Unit {0}) Fault} → RunsOpened at p n m r1 m1 → Goes at (λ x w o. bind (still (puts (domain_of at) p o.0 (AtCell o.1 0) v)) (λ _. pure tt)) (opened_of r1) m1 r m2 → RunsFilled at p n v m r m2
  filled_so p n v r1 x y = record { runs = opened_so p n (λ x w t b. bind (still (puts (domain_of at) p t (AtCell b 0) v)) (λ _. pure tt)) r1 x y }

  -- what follows the variable of a statement that is always enabled
  abbrev pub then_enabled : Spot → TStmt → Then at (CType × ℕ) F
  then_enabled p s x w o = bind (still (puts (domain_of at) p o.0 (AtCell o.1 0) (Hidden KBool (number_of w.enable)))) (λ _. part_of at s x (under (domain_of at) w true))

  pub always_is : (p : Spot) (k : ℕ) (s : TStmt) {m m1 m2 : Machine} (r1 : Result Opened Fault) {r : Result F Fault} → RunsOpened at p k m r1 m1 → Goes at (then_enabled p s) (opened_of r1) m1 r m2 → RunsAlways at p k s m r m2
  always_is p k s r1 x y = record { runs = opened_so p k (λ x w t b. then_enabled p s x w (t, b)) r1 x y }

  -- the walk of a part under another enable
  pub enabled_part : {e : Bool} {s : TStmt} {m m1 : Machine} {r : Result F Fault} → RunsPart (enabling at e) s m r m1 → Walks at (λ x w. part_of at s x (under (domain_of at) w e)) m r m1
  enabled_part x = record { does = λ ls rounds n t lt. x.runs.does ls rounds n t lt; kept = x.runs.kept; fewer = x.runs.fewer }

  pub enabled_other : {e : Bool} {s : Option TStmt} {m m1 : Machine} {r : Result F Fault} → RunsOther (enabling at e) s m r m1 → Walks at (λ x w. other_of at s x (under (domain_of at) w e)) m r m1
  enabled_other x = record { does = λ ls rounds n t lt. x.runs.does ls rounds n t lt; kept = x.runs.kept; fewer = x.runs.fewer }

  unit_first : {T U : Type 0} (q : Res ClearState T) (k : CAct U) → after q (λ _. k) ≡ after (after q (λ _. pure (tt {0}))) (λ _. k)
  unit_first (Go a s) k = refl
  unit_first (Stop h s) k = refl

  filled_all : (p : Spot) (s : TStmt) (t : CType) (b : ℕ) (v : V) {m m1 m2 : Machine} (r1 : Result (Unit {0}) Fault) {r : Result F Fault} → Acts (λ x. bind (still (puts bare p t (AtCell b 0) v)) (λ _. pure tt)) m r1 m1 → Goes at (λ x w _. part_of at s x (under (domain_of at) w true)) r1 m1 r m2 → Walks at (λ x w. bind (still (puts bare p t (AtCell b 0) v)) (λ _. part_of at s x (under (domain_of at) w true))) m r m2
  filled_all p s t b v r1 d y =
      as_states (λ x w. bind (still (puts bare p t (AtCell b 0) v)) (λ _. part_of at s x (under (domain_of at) w true))) (λ x w. bind (bind (still (puts bare p t (AtCell b 0) v)) (λ _. pure tt)) (λ _. part_of at s x (under (domain_of at) w true)))
      (λ x w u. unit_first (still (puts bare p t (AtCell b 0) v) u) (part_of at s x (under (domain_of at) w true)))
      (chain (λ x w. bind (still (puts bare p t (AtCell b 0) v)) (λ _. pure tt)) (λ x w _. part_of at s x (under (domain_of at) w true)) r1 (by_acts d) y)

  -- the variable is filled, then the body
  pub filled_then : (p : Spot) (s : TStmt) (t : CType) (b : ℕ) {v : V} {m m1 m2 : Machine} (r1 : Result (Unit {0}) Fault) {r : Result F Fault} → v ≡ Hidden KBool (number_of at.enabled) → Acts (λ x. bind (still (puts bare p t (AtCell b 0) v)) (λ _. pure tt)) m r1 m1 → Goes at (λ x w _. part_of at s x (under (domain_of at) w true)) r1 m1 r m2 → Walks at (λ x w. then_enabled p s x w (t, b)) m r m2
  filled_then p s t b {v} {m} {m1} {m2} r1 {r} h d y =
      let a = filled_all p s t b (Hidden KBool (number_of at.enabled)) r1 (subst (λ v. Acts (λ x. bind (still (puts bare p t (AtCell b 0) v)) (λ _. pure tt)) m r1 m1) h d) y in
      record { does = λ ls rounds n e lt. a.does ls rounds n e lt; kept = a.kept; fewer = a.fewer }

  -- both parts of an `obliv if`
  abbrev pub then_second : ℤ → Option TStmt → Then at F F
  then_second h n x w f = proceed (domain_of at) f (λ s. other_of at n x (under (domain_of at) w (at.enabled && is_zero h)) s)

  pub both_so : (h : ℤ) (s : TStmt) (n : Option TStmt) {u : Bool} {m m1 m2 : Machine} (r1 : Result F Fault) {r : Result F Fault} → u ≡ (at.enabled && not (is_zero h)) → RunsPart (enabling at u) s m r1 m1 → Goes at (then_second h n) r1 m1 r m2 → RunsBoth at h s n m r m2
  both_so h s n {u} {m} {m1} {m2} r1 {r} e x y = record {
    runs = record {
      does = λ ls rounds k t lt. (all (at.enabled && not (is_zero h)) (subst (λ u. RunsPart (enabling at u) s m r1 m1) e x)).does ls rounds k t lt;
      kept = (all u x).kept;
      fewer = (all u x).fewer;
    };
  }
    where
      all : (u : Bool) → RunsPart (enabling at u) s m r1 m1 → Walks at (λ x w. bind (part_of at s x (under (domain_of at) w u)) (then_second h n x w)) m r m2
      all u x = chain (λ x w. part_of at s x (under (domain_of at) w u)) (then_second h n) r1 (enabled_part x) y

  -- what follows a loop's body
  pub done_next : {a : Option TExpr} {m m1 m2 : Machine} (r1 : Result (Unit {0}) Fault) {r : Result (Option F) Fault} → RunsAdvance at a m r1 m1 → Goes at (λ x w _. pure None) r1 m1 r m2 → Walks at (λ x w. bind (advances (domain_of at) x w a) (λ _. pure None)) m r m2
  done_next {a} r1 x y = chain (λ x w. advances (domain_of at) x w a) (λ x w _. pure None) r1 x.runs y

  -- what follows the condition of a loop that holds
  pub turn_goes : (a : Option TExpr) (s : TStmt) (b : Bool) (m m1 : Machine) {m2 : Machine} (r1 : Result (Unit {0}) Fault) {r : Result (Option F) Fault} → b ≡ true → Moves step r1 m m1 → Goes at (λ x w _. bind (part_of at s x w) (part_done (domain_of at) (advances (domain_of at) x w a))) r1 m1 r m2 → Walks at (λ x w. then_turn at a s x w b) m r m2
  turn_goes a s b m m1 r1 h d y =
      as_states (λ x w. then_turn at a s x w b) (λ x w. bind step (λ _. bind (part_of at s x w) (part_done (domain_of at) (advances (domain_of at) x w a))))
      (λ x w t. ap (λ c. then_turn at a s x w c t) h)
      (chain (λ x w. step) (λ x w _. bind (part_of at s x w) (part_done (domain_of at) (advances (domain_of at) x w a))) r1 (by_move step d) y)

  pub turn_ends : (a : Option TExpr) (s : TStmt) (b : Bool) {m : Machine} {r : Result (Option F) Fault} → b ≡ false → r ≡ Ok (Some Next) → Walks at (λ x w. then_turn at a s x w b) m r m
  turn_ends a s b h q = as_states (λ x w. then_turn at a s x w b) (λ x w. pure (Some Next)) (λ x w t. ap (λ c. then_turn at a s x w c t) h) (at_once (Some Next) q)

  pub body_goes : (a : Option TExpr) (s : TStmt) {m m1 m2 : Machine} (r1 : Result F Fault) {r : Result (Option F) Fault} → RunsPart at s m r1 m1 → Goes at (λ x w f. part_done (domain_of at) (advances (domain_of at) x w a) f) r1 m1 r m2 → Walks at (λ x w. bind (part_of at s x w) (part_done (domain_of at) (advances (domain_of at) x w a))) m r m2
  body_goes a s r1 x y = chain (part_of at s) (λ x w f. part_done (domain_of at) (advances (domain_of at) x w a) f) r1 x.runs y
