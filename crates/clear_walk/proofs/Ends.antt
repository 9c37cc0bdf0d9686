-- Ends of the functions of a walk.
use Rattle.std.proofs.Common.{◌≡◌, ℤ, List, Option, Result, Ok, Err, refl, sym, subst, Bool, ◌&&◌, arith}
use Rattle.oc_values.specs.Integers.{is_zero}
use Rattle.oc_values.specs.declared.integers.BinaryOp.{BinaryOp}
use Rattle.oc_source.specs.declared.spot.Spot.{Spot}
use Rattle.oc_cells.specs.declared.memory.Address.{Address}
use Rattle.oc_typed.specs.declared.typed.TExpr.{TExpr}
use Rattle.oc_typed.specs.declared.typed.TExprNode.{PointerStep, Update}
use Rattle.oc_typed.specs.declared.typed.TPlace.{TPlace}
use Rattle.oc_typed.specs.declared.typed.TStmt.{TStmt}
use Rattle.oc_typed.specs.declared.typed.TypedFunction.{TypedFunction}
use Rattle.oc_walk.specs.declared.run.Value.{Value}
use Rattle.oc_walk.specs.declared.run.Flow.{Flow}
use Rattle.oc_walk.specs.declared.run.Flow.TheVariants.{Next}
use Rattle.oc_walk.specs.Walking.{Site, Act, bind, pure, still}
use Rattle.oc_walk.specs.Cells.{Only}
use Rattle.oc_walk.specs.Statements.{part_done, advances}
use Rattle.clear_actions.specs.Acting.{ClearMem, Gives, mem_of}
use Rattle.clear_actions.specs.declared.machine.Machine.{Machine}
use Rattle.clear_actions.specs.declared.machine.Fault.{Fault}
use Rattle.clear_actions.specs.declared.machine.Fault.TheVariants.{NoMemory}
use Rattle.clear_walk.specs.declared.around.Frame.{Frame}
use Rattle.clear_walk.specs.declared.around.At.{At}
use Rattle.clear_walk.specs.Places.{below, enabled_by}
use Rattle.clear_walk.specs.Runs.{Around, around, domain_of, Walks, Acts, RunsNode, RunsExpr, RunsExprs, Valued, RunsPart, RunsOther, RunsRound, RunsLoop, Turned, RunsDone, RunsFunction, goal_of, part_of}
use Rattle.clear_walk.proofs.Walked.{CAct, chain, at_once, by_look, by_acts, same_later}
use Rattle.clear_walk.proofs.Turns.{enabling, enabled_other, then_second}
use Rattle.clear_walk.proofs.Bodies.{loop_stops}
use Rattle.clear_walk.proofs.Calls.{inside}

abbrev V : Type 0
V = Value ℤ

module _ (at : Around) where
  pub step_marked : (e l r : TExpr) (back b : Bool) {c : Bool} {m m1 : Machine} {res : Result V Fault} → b ≡ c → RunsNode at e (PointerStep l r back c) m res m1 → RunsNode at e (PointerStep l r back b) m res m1
  step_marked e l r back b {c} {m} {m1} {res} h x = subst (λ b. RunsNode at e (PointerStep l r back b) m res m1) (sym h) x

  pub update_marked : (e : TExpr) (op : BinaryOp) (q : TPlace) (a : TExpr) (b : Bool) {c : Bool} {m m1 : Machine} {res : Result V Fault} → b ≡ c → RunsNode at e (Update op q a c) m res m1 → RunsNode at e (Update op q a b) m res m1
  update_marked e op q a b {c} {m} {m1} {res} h x = subst (λ b. RunsNode at e (Update op q a b) m res m1) (sym h) x

  pub only_acts : (act : Site → CAct Address) {m m1 : Machine} (r : Result Address Fault) → Acts act m r m1 → Walks at (λ x w. bind (act x) (λ a. pure (Only a))) m (goal_of r) m1
  only_acts act (Ok a) d = chain (λ x w. act x) (λ x w a. pure (Only a)) (Ok a) (by_acts d) (at_once (Only a) refl)
  only_acts act (Err e) d = chain (λ x w. act x) (λ x w a. pure (Only a)) (Err e) (by_acts d) (refl, refl)

  pub only_look : (act : Act ClearMem Address) (m : Machine) (r : Result Address Fault) → Gives (act (mem_of m.store)) r (mem_of m.store) → Walks at (λ x w. bind (still act) (λ a. pure (Only a))) m (goal_of r) m
  only_look act m (Ok a) d = chain (λ x w. still act) (λ x w a. pure (Only a)) (Ok a) (by_look act d) (at_once (Only a) refl)
  only_look act m (Err e) d = chain (λ x w. still act) (λ x w a. pure (Only a)) (Err e) (by_look act d) (refl, refl)

  pub no_memory_exprs : {es left : List TExpr} {e : TExpr} {m m1 m2 : Machine} {vs : List V} {v : V} {r : Result (List V) Fault} → Valued at es m vs left m1 → RunsExpr at e m1 (Ok v) m2 → r ≡ Err NoMemory → RunsExprs at es m r m2
  no_memory_exprs {es} {left} {e} {m} {m1} {m2} {vs} {v} {r} x y z = subst (λ q. RunsExprs at es m q m2) (sym z) (record {
    runs = record {
      does = λ ls rounds n t d. tt;
      kept = same_later m.store m1.store m2.store x.kept y.runs.kept;
      fewer = let p = x.fewer in let q = y.runs.fewer in omega (arith, p, q);
    };
  })

  pub part_so : {s : TStmt} {m m1 : Machine} {r : Result (Flow ℤ) Fault} → Walks at (part_of at s) m r m1 → RunsPart at s m r m1
  part_so x = record { runs = x }

  pub second_part : (h : ℤ) (n : Option TStmt) {u : Bool} {m m1 : Machine} {r : Result (Flow ℤ) Fault} → u ≡ (at.enabled && is_zero h) → RunsOther (enabling at u) n m r m1 → Walks at (λ x w. then_second at h n x w Next) m r m1
  second_part h n {u} {m} {m1} {r} e x =
      let y = enabled_other at (subst (λ u. RunsOther (enabling at u) n m r m1) e x) in
      record { does = λ ls rounds k t lt. y.does ls rounds k t lt; kept = y.kept; fewer = y.fewer }

  pub turned_start : (c a : Option TExpr) (s : TStmt) (m : Machine) → Turned at c a s m m
  turned_start c a s m = record { does = λ ls rounds n t d. (rounds, t.steps, refl); kept = (refl, refl); fewer = omega arith }

  pub loop_stopped : {c a : Option TExpr} {s : TStmt} {m m1 m2 : Machine} {f : Fault} {r : Result (Flow ℤ) Fault} → Turned at c a s m m1 → RunsRound at c a s m1 (Err f) m2 → r ≡ Err f → RunsLoop at c a s m r m2
  loop_stopped {c} {a} {s} {m} {m1} {m2} {f} {r} t x h = subst (λ q. RunsLoop at c a s m q m2) (sym h) (loop_stops at t x)

  pub done_at : {a : Option TExpr} (f : Flow ℤ) {g : Flow ℤ} {m m1 : Machine} {r : Result (Option (Flow ℤ)) Fault} → f ≡ g → Walks at (λ x w. part_done (domain_of at) (advances (domain_of at) x w a) g) m r m1 → RunsDone at a f m r m1
  done_at {a} f {g} {m} {m1} {r} h x = subst (λ f. RunsDone at a f m r m1) (sym h) (record { runs = x })

pub enabling_part : (f : Frame) (p d : At) (u : Bool) {s : TStmt} {m m1 : Machine} {r : Result (Flow ℤ) Fault} → d ≡ enabled_by p u → RunsPart (around f d) s m r m1 → RunsPart (enabling (around f p) u) s m r m1
enabling_part f p d u {s} {m} {m1} {r} h x = subst (λ k. RunsPart (around f k) s m r m1) h x

pub enabling_other : (f : Frame) (p d : At) (u : Bool) {s : Option TStmt} {m m1 : Machine} {r : Result (Flow ℤ) Fault} → d ≡ enabled_by p u → RunsOther (around f d) s m r m1 → RunsOther (enabling (around f p) u) s m r m1
enabling_other f p d u {s} {m} {m1} {r} h x = subst (λ k. RunsOther (around f k) s m r m1) h x

-- what surrounds the body of a function that is called
inside_is : (f : Frame) (p : At) (g : TypedFunction) (k : Frame) (d : At) → k.setup.now ≡ f.setup.now → k.functions.now ≡ f.functions.now → k.slots.now ≡ g.slots → d ≡ below p → around k d ≡ inside (around f p) g
inside_is f p g k d a b c e = rw (a, b, c, e) refl

pub function_inside : (f : Frame) (p : At) (q : Spot) (g : TypedFunction) (vs : List V) (k : Frame) (d : At) {m m1 : Machine} {r : Result V Fault} → k.setup.now ≡ f.setup.now → k.functions.now ≡ f.functions.now → k.slots.now ≡ g.slots → d ≡ below p → RunsFunction (around k d) q g vs m r m1 → RunsFunction (inside (around f p) g) q g vs m r m1
function_inside f p q g vs k d {m} {m1} {r} a b c e x = subst (λ z. RunsFunction z q g vs m r m1) (inside_is f p g k d a b c e) x
