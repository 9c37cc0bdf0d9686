-- The run of the function that a program starts with, and how a run ends.
use Rattle.std.proofs.Common.{ℕ, suc, ◌≡◌, ℤ, List, [], Some, None, Result, Ok, Err, refl, sym, ap, subst, true, arith}
use Rattle.std.specs.Prelude.{slice_get}
use Rattle.oc_source.specs.declared.spot.Spot.{Spot}
use Rattle.oc_cells.specs.declared.types.StructType.{StructType}
use Rattle.oc_cells.specs.declared.trap.TrapKind.TheVariants.{M5}
use Rattle.oc_cells.specs.Layout.{struct_leaves}
use Rattle.oc_typed.specs.declared.typed.TypedFunction.{TypedFunction}
use Rattle.oc_walk.specs.declared.run.ClearSetup.{ClearSetup}
use Rattle.oc_walk.specs.declared.run.ShownItem.{ShownItem}
use Rattle.oc_walk.specs.declared.run.Value.{Value}
use Rattle.oc_walk.specs.declared.run.Outcome.TheVariants.{Done, Trap, StepsSpent, DealtSpent}
use Rattle.oc_walk.specs.Walking.{Res, Go}
use Rattle.oc_walk.specs.Walk.{invokes, nowhere, start}
use Rattle.oc_meanings.specs.Clear.{clear_walk, IsEnd, Clear}
use Rattle.clear_actions.specs.Acting.{ClearState, Gives, state_of}
use Rattle.clear_actions.specs.declared.machine.Machine.{Machine}
use Rattle.clear_actions.specs.declared.machine.Fault.{Fault}
use Rattle.clear_actions.specs.declared.machine.Fault.TheVariants.{Halted}
use Rattle.clear_actions.specs.declared.machine.Halt.{Halt}
use Rattle.clear_actions.specs.declared.machine.Halt.TheVariants as halt
use Rattle.clear_walk.specs.Runs.{Around, domain, site_of, under_of, Ready, Walks, RunsFunction, IsStart, outcome_of}
use Rattle.clear_walk.proofs.Calls.{call_found, call_missing}

-- what surrounds the body of the function that a program starts with
abbrev pub first_around : ClearSetup → List TypedFunction → TypedFunction → Around
first_around s fs g = record { setup = s; functions = fs; slots = g.slots; enabled = true; room = 1000 }

module _ (structs : List StructType) (fs : List TypedFunction) (entry : ℕ) (s : ClearSetup) where
  starts_ready : (m : Machine) → IsStart structs s m → Ready (struct_leaves structs) (suc s.budget) m
  starts_ready m h = record { limit = h.1; structs_are = h.2; steps = let e = ap (λ t. t.steps) h.0 in omega (arith, e) }

  walk_is : (g : TypedFunction) (m m1 : Machine) (r : Result (Value ℤ) Fault) → Some g ≡ slice_get fs entry → IsStart structs s m → Walks (first_around s fs g) (λ x w. invokes (domain s) x w nowhere g []) m r m1 → Gives (clear_walk structs fs entry s) r (state_of m1)
  walk_is g m m1 r h i x =
      subst (λ q. Gives q r (state_of m1)) (sym (call_found s (struct_leaves structs) (suc s.budget) fs nowhere entry true [] (start (domain s) s.dealt [] s.budget []) g 1001 1000 h))
      (subst (λ t. Gives (invokes (domain s) (site_of (struct_leaves structs) (suc s.budget) (first_around s fs g)) (under_of (struct_leaves structs) (suc s.budget) 1001 (first_around s fs g)) nowhere g [] t) r (state_of m1)) i.0 (x.does (struct_leaves structs) (suc s.budget) 1001 (starts_ready m i) (omega arith)))

  done_so : (q : Res ClearState (Value ℤ)) (v : Value ℤ) (m1 : Machine) → q ≡ Go v (state_of m1) → IsEnd q m1.store.shown Done
  done_so q v m1 e = subst (λ z. IsEnd z m1.store.shown Done) (sym e) (refl, refl)

  halted_so : (q : Res ClearState (Value ℤ)) (h : Halt) (m1 : Machine) → Gives q (Err (Halted h)) (state_of m1) → IsEnd q m1.store.shown (outcome_of h)
  halted_so q (halt.Trap kind p) m1 e = subst (λ z. IsEnd z m1.store.shown (Trap kind p)) (sym e) (refl, refl)
  halted_so q halt.StepsSpent m1 e = subst (λ z. IsEnd z m1.store.shown StepsSpent) (sym e) (refl, refl)
  halted_so q halt.DealtSpent m1 e = subst (λ z. IsEnd z m1.store.shown DealtSpent) (sym e) (refl, refl)
  halted_so q (halt.Odd p) m1 e = subst (λ z. IsEnd z m1.store.shown (Trap M5 p)) (sym e) (refl, refl)

  function_at : (g : TypedFunction) (p : Spot) {m m1 : Machine} {r : Result (Value ℤ) Fault} → p ≡ nowhere → RunsFunction (first_around s fs g) p g [] m r m1 → Walks (first_around s fs g) (λ x w. invokes (domain s) x w nowhere g []) m r m1
  function_at g p {m} {m1} {r} h x = (subst (λ p. RunsFunction (first_around s fs g) p g [] m r m1) h x).runs refl

  pub entry_done : (g : TypedFunction) (p : Spot) (m m1 : Machine) {r : Result (Value ℤ) Fault} {v : Value ℤ} → Some g ≡ slice_get fs entry → IsStart structs s m → p ≡ nowhere → RunsFunction (first_around s fs g) p g [] m r m1 → r ≡ Ok v → Clear structs fs entry s m1.store.shown Done
  entry_done g p m m1 {r} {v} h i e x z =
      done_so (clear_walk structs fs entry s) v m1 (subst (λ r. Gives (clear_walk structs fs entry s) r (state_of m1)) z (walk_is g m m1 r h i (function_at g p e x)))

  pub entry_halted : (g : TypedFunction) (p : Spot) (m m1 : Machine) {r : Result (Value ℤ) Fault} (k : Halt) → Some g ≡ slice_get fs entry → IsStart structs s m → p ≡ nowhere → RunsFunction (first_around s fs g) p g [] m r m1 → r ≡ Err (Halted k) → Clear structs fs entry s m1.store.shown (outcome_of k)
  entry_halted g p m m1 {r} k h i e x z =
      halted_so (clear_walk structs fs entry s) k m1 (subst (λ r. Gives (clear_walk structs fs entry s) r (state_of m1)) z (walk_is g m m1 r h i (function_at g p e x)))

  pub entry_missing : (p : Spot) (shown : List ShownItem) → None ≡ slice_get fs entry → p ≡ nowhere → shown ≡ [] → Clear structs fs entry s shown (Trap M5 p)
  entry_missing p shown h e i =
      rw (e, i) (subst (λ q. IsEnd q [] (Trap M5 nowhere)) (sym (call_missing s (struct_leaves structs) (suc s.budget) fs nowhere entry true [] (start (domain s) s.dealt [] s.budget []) 1001 1000 h)) (refl, refl))
