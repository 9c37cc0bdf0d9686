-- How the parts of a call make its walk.
use Rattle.std.proofs.Common.{ℕ, zero, suc, ◌+◌, ◌-◌, ◌≡◌, ◌<◌, ◌≤◌, ℤ, List, [], length, Option, Some, None, Result, Ok, Err, refl, sym, ap, ◌∙◌, subst, Bool, arith, drop, get_or}
use Rattle.std.specs.Prelude.{reverse, slice_get}
use Rattle.std.proofs.lemmas.List.{drop_all}
use Rattle.oc_source.specs.declared.spot.Spot.{Spot}
use Rattle.oc_cells.specs.declared.types.CType.{CType}
use Rattle.oc_cells.specs.declared.types.SlotType.{SlotType}
use Rattle.oc_cells.specs.declared.trap.TrapKind.TheVariants.{M6}
use Rattle.oc_cells.specs.declared.memory.Address.TheVariants.{At as AtCell}
use Rattle.oc_typed.specs.declared.typed.TypedFunction.{TypedFunction}
use Rattle.oc_walk.specs.declared.run.ClearSetup.{ClearSetup}
use Rattle.oc_walk.specs.declared.run.Value.{Value}
use Rattle.oc_walk.specs.declared.run.Flow.{Flow}
use Rattle.oc_walk.specs.declared.run.Named.{Named}
use Rattle.oc_walk.specs.declared.run.Outcome.TheVariants.{Trap}
use Rattle.oc_walk.specs.Walking.{Site, Res, Go, Stop, Ended, Odd, after, bind, pure, still, finish}
use Rattle.oc_walk.specs.Cells.{opens, puts, typed_slot}
use Rattle.oc_walk.specs.Expressions.{Under}
use Rattle.oc_walk.specs.Statements.{listed}
use Rattle.oc_walk.specs.Walk.{calls, found, invokes, params, returned, value_back}
use Rattle.oc_meanings.specs.Clear.{no_skip}
use Rattle.clear_actions.specs.Acting.{ClearState, Gives, SameBlocks, bare, state_of}
use Rattle.clear_actions.specs.declared.machine.Machine.{Machine}
use Rattle.clear_actions.specs.declared.machine.Fault.{Fault}
use Rattle.clear_actions.specs.declared.machine.Fault.TheVariants.{Halted, NoMemory}
use Rattle.clear_actions.specs.declared.machine.Halt.TheVariants.{Trap as Trapped, Odd as Oddly}
use Rattle.clear_walk.specs.Runs.{Around, domain, domain_of, shared, site_of, under_of, Ready, Walks, RunsParams, RunsFilled, Filled, RunsFunction, RunsCall, filled}
use Rattle.clear_walk.proofs.Walked.{CAct, Then, Goes, chain, stops, ready_later, same_later}
use Rattle.clear_walk.proofs.Loops.{left_at}

module _ (s : ClearSetup) (ls : List (List CType)) (rounds : ℕ) (fs : List TypedFunction) (p : Spot) (f : ℕ) (e : Bool) (vs : List (Value ℤ)) (st : ClearState) where
  pub call_found : (g : TypedFunction) (k room : ℕ) → Some g ≡ slice_get fs f → calls (domain s) no_skip (shared s ls rounds) fs (suc k) p f e (suc room) vs st
      ≡ invokes (domain s) (record { run = shared s ls rounds; slots = g.slots; room = room }) (record { enable = e; call = calls (domain s) no_skip (shared s ls rounds) fs k; skip = no_skip k }) p g vs st
  call_found g k room h =
      ap (λ o. found (domain s) p o (λ g. invokes (domain s) (record { run = shared s ls rounds; slots = g.slots; room = room }) (record { enable = e; call = calls (domain s) no_skip (shared s ls rounds) fs k; skip = no_skip k }) p g vs) st) (sym h)

  pub call_missing : (k room : ℕ) → None ≡ slice_get fs f → calls (domain s) no_skip (shared s ls rounds) fs (suc k) p f e (suc room) vs st ≡ Stop (Odd p) st
  call_missing k room h =
      ap (λ o. found (domain s) p o (λ g. invokes (domain s) (record { run = shared s ls rounds; slots = g.slots; room = room }) (record { enable = e; call = calls (domain s) no_skip (shared s ls rounds) fs k; skip = no_skip k }) p g vs) st) (sym h)

  call_full : (n : ℕ) → calls (domain s) no_skip (shared s ls rounds) fs n p f e 0 vs st ≡ Stop (Ended (Trap M6 p)) st
  call_full zero = refl
  call_full (suc n) = refl

-- the slots and the room of a function that is called
abbrev pub inside : Around → TypedFunction → Around
inside at g = record at { slots = g.slots; room = at.room - 1 }

module _ (at : Around) (p : Spot) (f : ℕ) (vs : List (Value ℤ)) where
  pub call_goes : {g : TypedFunction} {m m1 : Machine} {r : Result (Value ℤ) Fault} → (at.room ≡ 0 → ⊥) → Some g ≡ slice_get at.functions f → RunsFunction (inside at g) p g vs m r m1 → RunsCall at p f vs m r m1
  call_goes {g} {m} {m1} {r} full h x = record {
    runs = record {
      does = λ ls rounds n t lt.
          let e1 : n ≡ suc (n - 1) = omega (arith, lt) in
          let e2 : at.room ≡ suc (at.room - 1) = omega (arith, full) in
          subst (λ q. Gives q r (state_of m1))
          (sym (ap (λ k. calls (domain_of at) no_skip (shared at.setup ls rounds) at.functions k p f at.enabled at.room vs (state_of m)) e1
          ∙ ap (λ k. calls (domain_of at) no_skip (shared at.setup ls rounds) at.functions (suc (n - 1)) p f at.enabled k vs (state_of m)) e2
          ∙ call_found at.setup ls rounds at.functions p f at.enabled vs (state_of m) g (n - 1) (at.room - 1) h))
          ((x.runs refl).does ls rounds (n - 1) t (omega (arith, lt, full)));
      kept = (x.runs refl).kept;
      fewer = (x.runs refl).fewer;
    };
  }

  pub call_odd : {m : Machine} → (at.room ≡ 0 → ⊥) → None ≡ slice_get at.functions f → RunsCall at p f vs m (Err (Halted (Oddly p))) m
  call_odd {m} full h = record {
    runs = record {
      does = λ ls rounds n t lt.
          let e1 : n ≡ suc (n - 1) = omega (arith, lt) in
          let e2 : at.room ≡ suc (at.room - 1) = omega (arith, full) in
          ap (λ k. calls (domain_of at) no_skip (shared at.setup ls rounds) at.functions k p f at.enabled at.room vs (state_of m)) e1
          ∙ ap (λ k. calls (domain_of at) no_skip (shared at.setup ls rounds) at.functions (suc (n - 1)) p f at.enabled k vs (state_of m)) e2
          ∙ call_missing at.setup ls rounds at.functions p f at.enabled vs (state_of m) (n - 1) (at.room - 1) h;
      kept = (refl, refl);
      fewer = omega arith;
    };
  }

  pub call_stops : {m : Machine} → at.room ≡ 0 → RunsCall at p f vs m (Err (Halted (Trapped M6 p))) m
  call_stops {m} h = record {
    runs = record {
      does = λ ls rounds n t lt.
          ap (λ k. calls (domain_of at) no_skip (shared at.setup ls rounds) at.functions n p f at.enabled k vs (state_of m)) h
          ∙ call_full at.setup ls rounds at.functions p f at.enabled vs (state_of m) n;
      kept = (refl, refl);
      fewer = omega arith;
    };
  }

module _ (at : Around) (p : Spot) (f : TypedFunction) (vs : List (Value ℤ)) where
  -- what a call's body is: its parameters' variables, then its statements
  abbrev pub body : Site → Under (domain_of at) → CAct (Flow ℤ)
  body x w = bind (params (domain_of at) p x.run.structs f.slots 0 vs) (λ _. listed (domain_of at) x w f.body)

  -- how a call ends after its body
  abbrev pub Returns : Machine → Result (Flow ℤ) Fault → Machine → Result (Value ℤ) Fault → Machine → Type 0
  Returns m (Ok v) m3 r m4 = (r ≡ Ok (value_back bare f.result v)) × (state_of m4 ≡ finish (reverse m.entered) (state_of m3)) × SameBlocks m3.store m4.store
  Returns m (Err e) m3 r m4 = (r ≡ Err e) × (m4 ≡ m3)

  stopped : (outer : List Named) (q : Res ClearState (Flow ℤ)) (e : Fault) (s : ClearState) → Gives q (Err e) s → Gives (returned (domain_of at) f.result outer q) (Err e) s
  stopped outer q (Halted h) s d = ap (λ z. returned (domain_of at) f.result outer z) d
  stopped outer q NoMemory s d = tt

  entering : {ls : List (List CType)} {rounds : ℕ} {m : Machine} → Ready ls rounds m → Ready ls rounds (record m { entered = [] })
  entering t = record { limit = t.limit; structs_are = t.structs_are; steps = t.steps }

  pub function_so : {m m3 m4 : Machine} (q : Result (Flow ℤ) Fault) {r : Result (Value ℤ) Fault} → Walks at body (record m { entered = [] }) q m3 → Returns m q m3 r m4 → Walks at (λ x w. invokes (domain_of at) x w p f vs) m r m4
  function_so {m} {m3} {m4} (Ok v) {r} x y = subst (λ z. Walks at (λ x w. invokes (domain_of at) x w p f vs) m z m4) (sym y.0) (record {
    does = λ ls rounds n t lt.
        ap (λ z. returned (domain_of at) f.result (reverse m.entered) z) (x.does ls rounds n (entering t) lt)
        ∙ ap (λ s. Go (value_back bare f.result v) s) (sym y.1);
    kept = same_later m.store m3.store m4.store x.kept y.2;
    fewer = let e = ap (λ s. s.steps) y.1 in let b = x.fewer in omega (arith, e, b);
  })
  function_so {m} {m3} {m4} (Err e) {r} x y = subst (λ z. Walks at (λ x w. invokes (domain_of at) x w p f vs) m z m4) (sym y.0) (subst (λ j. Walks at (λ x w. invokes (domain_of at) x w p f vs) m (Err e) j) (sym y.1) (record {
    does = λ ls rounds n t lt. stopped (reverse m.entered) (body (site_of ls rounds at) (under_of ls rounds n at) (state_of (record m { entered = [] }))) e (state_of m3) (x.does ls rounds n (entering t) lt);
    kept = x.kept;
    fewer = x.fewer;
  }))

  -- the parameters' variables, then what follows them
  pub body_so : {m m2 m3 : Machine} (r1 : Result (Unit {0}) Fault) {q : Result (Flow ℤ) Fault} → at.slots ≡ f.slots → RunsParams at p vs m r1 m2 → Goes at (λ x w _. listed (domain_of at) x w f.body) r1 m2 q m3 → Walks at body m q m3
  body_so {m} {m2} r1 h x y =
      chain (λ x w. params (domain_of at) p x.run.structs f.slots 0 vs) (λ x w _. listed (domain_of at) x w f.body) r1
      (record { does = λ ls rounds n t lt. subst (λ l. Gives (params (domain_of at) p ls l 0 vs (state_of m)) r1 (state_of m2)) h (x.runs.does ls rounds n t lt); kept = x.runs.kept; fewer = x.runs.fewer }) y

module _ (at : Around) (p : Spot) where
  -- what follows the variable of one parameter
  abbrev after_first : List (Value ℤ) → ℕ → Then at (Unit {0}) (Unit {0})
  after_first vs k x w u = params (domain_of at) p x.run.structs x.slots (suc k) vs

  first_slot : (o : Option SlotType) (ls : List (List CType)) (slots : List SlotType) (k : ℕ) (v : Value ℤ) (vs : List (Value ℤ)) (s : ClearState)
      → typed_slot (domain_of at) p o (λ t. bind (opens (domain_of at) p ls t.ty k) (λ b. bind (still (puts (domain_of at) p t.ty (AtCell b 0) v)) (λ _. params (domain_of at) p ls slots (suc k) vs))) s
      ≡ bind (typed_slot (domain_of at) p o (λ t. bind (opens (domain_of at) p ls t.ty k) (λ b. bind (still (puts (domain_of at) p t.ty (AtCell b 0) v)) (λ _. pure (tt {0}))))) (λ _. params (domain_of at) p ls slots (suc k) vs) s
  first_slot None ls slots k v vs s = refl
  first_slot (Some t) ls slots k v vs s = opened (opens (domain_of at) p ls t.ty k s)
    where
      put : (q : Res ClearState (Value ℤ)) → after q (λ _. params (domain_of at) p ls slots (suc k) vs) ≡ after (after q (λ _. pure (tt {0}))) (λ _. params (domain_of at) p ls slots (suc k) vs)
      put (Go y u) = refl
      put (Stop h u) = refl

      opened : (q : Res ClearState ℕ) → after q (λ b. bind (still (puts (domain_of at) p t.ty (AtCell b 0) v)) (λ _. params (domain_of at) p ls slots (suc k) vs)) ≡ after (after q (λ b. bind (still (puts (domain_of at) p t.ty (AtCell b 0) v)) (λ _. pure (tt {0})))) (λ _. params (domain_of at) p ls slots (suc k) vs)
      opened (Go b u) = put (still (puts (domain_of at) p t.ty (AtCell b 0) v) u)
      opened (Stop h u) = refl

  -- the variables of the parameters from this one on
  next_filled : (vs : List (Value ℤ)) (v : Value ℤ) (k : ℕ) → k < length vs → v ≡ get_or vs k v → (x : Site) (w : Under (domain_of at)) (s : ClearState)
      → params (domain_of at) p x.run.structs x.slots k (drop k vs) s ≡ bind (filled at p k v x w) (after_first (drop (k + 1) vs) k x w) s
  next_filled vs v k lt is x w s = ap (λ l. params (domain_of at) p x.run.structs x.slots k l s) (left_at vs v k lt is) ∙ first_slot (slice_get x.slots k) x.run.structs x.slots k v (drop (k + 1) vs) s

  pub params_stop : {vs : List (Value ℤ)} {v : Value ℤ} {k : ℕ} {m m1 m2 : Machine} {e : Fault} {r : Result (Unit {0}) Fault} → Filled at p vs m k (drop k vs) m1 → k < length vs → v ≡ get_or vs k v → RunsFilled at p k v m1 (Err e) m2 → r ≡ Err e → RunsParams at p vs m r m2
  params_stop {vs} {v} {k} {m} {m1} {m2} {e} {r} x lt is y z = record {
    runs = record {
      does = λ ls rounds n t d.
          subst (λ q. Gives (params (domain_of at) p ls at.slots 0 vs (state_of m)) q (state_of m2)) (sym z)
          (subst (λ q. Gives q (Err e) (state_of m2)) (sym (x.does ls rounds n t d ∙ next_filled vs v k lt is (site_of ls rounds at) (under_of ls rounds n at) (state_of m1)))
          (stops (filled at p k v (site_of ls rounds at) (under_of ls rounds n at) (state_of m1)) (after_first (drop (k + 1) vs) k (site_of ls rounds at) (under_of ls rounds n at)) e (state_of m2) (y.runs.does ls rounds n (ready_later t x.kept x.fewer) d)));
      kept = same_later m.store m1.store m2.store x.kept y.runs.kept;
      fewer = let a = x.fewer in let b = y.runs.fewer in omega (arith, a, b);
    };
  }

  pub params_next : {vs : List (Value ℤ)} {v : Value ℤ} {k : ℕ} {m m1 m2 : Machine} → Filled at p vs m k (drop k vs) m1 → k < length vs → v ≡ get_or vs k v → RunsFilled at p k v m1 (Ok tt) m2 → Filled at p vs m (k + 1) (drop (k + 1) vs) m2
  params_next {vs} {v} {k} {m} {m1} {m2} x lt is y = record {
    does = λ ls rounds n t d.
        x.does ls rounds n t d ∙ next_filled vs v k lt is (site_of ls rounds at) (under_of ls rounds n at) (state_of m1)
        ∙ ap (λ q. after q (after_first (drop (k + 1) vs) k (site_of ls rounds at) (under_of ls rounds n at))) (y.runs.does ls rounds n (ready_later t x.kept x.fewer) d)
        ∙ ap (λ j. params (domain_of at) p ls at.slots j (drop (k + 1) vs) (state_of m2)) (let e : suc k ≡ k + 1 = omega arith in e);
    kept = same_later m.store m1.store m2.store x.kept y.runs.kept;
    fewer = let a = x.fewer in let b = y.runs.fewer in omega (arith, a, b);
  }

  pub params_start : (vs : List (Value ℤ)) (m : Machine) → Filled at p vs m 0 vs m
  params_start vs m = record { does = λ ls rounds n t d. refl; kept = (refl, refl); fewer = omega arith }

  pub params_over : {vs : List (Value ℤ)} {k : ℕ} {m m1 : Machine} → Filled at p vs m k (drop k vs) m1 → length vs ≤ k → RunsParams at p vs m (Ok tt) m1
  params_over {vs} {k} {m} {m1} x le = record {
    runs = record {
      does = λ ls rounds n t d. x.does ls rounds n t d ∙ ap (λ l. params (domain_of at) p ls at.slots k l (state_of m1)) (drop_all k vs le);
      kept = x.kept;
      fewer = x.fewer;
    };
  }
