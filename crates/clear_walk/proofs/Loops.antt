-- How the code's loops over lists make a walk.
use Rattle.std.proofs.Common.{ℕ, suc, ◌+◌, ◌≡◌, ◌<◌, ◌≤◌, ℤ, List, [], ◌∷◌, ◌++◌, length, Result, Ok, Err, refl, sym, ap, ◌∙◌, subst, arith, drop, get_or, drop-cons, add-one, append_assoc, append-nil}
use Rattle.std.proofs.lemmas.List.{drop_all}
use Rattle.oc_typed.specs.declared.typed.TExpr.{TExpr}
use Rattle.oc_typed.specs.declared.typed.TDeclared.{TDeclared}
use Rattle.oc_typed.specs.declared.typed.TStmt.{TStmt}
use Rattle.oc_walk.specs.declared.run.Value.{Value}
use Rattle.oc_walk.specs.declared.run.Flow.{Flow}
use Rattle.oc_walk.specs.declared.run.Flow.TheVariants.{Next}
use Rattle.oc_walk.specs.Walking.{Site, Res, Go, Stop, after, bind, pure}
use Rattle.oc_walk.specs.Expressions.{Under, whole}
use Rattle.oc_walk.specs.Statements.{stepped, listed, proceed, declares, declares_all}
use Rattle.clear_actions.specs.Acting.{ClearState, Gives, state_of}
use Rattle.clear_actions.specs.declared.machine.Machine.{Machine}
use Rattle.clear_actions.specs.declared.machine.Fault.{Fault}
use Rattle.clear_walk.specs.Runs.{Around, domain_of, site_of, under_of, Walks, RunsExpr, RunsExprs, Valued, RunsDeclared, RunsDeclares, Declared, RunsStmt, RunsList, Passed, wholes}
use Rattle.clear_walk.proofs.Walked.{CAct, Then, Goes, chain, as_walk, stops, ready_later, same_later}

-- of a list the next item, and those after it
pub left_at : {A : Type 0} (es : List A) (e : A) (i : ℕ) → i < length es → e ≡ get_or es i e → drop i es ≡ e ∷ drop (i + 1) es
left_at es e i lt is = drop-cons es i e lt ∙ ap (λ x. x ∷ drop (suc i) es) (sym is) ∙ ap (λ j. e ∷ drop j es) (sym (add-one i))

module _ (at : Around) where
  abbrev after_values : List (Value ℤ) → List (Value ℤ) → CAct (List (Value ℤ))
  after_values vs more = pure (vs ++ more)

  pub exprs_stop : {es : List TExpr} {e : TExpr} {i : ℕ} {m m1 m2 : Machine} {vs : List (Value ℤ)} {f : Fault} {r : Result (List (Value ℤ)) Fault} → Valued at es m vs (drop i es) m1 → i < length es → e ≡ get_or es i e → RunsExpr at e m1 (Err f) m2 → r ≡ Err f → RunsExprs at es m r m2
  exprs_stop {es} {e} {i} {m} {m1} {m2} {vs} {f} {r} x lt is y z = record {
    runs = record {
      does = λ ls rounds n t d.
          let s = site_of ls rounds at in
          let w : Under (domain_of at) = under_of ls rounds n at in
          subst (λ q. Gives q r (state_of m2)) (sym (x.does ls rounds n t d ∙ ap (λ l. bind (wholes at s w l) (after_values vs) (state_of m1)) (left_at es e i lt is)))
          (subst (λ q. Gives (bind (wholes at s w (e ∷ drop (i + 1) es)) (after_values vs) (state_of m1)) q (state_of m2)) (sym z)
          (stops (wholes at s w (e ∷ drop (i + 1) es) (state_of m1)) (after_values vs) f (state_of m2)
          (stops (whole (domain_of at) s w e (state_of m1)) (λ v. bind (wholes at s w (drop (i + 1) es)) (λ more. pure (v ∷ more))) f (state_of m2) (y.runs.does ls rounds n (ready_later t x.kept x.fewer) d))));
      kept = same_later m.store m1.store m2.store x.kept y.runs.kept;
      fewer = let p = x.fewer in let q = y.runs.fewer in omega (arith, p, q);
    };
  }

  -- the values so far, and those that come
  more_values : (vs : List (Value ℤ)) (v : Value ℤ) (q : Res ClearState (List (Value ℤ))) → after (after q (λ more. pure (v ∷ more))) (after_values vs) ≡ after q (after_values (vs ++ v ∷ []))
  more_values vs v (Go more s) = ap (λ l. Go l s) (sym (append_assoc vs (v ∷ []) more))
  more_values vs v (Stop h s) = refl

  pub exprs_next : {es : List TExpr} {e : TExpr} {i : ℕ} {m m1 m2 : Machine} {vs ws : List (Value ℤ)} {v : Value ℤ} → Valued at es m vs (drop i es) m1 → i < length es → e ≡ get_or es i e → RunsExpr at e m1 (Ok v) m2 → ws ≡ vs ++ v ∷ [] → Valued at es m ws (drop (i + 1) es) m2
  exprs_next {es} {e} {i} {m} {m1} {m2} {vs} {ws} {v} x lt is y z = record {
    does = λ ls rounds n t d.
        let s = site_of ls rounds at in
        let w : Under (domain_of at) = under_of ls rounds n at in
        x.does ls rounds n t d ∙ ap (λ l. bind (wholes at s w l) (after_values vs) (state_of m1)) (left_at es e i lt is)
        ∙ ap (λ q. after (after q (λ v. bind (wholes at s w (drop (i + 1) es)) (λ more. pure (v ∷ more)))) (after_values vs)) (y.runs.does ls rounds n (ready_later t x.kept x.fewer) d)
        ∙ more_values vs v (wholes at s w (drop (i + 1) es) (state_of m2))
        ∙ ap (λ l. bind (wholes at s w (drop (i + 1) es)) (after_values l) (state_of m2)) (sym z);
    kept = same_later m.store m1.store m2.store x.kept y.runs.kept;
    fewer = let p = x.fewer in let q = y.runs.fewer in omega (arith, p, q);
  }

  pub exprs_start : (es : List TExpr) (m : Machine) → Valued at es m [] es m
  exprs_start es m = record { does = λ ls rounds n t d. sym (none_yet (wholes at (site_of ls rounds at) (under_of ls rounds n at) es (state_of m))); kept = (refl, refl); fewer = omega arith }
    where
      none_yet : (q : Res ClearState (List (Value ℤ))) → after q (after_values []) ≡ q
      none_yet (Go vs s) = refl
      none_yet (Stop h s) = refl

  pub exprs_over : {es : List TExpr} {i : ℕ} {m m1 : Machine} {vs : List (Value ℤ)} → Valued at es m vs (drop i es) m1 → length es ≤ i → RunsExprs at es m (Ok vs) m1
  exprs_over {es} {i} {m} {m1} {vs} x le = record {
    runs = record {
      does = λ ls rounds n t d.
          let s = site_of ls rounds at in
          let w : Under (domain_of at) = under_of ls rounds n at in
          x.does ls rounds n t d ∙ ap (λ l. bind (wholes at s w l) (after_values vs) (state_of m1)) (drop_all i es le) ∙ ap (λ l. Go l (state_of m1)) (append-nil vs);
      kept = x.kept;
      fewer = x.fewer;
    };
  }

  abbrev after_one : List TDeclared → ℕ → Then at (Unit {0}) (Unit {0})
  after_one ds i x w u = declares_all (domain_of at) x w (drop (i + 1) ds)

  next_declared : (ds : List TDeclared) (d : TDeclared) (i : ℕ) → i < length ds → d ≡ get_or ds i d → (x : Site) (w : Under (domain_of at)) → declares_all (domain_of at) x w (drop i ds) ≡ bind (declares (domain_of at) x w d) (after_one ds i x w)
  next_declared ds d i lt is x w = ap (λ l. declares_all (domain_of at) x w l) (left_at ds d i lt is)

  declared_on : {ds left : List TDeclared} {m m1 m2 : Machine} {r : Result (Unit {0}) Fault} → Declared at ds m left m1 → Walks at (λ x w. declares_all (domain_of at) x w left) m1 r m2 → RunsDeclares at ds m r m2
  declared_on {ds} {left} {m} {m1} {m2} {r} x y = record {
    runs = record {
      does = λ ls rounds n t d. subst (λ q. Gives q r (state_of m2)) (sym (x.does ls rounds n t d)) (y.does ls rounds n (ready_later t x.kept x.fewer) d);
      kept = same_later m.store m1.store m2.store x.kept y.kept;
      fewer = let p = x.fewer in let q = y.fewer in omega (arith, p, q);
    };
  }

  pub declares_stop : {ds : List TDeclared} {d : TDeclared} {i : ℕ} {m m1 m2 : Machine} {f : Fault} {r : Result (Unit {0}) Fault} → Declared at ds m (drop i ds) m1 → i < length ds → d ≡ get_or ds i d → RunsDeclared at d m1 (Err f) m2 → r ≡ Err f → RunsDeclares at ds m r m2
  declares_stop {ds} {d} {i} {f = f} x lt is y z =
      declared_on x (as_walk (λ x w. declares_all (domain_of at) x w (drop i ds)) (λ x w. bind (declares (domain_of at) x w d) (after_one ds i x w)) (next_declared ds d i lt is) (chain (λ x w. declares (domain_of at) x w d) (after_one ds i) (Err f) y.runs (z, refl)))

  pub declares_next : {ds : List TDeclared} {d : TDeclared} {i : ℕ} {m m1 m2 : Machine} → Declared at ds m (drop i ds) m1 → i < length ds → d ≡ get_or ds i d → RunsDeclared at d m1 (Ok tt) m2 → Declared at ds m (drop (i + 1) ds) m2
  declares_next {ds} {d} {i} {m} {m1} {m2} x lt is y = record {
    does = λ ls rounds n t e.
        let s = site_of ls rounds at in
        let w : Under (domain_of at) = under_of ls rounds n at in
        x.does ls rounds n t e ∙ ap (λ a. a (state_of m1)) (next_declared ds d i lt is s w) ∙ ap (λ q. after q (after_one ds i s w)) (y.runs.does ls rounds n (ready_later t x.kept x.fewer) e);
    kept = same_later m.store m1.store m2.store x.kept y.runs.kept;
    fewer = let p = x.fewer in let q = y.runs.fewer in omega (arith, p, q);
  }

  pub declares_start : (ds : List TDeclared) (m : Machine) → Declared at ds m ds m
  declares_start ds m = record { does = λ ls rounds n t e. refl; kept = (refl, refl); fewer = omega arith }

  pub declares_over : {ds : List TDeclared} {i : ℕ} {m m1 : Machine} → Declared at ds m (drop i ds) m1 → length ds ≤ i → RunsDeclares at ds m (Ok tt) m1
  declares_over {ds} {i} {m} {m1} x le = record {
    runs = record {
      does = λ ls rounds n t e. x.does ls rounds n t e ∙ ap (λ l. declares_all (domain_of at) (site_of ls rounds at) (under_of ls rounds n at) l (state_of m1)) (drop_all i ds le);
      kept = x.kept;
      fewer = x.fewer;
    };
  }

  abbrev after_stmt : List TStmt → ℕ → Then at (Flow ℤ) (Flow ℤ)
  after_stmt ss i x w f = proceed (domain_of at) f (listed (domain_of at) x w (drop (i + 1) ss))

  next_stmt : (ss : List TStmt) (s : TStmt) (i : ℕ) → i < length ss → s ≡ get_or ss i s → (x : Site) (w : Under (domain_of at)) → listed (domain_of at) x w (drop i ss) ≡ bind (stepped (domain_of at) x w s) (after_stmt ss i x w)
  next_stmt ss s i lt is x w = ap (λ l. listed (domain_of at) x w l) (left_at ss s i lt is)

  passed_on : {ss left : List TStmt} {m m1 m2 : Machine} {r : Result (Flow ℤ) Fault} → Passed at ss m left m1 → Walks at (λ x w. listed (domain_of at) x w left) m1 r m2 → RunsList at ss m r m2
  passed_on {ss} {left} {m} {m1} {m2} {r} x y = record {
    runs = record {
      does = λ ls rounds n t d. subst (λ q. Gives q r (state_of m2)) (sym (x.does ls rounds n t d)) (y.does ls rounds n (ready_later t x.kept x.fewer) d);
      kept = same_later m.store m1.store m2.store x.kept y.kept;
      fewer = let p = x.fewer in let q = y.fewer in omega (arith, p, q);
    };
  }

  -- a statement that doesn't go on to the next one, or that stops
  pub list_ends : {ss : List TStmt} {s : TStmt} {i : ℕ} {m m1 m2 m3 : Machine} (r1 : Result (Flow ℤ) Fault) {r : Result (Flow ℤ) Fault} → Passed at ss m (drop i ss) m1 → i < length ss → s ≡ get_or ss i s → RunsStmt at s m1 r1 m2 → Goes at (after_stmt ss i) r1 m2 r m3 → RunsList at ss m r m3
  list_ends {ss} {s} {i} r1 x lt is y z =
      passed_on x (as_walk (λ x w. listed (domain_of at) x w (drop i ss)) (λ x w. bind (stepped (domain_of at) x w s) (after_stmt ss i x w)) (next_stmt ss s i lt is) (chain (λ x w. stepped (domain_of at) x w s) (after_stmt ss i) r1 y.runs z))

  pub passed_next : {ss : List TStmt} {s : TStmt} {i : ℕ} {m m1 m2 : Machine} → Passed at ss m (drop i ss) m1 → i < length ss → s ≡ get_or ss i s → RunsStmt at s m1 (Ok Next) m2 → Passed at ss m (drop (i + 1) ss) m2
  passed_next {ss} {s} {i} {m} {m1} {m2} x lt is y = record {
    does = λ ls rounds n t d.
        let a = site_of ls rounds at in
        let w : Under (domain_of at) = under_of ls rounds n at in
        x.does ls rounds n t d ∙ ap (λ a. a (state_of m1)) (next_stmt ss s i lt is a w) ∙ ap (λ q. after q (after_stmt ss i a w)) (y.runs.does ls rounds n (ready_later t x.kept x.fewer) d);
    kept = same_later m.store m1.store m2.store x.kept y.runs.kept;
    fewer = let p = x.fewer in let q = y.runs.fewer in omega (arith, p, q);
  }

  pub passed_start : (ss : List TStmt) (m : Machine) → Passed at ss m ss m
  passed_start ss m = record { does = λ ls rounds n t d. refl; kept = (refl, refl); fewer = omega arith }

  pub list_over : {ss : List TStmt} {i : ℕ} {m m1 : Machine} → Passed at ss m (drop i ss) m1 → length ss ≤ i → RunsList at ss m (Ok Next) m1
  list_over {ss} {i} {m} {m1} x le = record {
    runs = record {
      does = λ ls rounds n t d. x.does ls rounds n t d ∙ ap (λ l. listed (domain_of at) (site_of ls rounds at) (under_of ls rounds n at) l (state_of m1)) (drop_all i ss le);
      kept = x.kept;
      fewer = x.fewer;
    };
  }
