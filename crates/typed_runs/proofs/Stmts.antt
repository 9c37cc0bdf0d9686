-- Statements and calls whose shapes are right meet no value of another form.
use Rattle.std.proofs.Common.{ℕ, zero, suc, ◌≡◌, List, [], ◌∷◌, ◌++◌, Option, Some, None, refl, sym, ap, ◌∙◌, subst, append_assoc, Bool, true, false, ◌||◌, nat_eq}
use Rattle.std.specs.Prelude.{slice_get, if◌then◌else◌}
use Rattle.oc_values.specs.declared.integers.IntKind.TheVariants.{Bool as KBool}
use Rattle.oc_cells.specs.declared.types.CType.{CType, Int as CInt}
use Rattle.oc_cells.specs.declared.memory.Address.TheVariants.{At}
use Rattle.oc_source.specs.declared.spot.Spot.{Spot}
use Rattle.oc_typed.specs.declared.typed.TExpr.{TExpr}
use Rattle.oc_typed.specs.declared.typed.TDeclared.{TDeclared}
use Rattle.oc_typed.specs.declared.typed.TForInit.{TForInit}
use Rattle.oc_typed.specs.declared.typed.TForInit.TheVariants.{Nothing as NoInit, Declare as InitDeclare, Express as InitExpress}
use Rattle.oc_typed.specs.declared.typed.TStmt.{TStmt}
use Rattle.oc_typed.specs.declared.typed.TStmtNode.{TStmtNode, Declare, Express, Block', If', OblivIf', Always', While', For', Return, Break, Continue, Empty, Row_of-TStmt, end_of-TStmt, more_of-TStmt, Held-TStmtNode-If-2, None', Some'}
use Rattle.oc_typed.specs.Visible.{is_among, after_all, after_node, after_header}
use Rattle.oc_walk.specs.declared.run.Value.TheVariants.{Nothing, Hidden}
use Rattle.oc_walk.specs.declared.run.Flow.{Flow}
use Rattle.oc_walk.specs.declared.run.Flow.TheVariants.{Next, Break as Broke, Continue as Continued, Back}
use Rattle.oc_walk.specs.declared.run.Outcome.TheVariants.{StepsSpent}
use Rattle.oc_walk.specs.declared.run.Named.{Named}
use Rattle.oc_walk.specs.Domain.{Domain, Parts, AllOf, FirstOf, SecondOf}
use Rattle.oc_walk.specs.Walking.{Res, bind, still, block_of, Site, deeper}
use Rattle.oc_walk.specs.Cells.{S, V, puts, opens}
use Rattle.oc_walk.specs.Expressions.{Under, under, whole, tested, initializes}
use Rattle.oc_walk.specs.Statements.{started, declares, declares_all, proceed, part_done, round, again, loop, header, tested_or, advances, gives_back, parted, both, node, part, stmts, other, listed}
use Rattle.typed_runs.specs.Shapes.{Heading, Sized, Held, integer, pointer, struct}
use Rattle.typed_runs.specs.Statements.{WholeOk, TestOk, InitOk, DeclaredOk, DeclaredsOk, HeaderOk, MaybeTestOk, MaybeOk, BackOk, NodeOk, PartOk, RowOk, OtherOk, ListOk}
use Rattle.typed_runs.proofs.Sure.{Has, hids, none, Safe, seq, lift, answers_so, owns, puts_sure, condition_sure}
use Rattle.typed_runs.proofs.Exprs.{Keeps, expr_safe, test_safe, copies_safe}
use Rattle.typed_runs.proofs.Runs.{wider, ends_so, Runs, next, still_so, gives, step_runs, at_once, choose_runs, opens_runs, typed_runs, Grown, scoped_runs}

-- these slots are entered
abbrev pub Entered : List ℕ → List Named → Type 0
Entered vis e = (n : ℕ) → is_among vis n ≡ true → (b : ℕ) × (block_of n e ≡ Some b)

-- a slot more that is visible, and entered
pub one_more_slot : (vis : List ℕ) (e : List Named) (n b : ℕ) → Entered vis e → Entered (n ∷ vis) (record { slot = n; block = b } ∷ e)
one_more_slot vis e n b c m h = slot_at (nat_eq n m) h
  where
    slot_at : (q : Bool) → (q || is_among vis m) ≡ true → (d : ℕ) × ((if q then Some b else block_of m e) ≡ Some d)
    slot_at true h = (b, refl)
    slot_at false h = c m h

module _ (D : Domain) (hs : List Heading) (result : CType) where
  pub grown_itself : {e : List Named} → Grown D e e
  grown_itself = record { new = []; is = refl }

  pub grown_more : {e es fs : List Named} → Grown D e es → Grown D es fs → Grown D e fs
  grown_more {e} g h = record { new = h.new ++ g.new; is = h.is ∙ ap (λ l. h.new ++ l) g.is ∙ sym (append_assoc h.new g.new e) }

  pub grown_one : {e es : List Named} (n : Named) → es ≡ n ∷ e → Grown D e es
  grown_one n q = record { new = n ∷ []; is = q }

  pub grown_same : {e es : List Named} → es ≡ e → Grown D e es
  grown_same q = record { new = []; is = q }

  -- how a statement goes on: a call's value is of its type
  pub data HasFlow : Flow D.Hidden → Type 0 where
    nexts : HasFlow Next
    breaks : HasFlow Broke
    continues : HasFlow Continued
    backs : {v : V D} → Has D result v → HasFlow (Back v)

  -- after a statement: more slots are entered, and where it goes on those that are then visible
  pub record After (e : List Named) (vis : List ℕ) (f : Flow D.Hidden) (es : List Named) : Type 0 where
    pub flow : HasFlow f
    pub grown : Grown D e es
    pub entered : f ≡ Next → Entered vis es

  -- after declarations
  pub record Grown_to (e : List Named) (vis : List ℕ) (u : Unit {0}) (es : List Named) : Type 0 where
    pub grown : Grown D e es
    pub entered : Entered vis es

  abbrev Calls : Under D → Type 0
  Calls w = Keeps D (record { headings = hs; visible = [] }) w

  whole_safe : (x : Site) (w : Under D) (vis : List ℕ) {e : List Named} (c : TExpr) → Calls w → Entered vis e → WholeOk x.run.structs hs x.slots result vis c → Safe D e (Has D c.ty) (whole D x w c)
  whole_safe x w vis {e} c a i h = expr_safe D (record { headings = hs; visible = vis }) e i c.node x w c.spot c.ty (record { call = a.call }) h

  tested_safe : (x : Site) (w : Under D) (vis : List ℕ) {e : List Named} (c : TExpr) → Calls w → Entered vis e → TestOk x.run.structs hs x.slots result vis c → Safe D e (λ _. Unit {0}) (tested D x w c)
  tested_safe x w vis {e} c a i h = seq D (whole_safe x w vis c a i h.1) (λ v j. test_safe D e c.spot h.0 j)

  initializes_safe : {e : List Named} (r : Spot) (lss : List (List CType)) {u : CType} (b : ℕ) {v : V D} → Held lss u → Has D u v → Safe D e (λ _. Unit {0}) (initializes D r lss u (At b 0) v)
  initializes_safe r lss {u} b integer h = seq D (lift D (puts_sure D r u (At b 0) tt h)) (λ _ _. answers_so D (tt {0}))
  initializes_safe r lss {u} b pointer h = seq D (lift D (puts_sure D r u (At b 0) tt h)) (λ _ _. answers_so D (tt {0}))
  initializes_safe {e} r lss b (struct s) h = copies_safe D e r D.always lss (At b 0) s h

  started_safe : (x : Site) (w : Under D) (vis : List ℕ) {e : List Named} (u : CType) (b : ℕ) (c : Option TExpr) → Calls w → Entered vis e → InitOk x.run.structs hs x.slots result vis u c → Safe D e (λ _. Unit {0}) (started D x w u b c)
  started_safe x w vis u b None a i h = answers_so D (tt {0})
  started_safe x w vis u b (Some c) a i h = seq D (whole_safe x w vis c a i h.2) (λ v j. initializes_safe c.spot x.run.structs b h.1 (subst (λ t. Has D t v) h.0 j))

  declares_runs : (x : Site) (w : Under D) (vis : List ℕ) {e : List Named} (d : TDeclared) → Calls w → Entered vis e → DeclaredOk x.run.structs hs x.slots result vis d → Runs D e (Grown_to e (d.slot ∷ vis)) (declares D x w d)
  declares_runs x w vis {e} d a i h =
      typed_runs D d.spot (slice_get x.slots d.slot) h.type (λ t. bind (opens D d.spot x.run.structs t.ty d.slot) (λ b. started D x w t.ty b d.init)) h.there
      (next D (opens_runs D d.spot x.run.structs h.type.ty d.slot h.sized) (λ b es q. let f : Entered (d.slot ∷ vis) es = subst (λ l. Entered (d.slot ∷ vis) l) (sym q) (one_more_slot vis e d.slot b i) in still_so D (started_safe x w (d.slot ∷ vis) h.type.ty b d.init a f h.init) (λ _ _. record { grown = grown_one (record { slot = d.slot; block = b }) q; entered = f })))

  declared_runs : (ds : List TDeclared) (x : Site) (w : Under D) (vis : List ℕ) {e : List Named} → Calls w → Entered vis e → DeclaredsOk x.run.structs hs x.slots result vis ds → Runs D e (Grown_to e (after_all vis ds)) (declares_all D x w ds)
  declared_runs [] x w vis a i h = gives D (record { grown = grown_itself; entered = i })
  declared_runs (d ∷ ds) x w vis a i h =
      next D (declares_runs x w vis d a i h.0) (λ _ es q. wider D (declared_runs ds x w (d.slot ∷ vis) a q.entered h.1) (λ _ fs r. record { grown = grown_more q.grown r.grown; entered = r.entered }))

  -- a part: the slots that were entered are again
  abbrev Part : List Named → Flow D.Hidden → List Named → Type 0
  Part e f es = HasFlow f × (es ≡ e)

  -- the end of a loop's turn
  pub data HasEnd : Option (Flow D.Hidden) → Type 0 where
    goes_on : HasEnd None
    ends_with : {f : Flow D.Hidden} → HasFlow f → HasEnd (Some f)

  abbrev Same_after : {A : Type 0} → List Named → A → List Named → Type 0
  Same_after e a es = es ≡ e

  ended_runs : {e es : List Named} {adv : S D → Res (S D) (Unit {0})} {f : Flow D.Hidden} → es ≡ e → HasFlow f → Runs D e (Same_after e) adv → Runs D es (λ o fs. HasEnd o × (fs ≡ e)) (part_done D adv f)
  ended_runs q nexts h = at_once D q (next D h (λ _ fs r. gives D (goes_on, r)))
  ended_runs q continues h = at_once D q (next D h (λ _ fs r. gives D (goes_on, r)))
  ended_runs q breaks h = gives D (ends_with nexts, q)
  ended_runs q (backs v) h = gives D (ends_with (backs v), q)

  turn_runs : {e : List Named} {c : S D → Res (S D) Bool} {b : S D → Res (S D) (Flow D.Hidden)} {adv : S D → Res (S D) (Unit {0})} → Safe D e (λ _. Unit {0}) c → Runs D e (Part e) b → Runs D e (Same_after e) adv → Runs D e (λ o fs. HasEnd o × (fs ≡ e)) (round D c b adv)
  turn_runs {e} hc hb ha =
      next D (still_so D {Q = λ _ es. es ≡ e} hc (λ _ _. refl)) (λ k es q. choose_runs D k (at_once D q (next D (step_runs D) (λ _ fs r. at_once D r (next D hb (λ f gs p. ended_runs p.1 p.0 ha))))) (gives D (ends_with nexts, q)))

  again_runs : {e es : List Named} {o : Option (Flow D.Hidden)} {m : S D → Res (S D) (Flow D.Hidden)} → es ≡ e → HasEnd o → Runs D e (Part e) m → Runs D es (Part e) (again D o m)
  again_runs q goes_on h = at_once D q h
  again_runs q (ends_with f) h = gives D (f, q)

  loop_runs : (n : ℕ) {e : List Named} {c : S D → Res (S D) Bool} {b : S D → Res (S D) (Flow D.Hidden)} {adv : S D → Res (S D) (Unit {0})} → Safe D e (λ _. Unit {0}) c → Runs D e (Part e) b → Runs D e (Same_after e) adv → Runs D e (Part e) (loop D n c b adv)
  loop_runs zero hc hb ha = ends_so D (StepsSpent)
  loop_runs (suc n) hc hb ha = next D (turn_runs hc hb ha) (λ o es p. again_runs p.1 p.0 (loop_runs n hc hb ha))

  header_runs : (c : TForInit) (x : Site) (w : Under D) (vis : List ℕ) {e : List Named} → Calls w → Entered vis e → HeaderOk x.run.structs hs x.slots result vis c → Runs D e (Grown_to e (after_header vis c)) (header D x w c)
  header_runs NoInit x w vis a i h = gives D (record { grown = grown_itself; entered = i })
  header_runs (InitDeclare ds) x w vis a i h = declared_runs ds x w vis a i h
  header_runs (InitExpress c) x w vis {e} a i h = still_so D (seq D (whole_safe x w vis c a i h) (λ _ _. answers_so D {P = λ _. Unit {0}} (tt {0}))) (λ _ _. record { grown = grown_itself; entered = i })

  tested_or_safe : (c : Option TExpr) (x : Site) (w : Under D) (vis : List ℕ) {e : List Named} → Calls w → Entered vis e → MaybeTestOk x.run.structs hs x.slots result vis c → Safe D e (λ _. Unit {0}) (tested_or D x w c)
  tested_or_safe None x w vis a i h = answers_so D (tt {0})
  tested_or_safe (Some c) x w vis a i h = tested_safe x w vis c a i h

  advances_runs : (c : Option TExpr) (x : Site) (w : Under D) (vis : List ℕ) {e : List Named} → Calls w → Entered vis e → MaybeOk x.run.structs hs x.slots result vis c → Runs D e (Same_after e) (advances D x w c)
  advances_runs None x w vis a i h = gives D refl
  advances_runs (Some c) x w vis {e} a i h = still_so D {Q = Same_after e} (seq D (whole_safe x w vis c a i h) (λ _ _. answers_so D {P = λ _. Unit {0}} (tt {0}))) (λ _ _. refl)

  back_runs : (c : Option TExpr) (x : Site) (w : Under D) (vis : List ℕ) {e : List Named} → Calls w → Entered vis e → BackOk x.run.structs hs x.slots result vis c → Runs D e (After e vis) (gives_back D x w c)
  back_runs None x w vis a i h = gives D (record { flow = backs (subst (λ t. Has D t Nothing) (sym h) none); grown = grown_itself; entered = λ _. i })
  back_runs (Some c) x w vis {e} a i h = still_so D (seq D (whole_safe x w vis c a i h.1) (λ v j. answers_so D {P = HasFlow} (backs (subst (λ t. Has D t v) h.0 j)))) (λ _ f. record { flow = f; grown = grown_itself; entered = λ _. i })

  after_same : {e es : List Named} {vis : List ℕ} {f : Flow D.Hidden} → Entered vis e → Part e f es → After e vis f es
  after_same {vis = vis} i p = record { flow = p.0; grown = grown_same p.1; entered = λ _. subst (λ l. Entered vis l) (sym p.1) i }

  proceed_runs : {e es : List Named} {vis : List ℕ} {f : Flow D.Hidden} {m : S D → Res (S D) (Flow D.Hidden)} → After e vis f es → (Entered vis es → Runs D es (λ g fs. HasFlow g × Grown D es fs) m) → Runs D es (λ g fs. HasFlow g × Grown D e fs) (proceed D f m)
  proceed_runs {f = Next} p h = wider D (h (p.entered refl)) (λ g fs r. (r.0, grown_more p.grown r.1))
  proceed_runs {f = Broke} p h = gives D (breaks, p.grown)
  proceed_runs {f = Continued} p h = gives D (continues, p.grown)
  proceed_runs {f = Back v} p h = gives D (p.flow, p.grown)

  goes_further : {e es : List Named} {f : Flow D.Hidden} {m : S D → Res (S D) (Flow D.Hidden)} → Part e f es → Runs D e (Part e) m → Runs D es (Part e) (proceed D f m)
  goes_further {f = Next} p h = at_once D p.1 h
  goes_further {f = Broke} p h = gives D p
  goes_further {f = Continued} p h = gives D p
  goes_further {f = Back v} p h = gives D p

  -- what surrounds a node keeps to the headings, and what stands for a part that isn't walked enters nothing
  pub record Around (w : Under D) : Type 0 where
    pub calls : Calls w
    pub skips : (e : List Named) (x : Site) (n : Held-TStmtNode-If-2) → Runs D e (Same_after e) (w.skip x n)

  under_so : {w : Under D} (i : D.Enable) → Around w → Around (under D w i)
  under_so i a = record { calls = record { call = a.calls.call }; skips = a.skips }

  parted_runs : {e : List Named} {P : Flow D.Hidden → List Named → Type 0} (d : Parts) {m n k : S D → Res (S D) (Flow D.Hidden)} → Runs D e P m → Runs D e P n → Runs D e P k → Runs D e P (parted D d m n k)
  parted_runs AllOf f g h = f
  parted_runs FirstOf f g h = g
  parted_runs SecondOf f g h = h

  both_runs : {e : List Named} (i : D.Enable) (h : D.Hidden) {m n : D.Enable → S D → Res (S D) (Flow D.Hidden)} → ((d : D.Enable) → Runs D e (Part e) (m d)) → ((d : D.Enable) → Runs D e (Part e) (n d)) → Runs D e (Part e) (both D i h m n)
  both_runs {e} i h hm hn =
      next D (still_so D {Q = Same_after e} (lift D (owns D {P = λ _. Unit {0}} (D.first i h) (λ _. tt {0}))) (λ _ _. refl)) (λ u es q. at_once D q (next D (hm u) (λ f fs p. goes_further p (next D (still_so D {Q = Same_after e} (lift D (owns D {P = λ _. Unit {0}} (D.second i h u) (λ _. tt {0}))) (λ _ _. refl)) (λ d gs r. at_once D r (hn d))))))

  bool_sized : (lss : List (List CType)) → Sized lss (CInt KBool true)
  bool_sized lss = record { size = refl; flat = (tt, tt) }

  mutual
    node_runs : (c : TStmtNode) (x : Site) (w : Under D) (vis : List ℕ) (p : Spot) {e : List Named} → Around w → Entered vis e → NodeOk x.run.structs hs x.slots result vis c → Runs D e (After e (after_node vis c)) (node D x w p c)
    node_runs (Declare ds) x w vis p a i h = next D (declared_runs ds x w vis a.calls i h) (λ _ es q. gives D (record { flow = nexts; grown = q.grown; entered = λ _. q.entered }))
    node_runs (Express c) x w vis p {e} a i h = still_so D (seq D (whole_safe x w vis c a.calls i h) (λ _ _. answers_so D {P = HasFlow} nexts)) (λ _ f. record { flow = f; grown = grown_itself; entered = λ _. i })
    node_runs (Block' _ ss) x w vis p a i h = wider D (scoped_runs D {P = HasFlow} (rows_runs ss x w vis a i h)) (λ _ _ q. after_same i q)
    node_runs (If' c _ s n) x w vis p {e} a i h =
        wider D (next D (still_so D {Q = Same_after e} (tested_safe x w vis c a.calls i h.0) (λ _ _. refl)) (λ b es q. at_once D q (choose_runs D b (part_runs s x w vis a i h.1) (other_runs n x w vis a i h.2)))) (λ _ _ q. after_same i q)
    node_runs (OblivIf' c _ s n) x w vis p {e} a i h =
        wider D (next D (still_so D {P = Has D (CInt KBool true)} {Q = λ v es. Has D (CInt KBool true) v × (es ≡ e)} (subst (λ t. Safe D e (Has D t) (whole D x w c)) h.0 (whole_safe x w vis c a.calls i h.1)) (λ _ f. (f, refl))) (λ v es q. at_once D q.1 (next D (still_so D {Q = Same_after e} (lift D (condition_sure D c.spot q.0)) (λ _ _. refl)) (λ k fs r. at_once D r (parted_runs (D.decide k)
        (both_runs w.enable k (λ d. part_runs s x (under D w d) vis (under_so d a) i h.2) (λ d. other_runs n x (under D w d) vis (under_so d a) i h.3))
        (next D (part_runs s x w vis a i h.2) (λ f gs t. goes_further t (next D (a.skips e x n) (λ _ us l. gives D (nexts, l)))))
        (next D (a.skips e x (Some' tt s)) (λ _ us l. at_once D l (other_runs n x w vis a i h.3)))))))) (λ _ _ q. after_same i q)
    node_runs (Always' n _ s) x w vis p {e} a i h =
        wider D (scoped_runs D {P = HasFlow} (typed_runs D p (slice_get x.slots n) h.0.type (λ t. bind (opens D p x.run.structs t.ty n) (λ b. bind (still (puts D p t.ty (At b 0) (Hidden KBool (D.held w.enable)))) (λ _. part D x (under D w D.always) s))) h.0.there
        (next D (opens_runs D p x.run.structs h.0.type.ty n (subst (λ t. Sized x.run.structs t) (sym h.0.is) (bool_sized x.run.structs))) (λ b es q.
        next D (still_so D {Q = Same_after es} (subst (λ t. Safe D es (Has D t) (still (puts D p t (At b 0) (Hidden KBool (D.held w.enable))))) (sym h.0.is) (lift D (puts_sure D p (CInt KBool true) (At b 0) tt hids))) (λ _ _. refl)) (λ _ fs r. at_once D r
        (wider D (part_runs s x (under D w D.always) (n ∷ vis) (under_so D.always a) (subst (λ l. Entered (n ∷ vis) l) (sym q) (one_more_slot vis e n b i)) h.1) (λ f gs t. (t.0, grown_more (grown_one (record { slot = n; block = b }) q) (grown_same t.1))))))))) (λ _ _ q. after_same i q)
    node_runs (While' c _ s) x w vis p {e} a i h = wider D (loop_runs x.run.rounds (tested_safe x w vis c a.calls i h.0) (part_runs s x w vis a i h.1) (gives D {P = Same_after e} refl)) (λ _ _ q. after_same i q)
    node_runs (For' k c l _ s) x w vis p a i h =
        wider D (scoped_runs D {P = HasFlow} (next D (header_runs k x w vis a.calls i h.0) (λ _ es q. wider D (loop_runs x.run.rounds (tested_or_safe c x w (after_header vis k) a.calls q.entered h.1) (part_runs s x w (after_header vis k) a q.entered h.3) (advances_runs l x w (after_header vis k) a.calls q.entered h.2)) (λ f fs r. (r.0, grown_more q.grown (grown_same r.1)))))) (λ _ _ q. after_same i q)
    node_runs (Return c) x w vis p a i h = back_runs c x w vis a.calls i h
    node_runs Break x w vis p a i h = gives D (record { flow = breaks; grown = grown_itself; entered = λ _. i })
    node_runs Continue x w vis p a i h = gives D (record { flow = continues; grown = grown_itself; entered = λ _. i })
    node_runs Empty x w vis p a i h = gives D (record { flow = nexts; grown = grown_itself; entered = λ _. i })

    part_runs : (c : Row_of-TStmt 1) (x : Site) (w : Under D) (vis : List ℕ) {e : List Named} → Around w → Entered vis e → PartOk x.run.structs hs x.slots result vis c → Runs D e (Part e) (part D x w c)
    part_runs (more_of-TStmt q c rest) x w vis a i h =
        scoped_runs D {P = HasFlow} (next D (step_runs D) (λ _ es r. at_once D r (wider D (node_runs c (deeper x) w vis q a i h) (λ f fs t. (t.flow, t.grown)))))

    rows_runs : {m : _} (c : Row_of-TStmt m) (x : Site) (w : Under D) (vis : List ℕ) {e : List Named} → Around w → Entered vis e → RowOk x.run.structs hs x.slots result vis c → Runs D e (λ f es. HasFlow f × Grown D e es) (stmts D x w c)
    rows_runs end_of-TStmt x w vis a i h = gives D (nexts, grown_itself)
    rows_runs (more_of-TStmt q c rest) x w vis a i h =
        next D (next D (step_runs D) (λ _ es r. at_once D r (node_runs c (deeper x) w vis q a i h.0))) (λ f es r. proceed_runs r (λ j. rows_runs rest x w (after_node vis c) a j h.1))

    other_runs : (c : Held-TStmtNode-If-2) (x : Site) (w : Under D) (vis : List ℕ) {e : List Named} → Around w → Entered vis e → OtherOk x.run.structs hs x.slots result vis c → Runs D e (Part e) (other D x w c)
    other_runs None' x w vis a i h = gives D (nexts, refl)
    other_runs (Some' _ s) x w vis a i h = part_runs s x w vis a i h

  pub listed_runs : (ss : List TStmt) (x : Site) (w : Under D) (vis : List ℕ) {e : List Named} → Around w → Entered vis e → ListOk x.run.structs hs x.slots result vis ss → Runs D e (λ f es. HasFlow f × Grown D e es) (listed D x w ss)
  listed_runs [] x w vis a i h = gives D (nexts, grown_itself)
  listed_runs (c ∷ ss) x w vis a i h =
      next D (next D (step_runs D) (λ _ es r. at_once D r (node_runs c.node (deeper x) w vis c.spot a i h.0))) (λ f es r. proceed_runs r (λ j. listed_runs ss x w (after_node vis c.node) a j h.1))
