-- The code of each form of statement does what the form does.
use Rattle.std.proofs.Common.{ℕ, zero, suc, ◌+◌, ◌-◌, ◌≡◌, ◌<◌, ◌≤◌, List, [], ◌∷◌, ◌++◌, length, Option, Some, None, refl, sym, ap, ◌∙◌, subst, append_assoc, arith, Bool, length-append}
use Rattle.std.specs.Prelude.{slice_get, if◌then◌else◌}
use Rattle.oc_values.specs.declared.integers.IntKind.TheVariants.{Bool as KBool}
use Rattle.oc_cells.specs.declared.memory.Address.TheVariants.{At}
use Rattle.oc_cells.specs.declared.types.CType.{CType}
use Rattle.oc_cells.specs.declared.types.SlotType.{SlotType}
use Rattle.oc_source.specs.declared.spot.Spot.{Spot}
use Rattle.oc_typed.specs.declared.typed.TExpr.{TExpr}
use Rattle.oc_typed.specs.declared.typed.TDeclared.{TDeclared}
use Rattle.oc_typed.specs.declared.typed.TForInit.{TForInit}
use Rattle.oc_typed.specs.declared.typed.TForInit.TheVariants.{Nothing as NoInit, Declare as InitDeclare, Express as InitExpress}
use Rattle.oc_typed.specs.declared.typed.TStmtNode.{TStmtNode, Declare, Express, Block', If', OblivIf', Always' as AlwaysStmt', While', For', Return, Break, Continue, Empty, Row_of-TStmt, end_of-TStmt, more_of-TStmt, Held-TStmtNode-If-2, None', Some'}
use Rattle.oc_walk.specs.declared.run.Flow.TheVariants.{Next, Break as Broke, Continue as Continued, Back}
use Rattle.oc_walk.specs.declared.run.Named.{Named}
use Rattle.oc_walk.specs.declared.run.Value.TheVariants.{Pointer, Hidden, Nothing}
use Rattle.oc_walk.specs.Domain.{Domain, AllOf}
use Rattle.oc_walk.specs.Walking.{Res, Go, Stop, after, bind, pure, choose, still, own, step, block_of, close, Site}
use Rattle.oc_walk.specs.Cells.{V, S, A, puts, opens, typed_slot, variable}
use Rattle.oc_walk.specs.Operations.{condition}
use Rattle.oc_walk.specs.Statements.{F, started, declares, declares_all, part_done, round, again, loop, header, tested_or, advances, gives_back, node, part, stmts, other}
use Rattle.oc_walk.specs.Expressions.{initializes, whole, tested}
use Rattle.oc_code.specs.declared.code.Instr.TheVariants.{Init, Discard, Jump, JumpZero, Step, Enter, When, Otherwise, EndWhen, Always, EndAlways}
use Rattle.oc_code.specs.declared.code.Line.{Line}
use Rattle.oc_code.specs.Machine.{Setup, Here, Conf, at, On, Caller, Apart, Lifted, carried, puts_address, always_on, goes_back, within, marks, next, and_then, exec}
use Rattle.oc_code.specs.Lower.{line, below, Coding, whole_code, named, declared, header_slots, leave_code, init_code, start_code, declare_code, declares_code, express_code, header_code, advance_code, test_code, test_or_code, back_code, if_code, when_code, loop_code, node_code, part_code, stmts_code, other_code}
use Rattle.code_runs.proofs.Runs.{HasAt, has_front, has_back, Comes, stays, comes_on, goes_one, Runs, went, stops, before, seq, ends_at, to_place, stands, quiet_pure, does_one, does_seq, chosen, jump_runs, chosen_runs, if_end}
use Rattle.code_runs.proofs.Exprs.{X, W, CallsRun, whole_does, initializes_do}
use Rattle.code_runs.proofs.Stmts.{slots, how_many, slots_left, left_down, named_on, eq_self, lands, Ok, Slots, down, next_to, then_next, scoped_runs, leaves_down, moved, Opened, opens_so, Marked, marks_so, marks_then, step_runs, when_at, parted_all, loosely}

module _ (D : Domain) (g : Setup) (fuel : ℕ) (small : fuel ≤ 1001) (call : Spot → ℕ → D.Enable → ℕ → List (V D) → A D (V D)) (skip : Site → Held-TStmtNode-If-2 → A D (Unit {0})) (calls_run : CallsRun D g fuel small call skip) (decides : (b : D.Hidden) → D.decide b ≡ AllOf) where
  -- a way out of a statement: its code, and where it comes to
  pub record Exit (h : Here D) (xs : List ℕ) : Type 0 where
    pub x : List Line
    pub to : S D → Conf D
    pub does : (q : ℕ) (t : S D) → slots t.entered ≡ xs → HasAt h.code q x → Comes D g (at D h q [] t) (to t)

  -- what surrounds a statement: where it runs, the bound on steps, the room, the slots that are entered, and where breaks, continues and returns lead
  pub record Ctx : Type 0 where
    pub h : Here D
    pub enough : h.room < fuel
    pub n : ℕ
    pub lt : n < g.run.rounds
    pub r : ℕ
    pub d : ℕ
    pub room : r ≡ h.room - d
    pub xs : List ℕ
    pub c : Caller D
    pub cs : List (Caller D)
    pub callers : h.callers ≡ c ∷ cs
    pub br : Exit h xs
    pub ct : Exit h xs

  abbrev pub deep : Ctx → Ctx
  deep e = let q : e.r - 1 ≡ e.h.room - below e.d = omega (arith, e.room, e.enough, small) in record e { r = e.r - 1; d = below e.d; room = q }

  abbrev pub coding : Here D → Coding
  coding h = record { structs = g.run.structs; slots = h.slots }

  abbrev pub ends : (e : Ctx) → (S D → Conf D) → F D → S D → Conf D
  ends e nx = lands D g e.c e.cs nx e.br.to e.ct.to

  abbrev All : {T : Type 0} → T → Type 0
  All a = Unit {0}

  -- the value of an expression
  value_runs : (e : Ctx) (c : TExpr) (pc : ℕ) (us : List (V D)) (s : S D) → HasAt e.h.code pc (whole_code (coding e.h) e.d pc c) → s.steps ≤ e.n → Runs D g (λ v t. t.entered ≡ s.entered) e.n (at D e.h pc us s) (λ v t. at D e.h (pc + length (whole_code (coding e.h) e.d pc c)) (v ∷ us) t) (whole D (X D g fuel small call skip e.h.slots e.r) (W D g fuel small call skip e.h.enable) c s)
  value_runs e c pc us s has le =
      ends_at D g (let z : e.n ≤ e.n = omega arith in z) (λ v t l p. (stays D g _, p.0)) ((whole_does D g fuel small call skip calls_run e.h e.enough e.n e.lt s.entered e.r e.d e.room c pc us).runs s has le refl)

  -- an expression whose value is left out
  express_runs : {T : Type 0} (e : Ctx) (a : T) (p : Spot) (c : TExpr) (pc : ℕ) (s : S D) → HasAt e.h.code pc (express_code (coding e.h) e.d pc p c) → s.steps ≤ e.n → Runs D g (λ v t. t.entered ≡ s.entered) e.n (at D e.h pc [] s) (λ v t. at D e.h (pc + length (express_code (coding e.h) e.d pc p c)) [] t) (bind (whole D (X D g fuel small call skip e.h.slots e.r) (W D g fuel small call skip e.h.enable) c) (λ _. pure a) s)
  express_runs e a p c pc s has le =
      ends_at D g (let z : e.n ≤ e.n = omega arith in z) (λ v t l p. (stays D g _, p.0))
      ((does_seq D g e.h e.n s.entered {R = All} {k = λ _. pure a} {mid = λ v. v ∷ []} {out = λ _. []} (whole_does D g fuel small call skip calls_run e.h e.enough e.n e.lt s.entered e.r e.d e.room c pc []) (λ v _. does_one D g e.h e.n s.entered (quiet_pure D g) (λ s. refl))).runs s has le refl)

  test_at : (e : Ctx) (c : TExpr) (pc z : ℕ) (s : S D) (rest : List Line) → HasAt e.h.code pc (whole_code (coding e.h) e.d pc c ++ line c.spot (JumpZero z) ∷ rest) → s.steps ≤ e.n → Runs D g (λ b t. t.entered ≡ s.entered) e.n (at D e.h pc [] s) (chosen D g e.h z (pc + length (whole_code (coding e.h) e.d pc c) + 1) []) (tested D (X D g fuel small call skip e.h.slots e.r) (W D g fuel small call skip e.h.enable) c s)
  test_at e c pc z s rest has le =
      let a = whole_code (coding e.h) e.d pc c in
      seq D g (value_runs e c pc [] s (has_front e.h.code pc a _ has) le) (λ v t l same. jump_runs D g e.h c.spot (pc + length a) z [] v t (has_back e.h.code pc a _ has).0 l same)

  test_runs : (e : Ctx) (c : TExpr) (pc z : ℕ) (s : S D) → HasAt e.h.code pc (test_code (coding e.h) e.d pc z c) → s.steps ≤ e.n → Runs D g (λ b t. t.entered ≡ s.entered) e.n (at D e.h pc [] s) (chosen D g e.h z (pc + length (test_code (coding e.h) e.d pc z c)) []) (tested D (X D g fuel small call skip e.h.slots e.r) (W D g fuel small call skip e.h.enable) c s)
  test_runs e c pc z s has le =
      let a = whole_code (coding e.h) e.d pc c in
      let q : pc + length a + 1 ≡ pc + length (a ++ line c.spot (JumpZero z) ∷ []) = omega (arith, length-append a (line c.spot (JumpZero z) ∷ [])) in
      subst (λ i. Runs D g (λ b t. t.entered ≡ s.entered) e.n (at D e.h pc [] s) (chosen D g e.h z i []) (tested D (X D g fuel small call skip e.h.slots e.r) (W D g fuel small call skip e.h.enable) c s)) q (test_at e c pc z s [] has le)

  init_runs : (e : Ctx) (p : Spot) (k b : ℕ) (u : CType) (es : List Named) (o : Option TExpr) (pc : ℕ) (s : S D) → s.entered ≡ record { slot = k; block = b } ∷ es → HasAt e.h.code pc (init_code (coding e.h) e.d pc p k u o) → s.steps ≤ e.n → Runs D g (λ _ t. t.entered ≡ s.entered) e.n (at D e.h pc [] s) (λ _ t. at D e.h (pc + length (init_code (coding e.h) e.d pc p k u o)) [] t) (started D (X D g fuel small call skip e.h.slots e.r) (W D g fuel small call skip e.h.enable) u b o s)
  init_runs e p k b u es None pc s new has le = let z : pc ≡ pc + 0 = omega arith in went (moved D g e.h [] s pc _ z) le refl
  init_runs e p k b u es (Some c) pc s new has le =
      let h = e.h in let a = whole_code (coding h) e.d (pc + 1) c in
      let look : next D g (at D h pc [] s) ≡ On (at D h (pc + 1) (Pointer (At b 0) ∷ []) s) =
      stands D g h pc [] s _ has.0 ∙ ap (λ q. carried D h (pc + 1) (puts_address D [] (variable D p q) s)) (ap (λ l. block_of k l) new ∙ ap (λ q. if q then Some b else block_of k es) (eq_self k)) in
      let z : pc + 1 + length (a ++ line c.spot (Init u) ∷ []) ≡ pc + length (init_code (coding h) e.d pc p k u (Some c)) = omega arith in
      before D g (goes_one D g look) (to_place D g (pc + 1 + length (a ++ line c.spot (Init u) ∷ [])) z
      (ends_at D g (let z : e.n ≤ e.n = omega arith in z) (λ v t l p. (stays D g _, p.0))
      ((does_seq D g h e.n s.entered {R = All} {k = λ v. initializes D c.spot g.run.structs u (At b 0) v} {mid = λ v. v ∷ Pointer (At b 0) ∷ []} {out = λ _. []} (whole_does D g fuel small call skip calls_run h e.enough e.n e.lt s.entered e.r e.d e.room c (pc + 1) (Pointer (At b 0) ∷ [])) (λ v _. initializes_do D g fuel small call skip calls_run h e.enough e.n e.lt s.entered c.spot u (At b 0) v _ [])).runs s has.1 le refl)))

  -- what follows a variable's opening
  opened_runs : {T : Type 0} {P : T → S D → Type 0} (e : Ctx) (k pc : ℕ) (s : S D) (c : Conf D) (out : T → S D → Conf D) (m : ℕ → A D T) (r : Res (S D) ℕ) → Opened D g k s r → next D g c ≡ carried D e.h pc (after (after r (λ _. pure (tt {0}))) (λ _. pure [])) → ((b : ℕ) (t : S D) → t.entered ≡ record { slot = k; block = b } ∷ s.entered → t.steps ≡ s.steps → Runs D g P e.n (at D e.h pc [] t) out (m b t)) → Runs D g P e.n c out (after r m)
  opened_runs e k pc s c out m (Go b t) o does f = before D g (goes_one D g does) (f b t o.0 o.1)
  opened_runs e k pc s c out m (Stop w t) o does f = stops 1 (ap (λ o. and_then D o (exec D g 0)) does)

  declare_at : (e : Ctx) (n : TDeclared) (pc : ℕ) (s : S D) (o : Option SlotType) → next D g (at D e.h pc [] s) ≡ carried D e.h (pc + 1) (after (typed_slot D n.spot o (λ t. bind (opens D n.spot g.run.structs t.ty n.slot) (λ _. pure (tt {0}))) s) (λ _. pure [])) → HasAt e.h.code (pc + 1) (start_code (coding e.h) e.d (pc + 1) n o) → s.steps ≤ e.n → Runs D g (λ _ t. slots t.entered ≡ n.slot ∷ slots s.entered) e.n (at D e.h pc [] s) (λ _ t. at D e.h (pc + 1 + length (start_code (coding e.h) e.d (pc + 1) n o)) [] t) (typed_slot D n.spot o (λ t. bind (opens D n.spot g.run.structs t.ty n.slot) (λ b. started D (X D g fuel small call skip e.h.slots e.r) (W D g fuel small call skip e.h.enable) t.ty b n.init)) s)
  declare_at e n pc s None does has le = stops 1 (ap (λ o. and_then D o (exec D g 0)) does)
  declare_at e n pc s (Some t) does has le =
      opened_runs e n.slot (pc + 1) s (at D e.h pc [] s) _ (λ b. started D (X D g fuel small call skip e.h.slots e.r) (W D g fuel small call skip e.h.enable) t.ty b n.init) (opens D n.spot g.run.structs t.ty n.slot s) (opens_so D g n.spot g.run.structs t.ty n.slot s) does
      (λ b u new same. ends_at D g (let z : e.n ≤ e.n = omega arith in z) (λ v t l p. (stays D g _, ap slots (p ∙ new))) (init_runs e n.spot n.slot b t.ty s.entered n.init (pc + 1) u new has (let z : u.steps ≤ e.n = omega (arith, same, le) in z)))

  declare_runs : (e : Ctx) (n : TDeclared) (pc : ℕ) (s : S D) → HasAt e.h.code pc (declare_code (coding e.h) e.d pc n) → s.steps ≤ e.n → Runs D g (λ _ t. slots t.entered ≡ n.slot ∷ slots s.entered) e.n (at D e.h pc [] s) (λ _ t. at D e.h (pc + length (declare_code (coding e.h) e.d pc n)) [] t) (declares D (X D g fuel small call skip e.h.slots e.r) (W D g fuel small call skip e.h.enable) n s)
  declare_runs e n pc s has le =
      let a = start_code (coding e.h) e.d (pc + 1) n (slice_get e.h.slots n.slot) in
      let z : pc + 1 + length a ≡ pc + length (line n.spot (Enter n.slot) ∷ a) = omega arith in
      to_place D g (pc + 1 + length a) z (declare_at e n pc s (slice_get e.h.slots n.slot) (stands D g e.h pc [] s _ has.0) has.1 le)

  declares_runs : (e : Ctx) (ns : List TDeclared) (xs : List ℕ) (pc : ℕ) (s : S D) → HasAt e.h.code pc (declares_code (coding e.h) e.d pc ns) → s.steps ≤ e.n → slots s.entered ≡ xs → Runs D g (λ _ t. slots t.entered ≡ named ns xs) e.n (at D e.h pc [] s) (λ _ t. at D e.h (pc + length (declares_code (coding e.h) e.d pc ns)) [] t) (declares_all D (X D g fuel small call skip e.h.slots e.r) (W D g fuel small call skip e.h.enable) ns s)
  declares_runs e [] xs pc s has le same = let z : pc ≡ pc + 0 = omega arith in went (moved D g e.h [] s pc _ z) le same
  declares_runs e (n ∷ ns) xs pc s has le same =
      let a = declare_code (coding e.h) e.d pc n in
      let b = declares_code (coding e.h) e.d (pc + length a) ns in
      let z : pc + length a + length b ≡ pc + length (a ++ b) = omega (arith, length-append a b) in
      to_place D g (pc + length a + length b) z (seq D g (declare_runs e n pc s (has_front e.h.code pc a b has) le) (λ _ t l q. declares_runs e ns (n.slot ∷ xs) (pc + length a) t (has_back e.h.code pc a b has) l (q ∙ ap (λ l. n.slot ∷ l) same)))

  header_runs : (e : Ctx) (p : Spot) (i : TForInit) (pc : ℕ) (s : S D) → HasAt e.h.code pc (header_code (coding e.h) e.d pc p i) → s.steps ≤ e.n → slots s.entered ≡ e.xs → Runs D g (λ _ t. slots t.entered ≡ header_slots i ++ e.xs) e.n (at D e.h pc [] s) (λ _ t. at D e.h (pc + length (header_code (coding e.h) e.d pc p i)) [] t) (header D (X D g fuel small call skip e.h.slots e.r) (W D g fuel small call skip e.h.enable) i s)
  header_runs e p NoInit pc s has le same = let z : pc ≡ pc + 0 = omega arith in went (moved D g e.h [] s pc _ z) le same
  header_runs e p (InitDeclare ns) pc s has le same = ends_at D g (let z : e.n ≤ e.n = omega arith in z) (λ v t l q. (stays D g _, q ∙ named_on ns [] e.xs)) (declares_runs e ns e.xs pc s has le same)
  header_runs e p (InitExpress c) pc s has le same = ends_at D g (let z : e.n ≤ e.n = omega arith in z) (λ v t l q. (stays D g _, ap slots q ∙ same)) (express_runs e tt p c pc s has le)

  advance_runs : (e : Ctx) (p : Spot) (o : Option TExpr) (pc : ℕ) (s : S D) → HasAt e.h.code pc (advance_code (coding e.h) e.d pc p o) → s.steps ≤ e.n → slots s.entered ≡ e.xs → Runs D g (λ _ t. slots t.entered ≡ e.xs) e.n (at D e.h pc [] s) (λ _ t. at D e.h (pc + length (advance_code (coding e.h) e.d pc p o)) [] t) (advances D (X D g fuel small call skip e.h.slots e.r) (W D g fuel small call skip e.h.enable) o s)
  advance_runs e p None pc s has le same = let z : pc ≡ pc + 0 = omega arith in went (moved D g e.h [] s pc _ z) le same
  advance_runs e p (Some c) pc s has le same = ends_at D g (let z : e.n ≤ e.n = omega arith in z) (λ v t l q. (stays D g _, ap slots q ∙ same)) (express_runs e tt p c pc s has le)

  test_or_runs : (e : Ctx) (o : Option TExpr) (pc z : ℕ) (s : S D) → HasAt e.h.code pc (test_or_code (coding e.h) e.d pc z o) → s.steps ≤ e.n → slots s.entered ≡ e.xs → Runs D g (λ b t. slots t.entered ≡ e.xs) e.n (at D e.h pc [] s) (chosen D g e.h z (pc + length (test_or_code (coding e.h) e.d pc z o)) []) (tested_or D (X D g fuel small call skip e.h.slots e.r) (W D g fuel small call skip e.h.enable) o s)
  test_or_runs e None pc z s has le same = let q : pc ≡ pc + 0 = omega arith in went (moved D g e.h [] s pc _ q) le same
  test_or_runs e (Some c) pc z s has le same = ends_at D g (let z : e.n ≤ e.n = omega arith in z) (λ v t l q. (stays D g _, ap slots q ∙ same)) (test_runs e c pc z s has le)

  back_runs : {N B : S D → Type 0} (e : Ctx) (nx : S D → Conf D) (p : Spot) (o : Option TExpr) (pc : ℕ) (s : S D) → HasAt e.h.code pc (back_code (coding e.h) e.d pc p o) → s.steps ≤ e.n → Runs D g (Ok D g N B) e.n (at D e.h pc [] s) (ends e nx) (gives_back D (X D g fuel small call skip e.h.slots e.r) (W D g fuel small call skip e.h.enable) o s)
  back_runs e nx p None pc s has le = went (goes_one D g (stands D g e.h pc [] s _ has.0 ∙ ap (λ l. goes_back D p l Nothing s) e.callers)) le tt
  back_runs e nx p (Some c) pc s has le =
      let a = whole_code (coding e.h) e.d pc c in
      seq D g (value_runs e c pc [] s (has_front e.h.code pc a _ has) le) (λ v t l same.
      went (goes_one D g (stands D g e.h _ (v ∷ []) t _ (has_back e.h.code pc a _ has).0 ∙ ap (λ l. goes_back D p l v t) e.callers)) l tt)

  -- in a scope that has entered these slots so far
  abbrev scope_exit : (h : Here D) (xs : List ℕ) → Spot → (mine : List ℕ) → Exit h xs → Exit h (mine ++ xs)
  scope_exit h xs p mine o = record {
    x = leave_code p mine ++ o.x;
    to = λ t. o.to (down D g (length xs) t);
    does = λ q t same has.
        let l = leaves_down D g h [] p mine xs q t (has_front h.code q (leave_code p mine) o.x has) same in
        comes_on D g l.0 (o.does _ (down D g (length xs) t) l.1 (has_back h.code q (leave_code p mine) o.x has));
  }

  abbrev in_scope : Ctx → Spot → List ℕ → Ctx
  in_scope e p mine = record e { xs = mine ++ e.xs; br = scope_exit e.h e.xs p mine e.br; ct = scope_exit e.h e.xs p mine e.ct }

  -- in a part of an `obliv if`
  abbrev part_exit : (h : Here D) (xs : List ℕ) → Spot → (e : D.Enable) (b : D.Hidden) (u : D.Enable) → Exit h xs → Exit (within D h e (Apart h.enable b u ∷ h.aside)) xs
  part_exit h xs p e b u o = record {
    x = line p EndWhen ∷ o.x;
    to = o.to;
    does = λ q t same has. comes_on D g (goes_one D g (stands D g (within D h e (Apart h.enable b u ∷ h.aside)) q [] t _ has.0)) (o.does (q + 1) t same has.1);
  }

  abbrev in_part : Ctx → Spot → D.Enable → D.Hidden → D.Enable → Ctx
  in_part k p e b u = record k { h = within D k.h e (Apart k.h.enable b u ∷ k.h.aside); br = part_exit k.h k.xs p e b u k.br; ct = part_exit k.h k.xs p e b u k.ct }

  -- under `~obliv`, with its name
  abbrev always_exit : (h : Here D) (xs : List ℕ) → Spot → (k : ℕ) → Exit h xs → Exit (within D h D.always (Lifted h.enable ∷ h.aside)) (k ∷ xs)
  always_exit h xs p k o = record {
    x = line p EndAlways ∷ o.x;
    to = λ t. o.to (down D g (length xs) t);
    does = λ q t same has.
        let one : 1 ≡ length t.entered - length xs = sym (how_many (k ∷ []) xs t.entered same) in
        let left : slots (close 1 t).entered ≡ xs = slots_left (k ∷ []) xs t.entered same in
        comes_on D g (goes_one D g (stands D g (within D h D.always (Lifted h.enable ∷ h.aside)) q [] t _ has.0)) (subst (λ i. Comes D g (at D h (q + 1) [] (close 1 t)) (o.to (close i t))) one (o.does (q + 1) (close 1 t) left has.1));
  }

  abbrev in_always : Ctx → Spot → ℕ → Ctx
  in_always e p k = record e { h = within D e.h D.always (Lifted e.h.enable ∷ e.h.aside); xs = k ∷ e.xs; br = always_exit e.h e.xs p k e.br; ct = always_exit e.h e.xs p k e.ct }

  -- in a loop's body, with fewer steps left
  abbrev jump_exit : (h : Here D) (xs : List ℕ) → Spot → ℕ → Exit h xs
  jump_exit h xs p z = record { x = line p (Jump z) ∷ []; to = λ t. at D h z [] t; does = λ q t same has. goes_one D g (stands D g h q [] t _ has.0) }

  abbrev in_loop : (e : Ctx) → Spot → ℕ → ℕ → (i : ℕ) → i < g.run.rounds → Ctx
  in_loop e p z y i lt = record e { n = i; lt = lt; br = jump_exit e.h e.xs p z; ct = jump_exit e.h e.xs p y }

  -- where so many steps are left
  abbrev in_steps : (e : Ctx) (i : ℕ) → i < g.run.rounds → Ctx
  in_steps e i lt = record e { n = i; lt = lt }

  -- the ends of a loop's turn
  abbrev turned_to : Ctx → ℕ → ℕ → Option (F D) → S D → Conf D
  turned_to e top exit None t = at D e.h top [] t
  turned_to e top exit (Some f) t = ends e (λ t. at D e.h exit [] t) f t

  abbrev Turned : Ctx → ℕ → Option (F D) → S D → Type 0
  Turned e i None t = (slots t.entered ≡ e.xs) × (t.steps < i)
  Turned e i (Some f) t = Ok D g (Slots D g e.xs) (Slots D g e.xs) f t

  ended_runs : (e : Ctx) (top av : ℕ) (exit : ℕ) (ct : S D → Conf D) (adv : A D (Unit {0})) (i j : ℕ) {c : Conf D} {r : Res (S D) (F D)} → i < j → j ≤ e.n → ((t : S D) → t.steps ≤ i → slots t.entered ≡ e.xs → Runs D g (λ _ u. slots u.entered ≡ e.xs) i (at D e.h av [] t) (λ _ u. at D e.h top [] u) (adv t)) → ((t : S D) → Comes D g (ct t) (at D e.h av [] t)) → Runs D g (Ok D g (Slots D g e.xs) (Slots D g e.xs)) i c (lands D g e.c e.cs (λ t. at D e.h av [] t) (λ t. at D e.h exit [] t) ct) r → Runs D g (Turned e j) e.n c (turned_to e top exit) (after r (part_done D adv))
  ended_runs e top av exit ct adv i j less le adv_run back (went {a = Next} {t = t} f l p) =
      before D g f (loosely D g (let z : i ≤ e.n = omega (arith, less, le) in z) (seq D g (adv_run t l p) (λ _ u l2 q. went (stays D g _) l2 (q, let z : u.steps < j = omega (arith, l2, less) in z))))
  ended_runs e top av exit ct adv i j less le adv_run back (went {a = Continued} {t = t} f l p) =
      before D g (comes_on D g f (back t)) (loosely D g (let z : i ≤ e.n = omega (arith, less, le) in z) (seq D g (adv_run t l p) (λ _ u l2 q. went (stays D g _) l2 (q, let z : u.steps < j = omega (arith, l2, less) in z))))
  ended_runs e top av exit ct adv i j less le adv_run back (went {a = Broke} {t = t} f l p) = went f (omega (arith, l)) p
  ended_runs e top av exit ct adv i j less le adv_run back (went {a = Back v} {t = t} f l p) = went f (omega (arith, l)) tt
  ended_runs e top av exit ct adv i j less le adv_run back (stops q w) = stops q w

  -- a loop, where each turn does what the code does
  loop_runs : (e : Ctx) (top exit : ℕ) (nx : S D → Conf D) (c : A D Bool) (b : A D (F D)) (adv : A D (Unit {0})) → ((s : S D) → s.steps ≤ e.n → slots s.entered ≡ e.xs → Runs D g (Turned e s.steps) e.n (at D e.h top [] s) (turned_to e top exit) (round D c b adv s)) → ((t : S D) → Comes D g (at D e.h exit [] t) (nx t)) → (m : ℕ) (s : S D) → s.steps < m → s.steps ≤ e.n → slots s.entered ≡ e.xs → Runs D g (Ok D g (Slots D g e.xs) (Slots D g e.xs)) e.n (at D e.h top [] s) (ends e nx) (loop D m c b adv s)
  loop_runs e top exit nx c b adv turns_run out zero s lt le same = absurd (omega arith)
  loop_runs e top exit nx c b adv turns_run out (suc m) s lt le same =
      seq D g (turns_run s le same) (λ o t l p. each o t l p (λ t less l same. loop_runs e top exit nx c b adv turns_run out m t (omega (arith, less)) l same))
    where
      each : (o : Option (F D)) (t : S D) → t.steps ≤ e.n → Turned e s.steps o t → ((t : S D) → t.steps < s.steps → t.steps ≤ e.n → slots t.entered ≡ e.xs → Runs D g (Ok D g (Slots D g e.xs) (Slots D g e.xs)) e.n (at D e.h top [] t) (ends e nx) (loop D m c b adv t)) → Runs D g (Ok D g (Slots D g e.xs) (Slots D g e.xs)) e.n (turned_to e top exit o t) (ends e nx) (again D o (loop D m c b adv) t)
      each None t l p go = go t p.1 l p.0
      each (Some Next) t l p go = went (out t) l p
      each (Some Broke) t l p go = went (stays D g _) l p
      each (Some Continued) t l p go = went (stays D g _) l p
      each (Some (Back v)) t l p go = went (stays D g _) l tt

  -- the code of a loop
  looped : (e : Ctx) (p : Spot) (pc : ℕ) (B V T : List Line) (c : A D Bool) (b : A D (F D)) (adv : A D (Unit {0})) → HasAt e.h.code pc (loop_code p pc B V T) → ((m : ℕ) (lt : m < g.run.rounds) (s : S D) → s.steps ≤ m → slots s.entered ≡ e.xs → Runs D g (λ b t. slots t.entered ≡ e.xs) m (at D e.h (pc + 1 + 1 + 1 + 1 + length B + length V) [] s) (chosen D g e.h (pc + 1) (pc + 1 + 1 + 1 + 1 + length B + length V + length T) []) (c s)) → ((m : ℕ) (lt : m < g.run.rounds) (s : S D) → s.steps ≤ m → slots s.entered ≡ e.xs → Runs D g (λ _ t. slots t.entered ≡ e.xs) m (at D e.h (pc + 1 + 1 + 1 + 1 + length B) [] s) (λ _ t. at D e.h (pc + 1 + 1 + 1 + 1 + length B + length V) [] t) (adv s)) → ((m : ℕ) (lt : m < g.run.rounds) (s : S D) → s.steps ≤ m → slots s.entered ≡ e.xs → Runs D g (Ok D g (Slots D g e.xs) (Slots D g e.xs)) m (at D e.h (pc + 1 + 1 + 1 + 1) [] s) (lands D g e.c e.cs (λ t. at D e.h (pc + 1 + 1 + 1 + 1 + length B) [] t) (λ t. at D e.h (pc + 1) [] t) (λ t. at D e.h (pc + 1 + 1) [] t)) (b s)) → (s : S D) → s.steps ≤ e.n → slots s.entered ≡ e.xs → Runs D g (Ok D g (Slots D g e.xs) (Slots D g e.xs)) e.n (at D e.h pc [] s) (ends e (λ t. at D e.h (pc + length (loop_code p pc B V T)) [] t)) (loop D g.run.rounds c b adv s)
  looped e p pc B V T c b adv has test advance body s le same =
      let h = e.h in
      let av = pc + 1 + 1 + 1 + 1 + length B in
      let top = av + length V in
      let has1 = has_back h.code (pc + 1 + 1 + 1 + 1) B _ has.1.1.1.1 in
      let has2 = has_back h.code av V _ has1 in
      let has3 = has_back h.code top T _ has2 in
      let z : top + length T + 1 ≡ pc + length (loop_code p pc B V T) = omega (arith, length-append B (V ++ (T ++ line p (Jump (pc + 1 + 1 + 1)) ∷ [])), length-append V (T ++ line p (Jump (pc + 1 + 1 + 1)) ∷ []), length-append T (line p (Jump (pc + 1 + 1 + 1)) ∷ [])) in
      before D g (goes_one D g (stands D g h pc [] s _ has.0))
      (loop_runs e top (pc + 1) (λ t. at D h (pc + length (loop_code p pc B V T)) [] t) c b adv
      (λ s le same.
      let few : s.steps < g.run.rounds = omega (arith, le, e.lt) in
      let g1 = in_steps e s.steps few in
      loosely D g le (seq D g (test s.steps few s (let r : s.steps ≤ s.steps = omega arith in r) same) (λ k v l w. chosen_runs D g h (pc + 1) (top + length T) [] (turned_to g1 top (pc + 1)) (λ k. choose k (bind step (λ _. bind b (part_done D adv))) (pure (Some Next))) k v
      (before D g (goes_one D g (stands D g h _ [] v _ has3.0)) (step_runs D g h p (pc + 1 + 1 + 1) [] v _ (bind b (part_done D adv)) has.1.1.1.0 (λ i q.
      let less : i < g.run.rounds = omega (arith, few, l, q) in
      ended_runs g1 top av (pc + 1) (λ t. at D h (pc + 1 + 1) [] t) adv i s.steps (let r : i < s.steps = omega (arith, l, q) in r) (let r : s.steps ≤ s.steps = omega arith in r)
      (λ t l2 w2. advance i less t l2 w2)
      (λ t. goes_one D g (stands D g h (pc + 1 + 1) [] t _ has.1.1.0))
      (body i less (record v { steps = i }) (let r : i ≤ i = omega arith in r) w))))
      (went (stays D g _) l w))))
      (λ y. comes_on D g (goes_one D g (stands D g h (pc + 1) [] y _ has.1.0)) (moved D g h [] y _ _ z))
      g.run.rounds s (let r : s.steps < g.run.rounds = omega (arith, le, e.lt) in r) le same)

  when_end : (pc : ℕ) (p : Spot) (t a b : List Line) → pc + length t + 1 + length a + 1 + length b + 1 ≡ pc + length (when_code p t a b)
  when_end pc p t a b = omega (arith, length-append t (line p When ∷ (a ++ (line p Otherwise ∷ (b ++ line p EndWhen ∷ [])))), length-append a (line p Otherwise ∷ (b ++ line p EndWhen ∷ [])), length-append b (line p EndWhen ∷ []))

  abbrev Done : Ctx → List ℕ → F D → S D → Type 0
  Done e ds = Ok D g (Slots D g (ds ++ e.xs)) (Slots D g e.xs)

  -- the end of marking a variable under `~obliv`, and what follows
  marked_runs : {P : F D → S D → Type 0} (e : Ctx) (k pc : ℕ) (s : S D) (c : Conf D) (out : F D → S D → Conf D) (m : A D (F D)) (r : Res (S D) (Unit {0})) → Marked D g k s r → next D g c ≡ always_on D e.h pc [] r → ((t : S D) → slots t.entered ≡ k ∷ slots s.entered → t.steps ≡ s.steps → Runs D g P e.n (at D (within D e.h D.always (Lifted e.h.enable ∷ e.h.aside)) pc [] t) out (m t)) → Runs D g P e.n c out (after r (λ _. m))
  marked_runs e k pc s c out m (Go a t) o does f = before D g (goes_one D g does) (f t o.0 o.1)
  marked_runs e k pc s c out m (Stop w t) o does f = stops 1 (ap (λ o. and_then D o (exec D g 0)) does)

  mutual
    pub node_runs : (e : Ctx) (p : Spot) (c : TStmtNode) (pc : ℕ) (s : S D) → HasAt e.h.code pc (node_code (coding e.h) e.d e.br.x e.ct.x pc p c) → s.steps ≤ e.n → slots s.entered ≡ e.xs → Runs D g (Done e (declared c)) e.n (at D e.h pc [] s) (ends e (λ t. at D e.h (pc + length (node_code (coding e.h) e.d e.br.x e.ct.x pc p c)) [] t)) (node D (X D g fuel small call skip e.h.slots e.r) (W D g fuel small call skip e.h.enable) p c s)
    node_runs e p Empty pc s has le same = let z : pc ≡ pc + 0 = omega arith in went (moved D g e.h [] s pc _ z) le same
    node_runs e p (Declare ns) pc s has le same =
        seq D g (declares_runs e ns e.xs pc s has le same) (λ _ t l q. went (stays D g _) l (q ∙ named_on ns [] e.xs))
    node_runs e p (Express c) pc s has le same =
        let a = whole_code (coding e.h) e.d pc c in
        let z : pc + length a + 1 ≡ pc + length (a ++ line p Discard ∷ []) = omega (arith, length-append a (line p Discard ∷ [])) in
        seq D g (value_runs e c pc [] s (has_front e.h.code pc a _ has) le) (λ v t l w. went (comes_on D g (goes_one D g (stands D g e.h _ (v ∷ []) t _ (has_back e.h.code pc a _ has).0)) (moved D g e.h [] t _ _ z)) l (ap slots w ∙ same))
    node_runs e p (Block' _ ss) pc s has le same =
        scoped_runs D g e.c e.cs _ e.br.to e.ct.to e.xs (stmts D (X D g fuel small call skip e.h.slots e.r) (W D g fuel small call skip e.h.enable) ss) s same (stmts_runs e p [] ss pc s has le same)
    node_runs e p (If' c _ u o) pc s has le same =
        let h = e.h in let t = whole_code (coding h) e.d pc c in let a = part_code (coding h) e.d e.br.x e.ct.x (pc + length t + 1) u in
        let b = other_code (coding h) e.d e.br.x e.ct.x (pc + length t + 1 + length a + 1) o in
        let has1 = has_back h.code pc t _ has in
        let has2 = has_back h.code (pc + length t + 1) a _ has1.1 in
        let z = if_end D g pc c.spot t a b in
        let whole_n : e.n ≤ e.n = omega arith in
        let nx : S D → Conf D = λ y. at D h (pc + length (if_code c.spot pc t a b)) [] y in
        seq D g (test_at e c pc (pc + length t + 1 + length a + 1) s _ has le) (λ k v l w.
        chosen_runs D g h (pc + length t + 1 + length a + 1) (pc + length t + 1) [] (ends e nx) (λ k. choose k (part D (X D g fuel small call skip h.slots e.r) (W D g fuel small call skip h.enable) u) (other D (X D g fuel small call skip h.slots e.r) (W D g fuel small call skip h.enable) o)) k v
        (next_to D g e.c e.cs _ nx e.br.to e.ct.to whole_n (λ y l q. (comes_on D g (goes_one D g (stands D g h _ [] y _ has2.0)) (moved D g h [] y _ _ z), q)) (λ y q. q) (part_runs e u (pc + length t + 1) v (has_front h.code _ a _ has1.1) l (ap slots w ∙ same)))
        (next_to D g e.c e.cs _ nx e.br.to e.ct.to whole_n (λ y l q. (moved D g h [] y _ _ z, q)) (λ y q. q) (other_runs e o (pc + length t + 1 + length a + 1) v has2.1 l (ap slots w ∙ same))))
    node_runs e p (OblivIf' c _ u o) pc s has le same =
        let h = e.h in let t = whole_code (coding h) e.d pc c in let x = line p EndWhen ∷ e.br.x in let y = line p EndWhen ∷ e.ct.x in
        let a = part_code (coding h) e.d x y (pc + length t + 1) u in
        let b = other_code (coding h) e.d x y (pc + length t + 1 + length a + 1) o in
        let has1 = has_back h.code pc t _ has in
        let has2 = has_back h.code (pc + length t + 1) a _ has1.1 in
        let has3 = has_back h.code (pc + length t + 1 + length a + 1) b _ has2.1 in
        let z = when_end pc c.spot t a b in
        let whole_n : e.n ≤ e.n = omega arith in
        let site = X D g fuel small call skip h.slots e.r in
        let nx : S D → Conf D = λ y. at D h (pc + length (when_code c.spot t a b)) [] y in
        seq D g (value_runs e c pc [] s (has_front h.code pc t _ has) le) (λ v s1 l w.
        when_at D g h (pc + length t + 1) s1 (ends e nx) _ (condition D c.spot v s1.mem) (stands D g h _ (v ∷ []) s1 _ has1.0) (λ f m.
        let i = (D.first h.enable f m.own).0 in
        parted_all D g (D.decide f) _ _ _ _ (decides f)
        (then_next D g e.c e.cs (λ t1. at D (within D h i (Apart h.enable f i ∷ h.aside)) (pc + length t + 1 + length a) [] t1) nx e.br.to e.ct.to (bind (still (own (D.second h.enable f i))) (λ d. other D site (W D g fuel small call skip d) o))
        (part_runs (in_part e p i f i) u (pc + length t + 1) (record s1 { mem = record m { own = (D.first h.enable f m.own).1 } }) (has_front h.code _ a _ has1.1) l (ap slots w ∙ same))
        (λ y l2 q.
        let j = (D.second h.enable f i y.mem.own).0 in
        let y1 : S D = record y { mem = record y.mem { own = (D.second h.enable f i y.mem.own).1 } } in
        before D g (goes_one D g (stands D g (within D h i (Apart h.enable f i ∷ h.aside)) _ [] y _ has2.0))
        (next_to D g e.c e.cs _ nx e.br.to e.ct.to whole_n (λ k l3 q. (comes_on D g (goes_one D g (stands D g (within D h j (Apart h.enable f i ∷ h.aside)) _ [] k _ has3.0)) (moved D g h [] k _ _ z), q)) (λ k q. q)
        (other_runs (in_part e p j f i) o (pc + length t + 1 + length a + 1) y1 (has_front h.code _ b _ has2.1) l2 q))))))
    node_runs e p (AlwaysStmt' k _ u) pc s has le same =
        let h = e.h in let h1 = within D h D.always (Lifted h.enable ∷ h.aside) in
        let a = part_code (coding h) e.d (line p EndAlways ∷ e.br.x) (line p EndAlways ∷ e.ct.x) (pc + 1) u in
        let z : pc + 1 + length a + 1 ≡ pc + length (line p (Always k) ∷ (a ++ line p EndAlways ∷ [])) = omega (arith, length-append a (line p EndAlways ∷ [])) in
        let whole_n : e.n ≤ e.n = omega arith in
        let m = part D (X D g fuel small call skip h.slots e.r) (W D g fuel small call skip D.always) u in
        let nx : S D → Conf D = λ t. at D h (pc + length (line p (Always k) ∷ (a ++ line p EndAlways ∷ []))) [] t in
        scoped_runs D g e.c e.cs nx e.br.to e.ct.to e.xs (typed_slot D p (slice_get h.slots k) (λ t. bind (opens D p g.run.structs t.ty k) (λ b. bind (still (puts D p t.ty (At b 0) (Hidden KBool (D.held h.enable)))) (λ _. m)))) s same
        (subst (λ r. Runs D g (Ok D g (λ t. Slots D g e.xs (down D g (length e.xs) t)) (λ t. Slots D g e.xs (down D g (length e.xs) t))) e.n (at D h pc [] s) (lands D g e.c e.cs (λ t. nx (down D g (length e.xs) t)) (λ t. e.br.to (down D g (length e.xs) t)) (λ t. e.ct.to (down D g (length e.xs) t))) r) (sym (marks_then D g p g.run.structs h.slots k h.enable s m))
        (marked_runs e k (pc + 1) s (at D h pc [] s) _ m (marks D p g.run.structs h.slots k h.enable s) (marks_so D g p g.run.structs h.slots k h.enable s) (stands D g h pc [] s _ has.0) (λ t1 new q1.
        next_to D g e.c e.cs _ (λ t. nx (down D g (length e.xs) t)) (λ t. e.br.to (down D g (length e.xs) t)) (λ t. e.ct.to (down D g (length e.xs) t)) whole_n
        (λ t l q.
        let one : 1 ≡ length t.entered - length e.xs = sym (how_many (k ∷ []) e.xs t.entered q) in (
          comes_on D g (goes_one D g (stands D g h1 (pc + 1 + length a) [] t _ (has_back h.code (pc + 1) a _ has.1).0)) (subst (λ i. Comes D g (at D h (pc + 1 + length a + 1) [] (close 1 t)) (nx (close i t))) one (moved D g h [] (close 1 t) _ _ z)),
          left_down D g (k ∷ []) e.xs t q,
        ))
        (λ t q. left_down D g (k ∷ []) e.xs t q)
        (part_runs (in_always e p k) u (pc + 1) t1 (has_front h.code _ a _ has.1) (let r : t1.steps ≤ e.n = omega (arith, q1, le) in r) (new ∙ ap (λ l. k ∷ l) same)))))
    node_runs e p (While' c _ u) pc s has le same =
        let h = e.h in
        let b = part_code (coding h) e.d (line p (Jump (pc + 1)) ∷ []) (line p (Jump (pc + 1 + 1)) ∷ []) (pc + 1 + 1 + 1 + 1) u in
        let t = test_code (coding h) e.d (pc + 1 + 1 + 1 + 1 + length b + 0) (pc + 1) c in
        let hasb = has_back h.code (pc + 1 + 1 + 1 + 1) b _ has.1.1.1.1 in
        looped e p pc b [] t (tested D (X D g fuel small call skip h.slots e.r) (W D g fuel small call skip h.enable) c) (part D (X D g fuel small call skip h.slots e.r) (W D g fuel small call skip h.enable) u) (pure tt) has
        (λ m lt s le same. ends_at D g (let z : m ≤ m = omega arith in z) (λ v t l q. (stays D g _, ap slots q ∙ same)) (test_runs (in_steps e m lt) c (pc + 1 + 1 + 1 + 1 + length b + 0) (pc + 1) s (has_front h.code _ t _ (has_back h.code (pc + 1 + 1 + 1 + 1 + length b) [] _ hasb)) le))
        (λ m lt s le same. let z : pc + 1 + 1 + 1 + 1 + length b ≡ pc + 1 + 1 + 1 + 1 + length b + 0 = omega arith in went (moved D g h [] s _ _ z) le same)
        (λ m lt s le same. part_runs (in_loop e p (pc + 1) (pc + 1 + 1) m lt) u (pc + 1 + 1 + 1 + 1) s (has_front h.code _ b _ has.1.1.1.1) le same)
        s le same
    node_runs e p (For' i c a _ u) pc s has le same =
        let h = e.h in
        let o = header_code (coding h) e.d pc p i in
        let top = pc + length o in
        let b = part_code (coding h) e.d (line p (Jump (top + 1)) ∷ []) (line p (Jump (top + 1 + 1)) ∷ []) (top + 1 + 1 + 1 + 1) u in
        let v = advance_code (coding h) e.d (top + 1 + 1 + 1 + 1 + length b) p a in
        let t = test_or_code (coding h) e.d (top + 1 + 1 + 1 + 1 + length b + length v) (top + 1) c in
        let w = loop_code p top b v t in
        let g1 = in_scope e p (header_slots i) in
        let has1 = has_back h.code pc o _ has in
        let hasw = has_front h.code top w _ has1 in
        let hasl = has_back h.code top w _ has1 in
        let hasb = has_back h.code (top + 1 + 1 + 1 + 1) b _ hasw.1.1.1.1 in
        let hasv = has_back h.code (top + 1 + 1 + 1 + 1 + length b) v _ hasb in
        let z : top + length w + length (leave_code p (header_slots i)) ≡ pc + length (o ++ (w ++ leave_code p (header_slots i))) = omega (arith, length-append o (w ++ leave_code p (header_slots i)), length-append w (leave_code p (header_slots i))) in
        let whole_n : e.n ≤ e.n = omega arith in
        let nx : S D → Conf D = λ t. at D h (pc + length (o ++ (w ++ leave_code p (header_slots i)))) [] t in
        scoped_runs D g e.c e.cs nx e.br.to e.ct.to e.xs (bind (header D (X D g fuel small call skip h.slots e.r) (W D g fuel small call skip h.enable) i) (λ _. loop D g.run.rounds (tested_or D (X D g fuel small call skip h.slots e.r) (W D g fuel small call skip h.enable) c) (part D (X D g fuel small call skip h.slots e.r) (W D g fuel small call skip h.enable) u) (advances D (X D g fuel small call skip h.slots e.r) (W D g fuel small call skip h.enable) a))) s same
        (seq D g (header_runs e p i pc s (has_front h.code pc o _ has) le same) (λ _ s1 l1 same1.
        next_to D g e.c e.cs (λ t. at D h (top + length w) [] t) (λ t. nx (down D g (length e.xs) t)) (λ t. e.br.to (down D g (length e.xs) t)) (λ t. e.ct.to (down D g (length e.xs) t)) whole_n
        (λ t l q. let x = leaves_down D g h [] p (header_slots i) e.xs (top + length w) t hasl q in (comes_on D g x.0 (moved D g h [] _ _ _ z), x.1))
        (λ t q. left_down D g (header_slots i) e.xs t q)
        (looped g1 p top b v t (tested_or D (X D g fuel small call skip h.slots e.r) (W D g fuel small call skip h.enable) c) (part D (X D g fuel small call skip h.slots e.r) (W D g fuel small call skip h.enable) u) (advances D (X D g fuel small call skip h.slots e.r) (W D g fuel small call skip h.enable) a) hasw
        (λ m lt s le same. test_or_runs (in_steps g1 m lt) c (top + 1 + 1 + 1 + 1 + length b + length v) (top + 1) s (has_front h.code _ t _ hasv) le same)
        (λ m lt s le same. advance_runs (in_steps g1 m lt) p a (top + 1 + 1 + 1 + 1 + length b) s (has_front h.code _ v _ hasb) le same)
        (λ m lt s le same. part_runs (in_loop g1 p (top + 1) (top + 1 + 1) m lt) u (top + 1 + 1 + 1 + 1) s (has_front h.code _ b _ hasw.1.1.1.1) le same)
        s1 l1 same1)))
    node_runs e p (Return o) pc s has le same = back_runs e _ p o pc s has le
    node_runs e p Break pc s has le same = went (e.br.does pc s same has) le same
    node_runs e p Continue pc s has le same = went (e.ct.does pc s same has) le same

    pub part_runs : (e : Ctx) (u : Row_of-TStmt 1) (pc : ℕ) (s : S D) → HasAt e.h.code pc (part_code (coding e.h) e.d e.br.x e.ct.x pc u) → s.steps ≤ e.n → slots s.entered ≡ e.xs → Runs D g (Done e []) e.n (at D e.h pc [] s) (ends e (λ t. at D e.h (pc + length (part_code (coding e.h) e.d e.br.x e.ct.x pc u)) [] t)) (part D (X D g fuel small call skip e.h.slots e.r) (W D g fuel small call skip e.h.enable) u s)
    part_runs e (more_of-TStmt q c rest) pc s has le same =
        let a = node_code (coding e.h) (below e.d) e.br.x e.ct.x (pc + 1) q c in
        let z : pc + 1 + length a + length (leave_code q (declared c)) ≡ pc + length (line q Step ∷ (a ++ leave_code q (declared c))) = omega (arith, length-append a (leave_code q (declared c))) in
        let whole_n : e.n ≤ e.n = omega arith in
        scoped_runs D g e.c e.cs _ e.br.to e.ct.to e.xs (bind step (λ _. node D (X D g fuel small call skip e.h.slots (e.r - 1)) (W D g fuel small call skip e.h.enable) q c)) s same
        (step_runs D g e.h q pc [] s _ (node D (X D g fuel small call skip e.h.slots (e.r - 1)) (W D g fuel small call skip e.h.enable) q c) has.0 (λ i l.
        next_to D g e.c e.cs _ _ _ _ whole_n
        (λ t l n. let x = leaves_down D g e.h [] q (declared c) e.xs _ t (has_back e.h.code (pc + 1) a _ has.1) n in (comes_on D g x.0 (moved D g e.h [] _ _ _ z), x.1))
        (λ t n. left_down D g [] e.xs t n)
        (node_runs (deep (in_scope e q [])) q c (pc + 1) (record s { steps = i }) (has_front e.h.code (pc + 1) a _ has.1) (let r : i ≤ e.n = omega (arith, l, le) in r) same)))

    pub stmts_runs : {m : _} (e : Ctx) (p : Spot) (mine : List ℕ) (u : Row_of-TStmt m) (pc : ℕ) (s : S D) → HasAt e.h.code pc (stmts_code (coding e.h) e.d e.br.x e.ct.x p mine pc u) → s.steps ≤ e.n → slots s.entered ≡ mine ++ e.xs → Runs D g (Ok D g (λ t. Slots D g e.xs (down D g (length e.xs) t)) (λ t. Slots D g e.xs (down D g (length e.xs) t))) e.n (at D e.h pc [] s) (lands D g e.c e.cs (λ t. at D e.h (pc + length (stmts_code (coding e.h) e.d e.br.x e.ct.x p mine pc u)) [] (down D g (length e.xs) t)) (λ t. e.br.to (down D g (length e.xs) t)) (λ t. e.ct.to (down D g (length e.xs) t))) (stmts D (X D g fuel small call skip e.h.slots e.r) (W D g fuel small call skip e.h.enable) u s)
    stmts_runs e p mine end_of-TStmt pc s has le same = let l = leaves_down D g e.h [] p mine e.xs pc s has same in went l.0 le l.1
    stmts_runs e p mine (more_of-TStmt q c rest) pc s has le same =
        let x = leave_code p mine ++ e.br.x in
        let y = leave_code p mine ++ e.ct.x in
        let b = node_code (coding e.h) (below e.d) x y (pc + 1) q c in
        let a = line q Step ∷ b in
        let w : pc + 1 + length b ≡ pc + length a = omega arith in
        let cs = stmts_code (coding e.h) e.d e.br.x e.ct.x p (declared c ++ mine) (pc + length a) rest in
        let z : pc + length a + length cs ≡ pc + length (a ++ cs) = omega (arith, length-append a cs) in
        let whole_n : e.n ≤ e.n = omega arith in
        then_next D g e.c e.cs (λ t. at D e.h (pc + length a) [] t) _ _ _ (stmts D (X D g fuel small call skip e.h.slots e.r) (W D g fuel small call skip e.h.enable) rest)
        (step_runs D g e.h q pc [] s _ (node D (X D g fuel small call skip e.h.slots (e.r - 1)) (W D g fuel small call skip e.h.enable) q c) has.0 (λ i l.
        next_to D g e.c e.cs _ _ _ _ whole_n (λ t l n. (moved D g e.h [] t _ _ w, n)) (λ t n. left_down D g mine e.xs t n)
        (node_runs (deep (in_scope e p mine)) q c (pc + 1) (record s { steps = i }) (has_front e.h.code (pc + 1) b _ has.1) (let r : i ≤ e.n = omega (arith, l, le) in r) same)))
        (λ t l n. next_to D g e.c e.cs _ _ _ _ whole_n (λ t l n. (moved D g e.h [] _ _ _ z, n)) (λ t n. n) (stmts_runs e p (declared c ++ mine) rest (pc + length a) t (has_back e.h.code pc a _ has) l (n ∙ sym (append_assoc (declared c) mine e.xs))))

    pub other_runs : (e : Ctx) (o : Held-TStmtNode-If-2) (pc : ℕ) (s : S D) → HasAt e.h.code pc (other_code (coding e.h) e.d e.br.x e.ct.x pc o) → s.steps ≤ e.n → slots s.entered ≡ e.xs → Runs D g (Done e []) e.n (at D e.h pc [] s) (ends e (λ t. at D e.h (pc + length (other_code (coding e.h) e.d e.br.x e.ct.x pc o)) [] t)) (other D (X D g fuel small call skip e.h.slots e.r) (W D g fuel small call skip e.h.enable) o s)
    other_runs e None' pc s has le same = let z : pc ≡ pc + 0 = omega arith in went (moved D g e.h [] s pc _ z) le same
    other_runs e (Some' _ u) pc s has le same = part_runs e u pc s has le same
