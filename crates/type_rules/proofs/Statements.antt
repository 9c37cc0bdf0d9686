-- Statements: the function of a statement and its first fault.
use Rattle.std.proofs.Common.{ℕ, ◌≡◌, List, [], ◌∷◌, Option, Some, None, Ok, Err, length, refl, sym, ap, subst, Bool, true, false, inl, inr}
use Rattle.std.specs.Prelude.{not}
use Rattle.oc_source.specs.declared.spot.Spot.{Spot}
use Rattle.oc_cells.specs.declared.types.CType.{CType}
use Rattle.oc_source.specs.declared.parsed.Expr.{Expr}
use Rattle.oc_source.specs.declared.parsed.Declared.{Declared}
use Rattle.oc_source.specs.declared.parsed.StmtNode.{StmtNode, Declare, Express, Block', If', OblivIf', Always', While', For', Return, Break, Continue, Empty, Row_of-Stmt, end_of-Stmt, more_of-Stmt, Held-StmtNode-If-2, None', Some'}
use Rattle.oc_typed.specs.declared.typed.TExpr.{TExpr}
use Rattle.oc_typed.specs.declared.typed.TStmt as typed
use Rattle.oc_typed.specs.declared.typed.TStmtNode as st
use Rattle.type_rules.specs.declared.judging.TypeRule.TheVariants.{T2, T3, T12}
use Rattle.type_rules.specs.declared.judging.Refusal.{Refusal}
use Rattle.type_rules.specs.declared.judging.Found.{Found}
use Rattle.type_rules.specs.Judging.{Judged, next, needs, public_integer}
use Rattle.type_rules.specs.Lookup.{Lookup, value_of, valued, convert}
use Rattle.oc_typed.specs.declared.typed.TDeclared as typed_declared
use Rattle.type_rules.specs.Written.{field_type, is_frozen_place}
use Rattle.type_rules.specs.Rules.{expr, typed_value, typed_alone}
use Rattle.type_rules.specs.StatementRules.{add, is_taken, initial, declare, declare_all, Scope, Walk, bind, pure, ask, at, scoped, value_in, alone_in, made, stmt, stmts, part, other}
use Rattle.oc_values.specs.declared.integers.IntKind.TheVariants.{Bool as KBool}
use Rattle.oc_cells.specs.declared.types.CType.{Int}
use Rattle.oc_source.specs.declared.parsed.ForInit.{ForInit}
use Rattle.oc_source.specs.declared.parsed.ForInit.TheVariants as begin
use Rattle.oc_typed.specs.declared.typed.TForInit as typed_init
use Rattle.oc_typed.specs.declared.typed.TForInit.TheVariants as init
use Rattle.oc_cells.specs.Types.{is_integer}
use Rattle.type_rules.specs.Lookup.{converted}
use Rattle.type_rules.specs.StatementRules.{name_mark, header, optional_in, condition, returned}
use Rattle.type_rules.specs.Moves.{Step, Alone, Value, Test, Jump, Name, First, Hidden, Tested, Gives, Mark, optional_moves, header_moves, Moves, Done, More, Inside, first_moves, declared_moves, moves, moves1, moves_all, moves_other, deeper, back, Fine, Breaks, AllFine, FirstFault}
use Rattle.type_rules.proofs.Laws.{absurd, parted, broken, not_both, fine_back, from_ok, from_err, err_back, found, faults}

-- where a walk ended
pub scope_of : {A : Type 0} (a b : A) (q r : Scope) → ◌≡◌ {A = Judged (A × Scope)} (Ok (a, q)) (Ok (b, r)) → q ≡ r
scope_of {A = A} a b q r h = ap (λ (z : Judged (A × Scope)). (from_ok (a, q) z).1) h

pub fault_back : {A : Type 0} (x y : Refusal) → ◌≡◌ {A = Judged A} (Err x) (Err y) → x ≡ y
fault_back x y h = ap (λ r. from_err x r) h

pub never : {A R : Type 0} (a : A) (x : Refusal) → ◌≡◌ {A = Judged A} (Ok a) (Err x) → R
never a x h = absurd (not_both a x (sym h))

-- steps that answered
of_value : {B : Type 0} (m : Judged Found) (k : TExpr → Walk B) (s : Scope) (z : B × Scope) → next (next {B = TExpr × Scope} (valued m) (λ v. Ok (v, s))) (λ r. k r.0 r.1) ≡ Ok z → (f : Found) × (m ≡ Ok f) × (k (value_of f) s ≡ Ok z)
unfolding next
of_value (Ok f) k s z h = (f, refl, h)
of_value (Err y) k s z h = absurd (not_both z y h)

pub value_then : {B : Type 0} (g : Lookup) (e : Expr) (k : TExpr → Walk B) (s : Scope) (z : B × Scope) → bind (value_in g e) k s ≡ Ok z → (f : Found) × (expr (at g s) false e.spot e.node ≡ Ok f) × (k (value_of f) s ≡ Ok z)
unfolding typed_value
value_then g e k s z h = of_value (expr (at g s) false e.spot e.node) k s z h

pub alone_then : {B : Type 0} (g : Lookup) (e : Expr) (k : TExpr → Walk B) (s : Scope) (z : B × Scope) → bind (alone_in g e) k s ≡ Ok z → (f : Found) × (expr (at g s) true e.spot e.node ≡ Ok f) × (k (value_of f) s ≡ Ok z)
unfolding typed_alone
alone_then g e k s z h = of_value (expr (at g s) true e.spot e.node) k s z h

pub ask_then : {A B : Type 0} (m : Judged A) (k : A → Walk B) (s : Scope) (z : B × Scope) → bind (ask m) k s ≡ Ok z → (a : A) × (m ≡ Ok a) × (k a s ≡ Ok z)
unfolding next
ask_then (Ok a) k s z h = (a, refl, h)
ask_then (Err y) k s z h = absurd (not_both z y h)

of_scoped : {A B : Type 0} (m : Judged (A × Scope)) (k : A → Walk B) (s : Scope) (z : B × Scope) → next (next {B = A × Scope} m (λ r. Ok (r.0, back s r.1))) (λ r. k r.0 r.1) ≡ Ok z → (r : A × Scope) × (m ≡ Ok r) × (k r.0 (back s r.1) ≡ Ok z)
unfolding next
of_scoped (Ok r) k s z h = (r, refl, h)
of_scoped (Err y) k s z h = absurd (not_both z y h)

pub scoped_then : {A B : Type 0} (w : Walk A) (k : A → Walk B) (s : Scope) (z : B × Scope) → bind (scoped w) k s ≡ Ok z → (r : A × Scope) × (w (deeper s) ≡ Ok r) × (k r.0 (back s r.1) ≡ Ok z)
scoped_then w k s z h = of_scoped (w (deeper s)) k s z h

pub walk_then : {A B : Type 0} (w : Walk A) (k : A → Walk B) (s : Scope) (z : B × Scope) → bind w k s ≡ Ok z → (r : A × Scope) × (w s ≡ Ok r) × (k r.0 r.1 ≡ Ok z)
walk_then w k s z h = parted (w s) (λ r. k r.0 r.1) z h

-- steps that broke a rule
bad_value : {B R : Type 0} (m : Judged Found) (k : TExpr → Walk B) (s : Scope) (x : Refusal) → next (next {B = TExpr × Scope} (valued m) (λ v. Ok (v, s))) (λ r. k r.0 r.1) ≡ Err x → (m ≡ Err x → R) → ((f : Found) → m ≡ Ok f → k (value_of f) s ≡ Err x → R) → R
unfolding next
bad_value (Ok f) k s x h a b = b f refl h
bad_value (Err y) k s x h a b = a (err_back y x h)

value_bad : {B R : Type 0} (g : Lookup) (e : Expr) (k : TExpr → Walk B) (s : Scope) (x : Refusal) → bind (value_in g e) k s ≡ Err x → (expr (at g s) false e.spot e.node ≡ Err x → R) → ((f : Found) → expr (at g s) false e.spot e.node ≡ Ok f → k (value_of f) s ≡ Err x → R) → R
unfolding typed_value
value_bad g e k s x h a b = bad_value (expr (at g s) false e.spot e.node) k s x h a b

alone_bad : {B R : Type 0} (g : Lookup) (e : Expr) (k : TExpr → Walk B) (s : Scope) (x : Refusal) → bind (alone_in g e) k s ≡ Err x → (expr (at g s) true e.spot e.node ≡ Err x → R) → ((f : Found) → expr (at g s) true e.spot e.node ≡ Ok f → k (value_of f) s ≡ Err x → R) → R
unfolding typed_alone
alone_bad g e k s x h a b = bad_value (expr (at g s) true e.spot e.node) k s x h a b

ask_bad : {A B R : Type 0} (m : Judged A) (k : A → Walk B) (s : Scope) (x : Refusal) → bind (ask m) k s ≡ Err x → (m ≡ Err x → R) → ((a : A) → m ≡ Ok a → k a s ≡ Err x → R) → R
unfolding next
ask_bad (Ok a) k s x h f b = b a refl h
ask_bad (Err y) k s x h f b = f (err_back y x h)

bad_scoped : {A B R : Type 0} (m : Judged (A × Scope)) (k : A → Walk B) (s : Scope) (x : Refusal) → next (next {B = A × Scope} m (λ r. Ok (r.0, back s r.1))) (λ r. k r.0 r.1) ≡ Err x → (m ≡ Err x → R) → ((r : A × Scope) → m ≡ Ok r → k r.0 (back s r.1) ≡ Err x → R) → R
unfolding next
bad_scoped (Ok r) k s x h a b = b r refl h
bad_scoped (Err y) k s x h a b = a (err_back y x h)

scoped_bad : {A B R : Type 0} (w : Walk A) (k : A → Walk B) (s : Scope) (x : Refusal) → bind (scoped w) k s ≡ Err x → (w (deeper s) ≡ Err x → R) → ((r : A × Scope) → w (deeper s) ≡ Ok r → k r.0 (back s r.1) ≡ Err x → R) → R
scoped_bad w k s x h a b = bad_scoped (w (deeper s)) k s x h a b

pub walk_bad : {A B R : Type 0} (w : Walk A) (k : A → Walk B) (s : Scope) (x : Refusal) → bind w k s ≡ Err x → (w s ≡ Err x → R) → ((r : A × Scope) → w s ≡ Ok r → k r.0 r.1 ≡ Err x → R) → R
walk_bad w k s x h a b = broken (w s) (λ r. k r.0 r.1) x h a b

-- what moves can carry back over the steps before them
pub record Carried (g : Lookup) (K : Scope → Moves → Type 0) : Type 0 where
  pub more : (s q : Scope) (v : Step) (vs : Moves) → Fine g s v q → K q vs → K s (More v vs)
  pub inside : (s q : Scope) (us vs : Moves) → AllFine g (deeper s) us q → K (back s q) vs → K s (Inside us vs)

pub fine_carried : (g : Lookup) (r : Scope) → Carried g (λ s vs. AllFine g s vs r)
fine_carried g r = record { more = λ s q v vs a b. (q, a, b); inside = λ s q us vs a b. (q, a, b) }

pub fault_carried : (g : Lookup) (x : Refusal) → Carried g (λ s vs. FirstFault g s vs x)
fault_carried g x = record { more = λ s q v vs a b. inr (q, a, b); inside = λ s q us vs a b. inr (q, a, b) }

-- a walk in a scope of its own
pub whole_scoped : {A : Type 0} (w : Walk A) (s : Scope) (z : A × Scope) → scoped w s ≡ Ok z → (r : A × Scope) × (w (deeper s) ≡ Ok r) × (back s r.1 ≡ z.1)
whole_scoped w s z h = let q = parted (w (deeper s)) (λ r. Ok (r.0, back s r.1)) z h in (q.0, q.1, scope_of _ _ _ _ q.2)

bad_inside : {A : Type 0} (w : Walk A) (s : Scope) (x : Refusal) → scoped w s ≡ Err x → w (deeper s) ≡ Err x
bad_inside w s x h = broken (w (deeper s)) (λ r. Ok (r.0, back s r.1)) x h (λ i. i) (λ r i j. never _ x j)

pub mark_then : {B : Type 0} (y : List ℕ) (k : ℕ → Walk B) (s : Scope) (r : Judged (B × Scope)) → bind (name_mark y) k s ≡ r → k (length s.slots) (add y (Int KBool true) false s) ≡ r
unfolding next
mark_then y k s r h = h

-- what an expression that may be left out is
abbrev pub Optional : Lookup → Scope → Option Expr → Option TExpr → Type 0
Optional g s None y = y ≡ None
Optional g s (Some e) y = (f : Found) × (expr (at g s) false e.spot e.node ≡ Ok f) × (y ≡ Some (value_of f))

pub optional_then : {B : Type 0} (g : Lookup) (o : Option Expr) (k : Option TExpr → Walk B) (s : Scope) (z : B × Scope) → bind (optional_in g o) k s ≡ Ok z → (y : Option TExpr) × Optional g s o y × (k y s ≡ Ok z)
unfolding next
optional_then g None k s z h = (None, refl, h)
optional_then g (Some e) k s z h = let a = walk_then (optional_in g (Some e)) k s z h in let b = value_then g e (λ v. pure (Some v)) s a.0 a.1 in (Some (value_of b.0), (b.0, b.1, refl), subst (λ (r : Option TExpr × Scope). k r.0 r.1 ≡ Ok z) (sym (fine_back _ _ b.2)) a.2)

optional_bad : {B R : Type 0} (g : Lookup) (o : Option Expr) (k : Option TExpr → Walk B) (s : Scope) (x : Refusal) (rest : Moves) → bind (optional_in g o) k s ≡ Err x → (FirstFault g s (optional_moves o rest) x → R) → ((y : Option TExpr) → Optional g s o y → k y s ≡ Err x → R) → R
unfolding next
optional_bad g None k s x rest h a b = b None refl h
optional_bad g (Some e) k s x rest h a b = walk_bad (optional_in g (Some e)) k s x h
    (λ i. value_bad g e (λ v. pure (Some v)) s x i (λ j. a (inl (faults (at g s) false e.spot e.node x j))) (λ f j l. never _ x l))
    (λ r i j. let q = value_then g e (λ v. pure (Some v)) s r i in b (Some (value_of q.0)) (q.0, q.1, refl) (subst (λ (t : Option TExpr × Scope). k t.0 t.1 ≡ Err x) (sym (fine_back _ _ q.2)) j))

tested_fine : (g : Lookup) (s : Scope) (p : Spot) (o : Option Expr) (y : Option TExpr) (u : Unit {0}) → Optional g s o y → condition p y ≡ Ok u → Fine g s (Tested p o) s
tested_fine g s p None y u a h = refl
tested_fine g s p (Some e) y u a h = (a.0, found (at g s) false e.spot e.node a.0 a.1, subst (λ t. condition p t ≡ Ok u) a.2 h, refl)

tested_bad : (g : Lookup) (s : Scope) (p : Spot) (o : Option Expr) (y : Option TExpr) (x : Refusal) → Optional g s o y → condition p y ≡ Err x → Breaks g s (Tested p o) x
tested_bad g s p None y x a h = never tt x (subst (λ t. condition p t ≡ Err x) a h)
tested_bad g s p (Some e) y x a h = (a.0, found (at g s) false e.spot e.node a.0 a.1, subst (λ t. condition p t ≡ Err x) a.2 h)

gives_fine : (g : Lookup) (s : Scope) (p : Spot) (o : Option Expr) (y v : Option TExpr) → Optional g s o y → returned g p y ≡ Ok v → Fine g s (Gives p o) s
gives_fine g s p None y v a h = (v, subst (λ t. returned g p t ≡ Ok v) a h, refl)
gives_fine g s p (Some e) y v a h = (a.0, v, found (at g s) false e.spot e.node a.0 a.1, subst (λ t. returned g p t ≡ Ok v) a.2 h, refl)

gives_bad : (g : Lookup) (s : Scope) (p : Spot) (o : Option Expr) (y : Option TExpr) (x : Refusal) → Optional g s o y → returned g p y ≡ Err x → Breaks g s (Gives p o) x
gives_bad g s p None y x a h = subst (λ t. returned g p t ≡ Err x) a h
gives_bad g s p (Some e) y x a h = (a.0, found (at g s) false e.spot e.node a.0 a.1, subst (λ t. returned g p t ≡ Err x) a.2 h)

through_optional : (g : Lookup) (K : Scope → Moves → Type 0) → Carried g K → (o : Option Expr) (s : Scope) (y : Option TExpr) (rest : Moves) → Optional g s o y → K s rest → K s (optional_moves o rest)
through_optional g K c None s y rest a k = k
through_optional g K c (Some e) s y rest a k = c.more s s (Value e) rest (a.0, found (at g s) false e.spot e.node a.0 a.1, refl) k

pub not_taken : (p : Spot) (b : Bool) (u : Unit {0}) → needs p T2 (not b) ≡ Ok u → b ≡ false
not_taken p false u h = refl
not_taken p true u h = absurd (not_both u _ h)

pub is_it : (p : Spot) (b : Bool) (x : Refusal) → needs p T2 (not b) ≡ Err x → (b ≡ true) × (x ≡ record { rule = T2; spot = p })
is_it p false x h = absurd (not_both tt x (sym h))
is_it p true x h = (refl, sym (fault_back _ _ h))

module _ (g : Lookup) where
  through_first : (K : Scope → Moves → Type 0) → Carried g K → (d : Declared) (ty : CType) → field_type g d.field ≡ Ok ty → (o : Option Expr) (s : Scope) (z : Option TExpr × Scope) (rest : Moves) → initial g ty o s ≡ Ok z → K z.1 rest → K s (first_moves d o rest)
  through_first K c d ty e None s z rest h k = subst (λ t. K t rest) (sym (scope_of _ _ _ _ h)) k
  through_first K c d ty e (Some v) s z rest h k =
      let a = value_then g v (λ w. bind (ask (convert ty w)) (λ x. pure (Some x))) s z h in
      let b = ask_then (convert ty (value_of a.0)) (λ x. pure (Some x)) s z a.2 in
      c.more s s (Value v) _ (a.0, found (at g s) false v.spot v.node a.0 a.1, refl)
      (c.more s s (First d v) rest (ty, a.0, b.0, e, found (at g s) false v.spot v.node a.0 a.1, b.1, refl) (subst (λ t. K t rest) (sym (scope_of _ _ _ _ b.2)) k))

  -- what a declaration makes of the scope before its first value
  abbrev after : Declared → CType → Scope → Scope
  after d ty s = add d.field.name ty (is_frozen_place d.field.base d.field.stars) s

  abbrev ending : Declared → Scope → Option TExpr → Walk typed_declared.TDeclared
  ending d s v = pure (record { spot = d.field.spot; slot = length s.slots; init = v })

  through_declare : (K : Scope → Moves → Type 0) → Carried g K → (d : Declared) (s : Scope) (z : typed_declared.TDeclared × Scope) (rest : Moves) → declare g d s ≡ Ok z → K z.1 rest → K s (More (Name d) (first_moves d d.init rest))
  through_declare K c d s z rest h k =
      let t = parted (field_type g d.field) (λ ty. next (needs d.field.spot T2 (not (is_taken s d.field.name))) (λ _. bind (initial g ty d.init) (λ v. ending d s v) (after d ty s))) z h in
      let n = parted (needs d.field.spot T2 (not (is_taken s d.field.name))) (λ _. bind (initial g t.0 d.init) (λ v. ending d s v) (after d t.0 s)) z t.2 in
      let i = walk_then (initial g t.0 d.init) (λ v. ending d s v) (after d t.0 s) z n.2 in
      c.more s (after d t.0 s) (Name d) _ (t.0, t.1, not_taken _ _ _ n.1, refl) (through_first K c d t.0 t.1 d.init (after d t.0 s) i.0 rest i.1 (subst (λ t. K t rest) (sym (scope_of _ _ _ _ i.2)) k))

  pub through_declares : (K : Scope → Moves → Type 0) → Carried g K → (ds : List Declared) (s : Scope) (z : List typed_declared.TDeclared × Scope) (rest : Moves) → declare_all g ds s ≡ Ok z → K z.1 rest → K s (declared_moves ds rest)
  through_declares K c [] s z rest h k = subst (λ t. K t rest) (sym (scope_of _ _ _ _ h)) k
  through_declares K c (d ∷ ds) s z rest h k =
      let a = walk_then (declare g d) (λ x. bind (declare_all g ds) (λ xs. pure (x ∷ xs))) s z h in
      let b = walk_then (declare_all g ds) (λ xs. pure (a.0.0 ∷ xs)) a.0.1 z a.2 in
      through_declare K c d s a.0 (declared_moves ds rest) a.1 (through_declares K c ds a.0.1 b.0 rest b.1 (subst (λ t. K t rest) (sym (scope_of _ _ _ _ b.2)) k))

through_header : (g : Lookup) (K : Scope → Moves → Type 0) → Carried g K → (i : ForInit) (s : Scope) (z : typed_init.TForInit × Scope) (rest : Moves) → header g i s ≡ Ok z → K z.1 rest → K s (header_moves i rest)
through_header g K c begin.Nothing s z rest h k = subst (λ t. K t rest) (sym (scope_of _ _ _ _ h)) k
through_header g K c (begin.Declare ds) s z rest h k =
    let a = walk_then (declare_all g ds) (λ xs. pure (init.Declare xs)) s z h in
    through_declares g K c ds s a.0 rest a.1 (subst (λ t. K t rest) (sym (scope_of _ _ _ _ a.2)) k)
through_header g K c (begin.Express e) s z rest h k =
    let a = value_then g e (λ v. pure (init.Express v)) s z h in
    c.more s s (Value e) rest (a.0, found (at g s) false e.spot e.node a.0 a.1, refl) (subst (λ t. K t rest) (sym (scope_of _ _ _ _ a.2)) k)

module _ (g : Lookup) where
  faults_first : (d : Declared) (ty : CType) → field_type g d.field ≡ Ok ty → (o : Option Expr) (s : Scope) (x : Refusal) (rest : Moves) → initial g ty o s ≡ Err x → FirstFault g s (first_moves d o rest) x
  faults_first d ty e None s x rest h = never _ x h
  faults_first d ty e (Some v) s x rest h =
      value_bad g v (λ w. bind (ask (convert ty w)) (λ y. pure (Some y))) s x h (λ i. inl (faults (at g s) false v.spot v.node x i)) (λ f i j.
      inr (s, (f, found (at g s) false v.spot v.node f i, refl), ask_bad (convert ty (value_of f)) (λ y. pure (Some y)) s x j (λ i2. inl (ty, f, e, found (at g s) false v.spot v.node f i, i2)) (λ y i2 j2. never _ x j2)))

  faults_declare : (d : Declared) (s : Scope) (x : Refusal) (rest : Moves) → declare g d s ≡ Err x → FirstFault g s (More (Name d) (first_moves d d.init rest)) x
  faults_declare d s x rest h =
      broken (field_type g d.field) (λ ty. next (needs d.field.spot T2 (not (is_taken s d.field.name))) (λ _. bind (initial g ty d.init) (λ v. ending g d s v) (after g d ty s))) x h (λ i. inl (inl i)) (λ ty i j.
      broken (needs d.field.spot T2 (not (is_taken s d.field.name))) (λ _. bind (initial g ty d.init) (λ v. ending g d s v) (after g d ty s)) x j (λ i2. let b = is_it d.field.spot _ x i2 in inl (inr (ty, i, b.0, b.1))) (λ u i2 j2.
      inr (after g d ty s, (ty, i, not_taken _ _ _ i2, refl), walk_bad (initial g ty d.init) (λ v. ending g d s v) (after g d ty s) x j2 (λ i3. faults_first d ty i d.init (after g d ty s) x rest i3) (λ r i3 j3. never _ x j3))))

  pub faults_declares : (ds : List Declared) (s : Scope) (x : Refusal) (rest : Moves) → declare_all g ds s ≡ Err x → FirstFault g s (declared_moves ds rest) x
  faults_declares [] s x rest h = never _ x h
  faults_declares (d ∷ ds) s x rest h =
      walk_bad (declare g d) (λ y. bind (declare_all g ds) (λ ys. pure (y ∷ ys))) s x h (λ i. faults_declare d s x (declared_moves ds rest) i) (λ r i j.
      through_declare g (λ q us. FirstFault g q us x) (fault_carried g x) d s r (declared_moves ds rest) i (walk_bad (declare_all g ds) (λ ys. pure (r.0 ∷ ys)) r.1 x j (λ i2. faults_declares ds r.1 x rest i2) (λ r2 i2 j2. never _ x j2)))

faults_header : (g : Lookup) (i : ForInit) (s : Scope) (x : Refusal) (rest : Moves) → header g i s ≡ Err x → FirstFault g s (header_moves i rest) x
faults_header g begin.Nothing s x rest h = never _ x h
faults_header g (begin.Declare ds) s x rest h = walk_bad (declare_all g ds) (λ xs. pure (init.Declare xs)) s x h (λ i. faults_declares g ds s x rest i) (λ r i j. never _ x j)
faults_header g (begin.Express e) s x rest h = value_bad g e (λ v. pure (init.Express v)) s x h (λ i. inl (faults (at g s) false e.spot e.node x i)) (λ f i j. never _ x j)

module _ (g : Lookup) where
  mutual
    -- a statement that is typed carries back what holds of the moves after it
    pub through : (K : Scope → Moves → Type 0) → Carried g K → (loop : Bool) (p : Spot) (n : StmtNode) (s : Scope) (z : typed.TStmt × Scope) (rest : Moves) → stmt g loop p n s ≡ Ok z → K z.1 rest → K s (moves loop p n rest)
    through K c loop p (Express e) s z rest h k =
        let a = alone_then g e (λ v. made p (st.Express v)) s z h in
        c.more s z.1 (Alone e) rest (a.0, found (at g s) true e.spot e.node a.0 a.1, sym (scope_of _ _ _ _ a.2)) k
    through K c loop p (Block' u ss) s z rest h k =
        let a = scoped_then (stmts g loop ss) (λ xs. made p (st.Block xs)) s z h in
        c.inside s a.0.1 (moves_all loop ss Done) rest (through_all (λ t us. AllFine g t us a.0.1) (fine_carried g a.0.1) loop ss (deeper s) a.0 Done a.1 refl) (subst (λ t. K t rest) (sym (scope_of _ _ _ _ a.2)) k)
    through K c loop p (If' e u y n) s z rest h k =
        let a = value_then g e (λ v. bind (ask (public_integer p v.ty)) (λ _. bind (part g loop y) (λ a. bind (other g loop n) (λ b. made p (st.If v a b))))) s z h in
        let b = ask_then (public_integer p (value_of a.0).ty) (λ _. bind (part g loop y) (λ x. bind (other g loop n) (λ b. made p (st.If (value_of a.0) x b)))) s z a.2 in
        let d = walk_then (part g loop y) (λ x. bind (other g loop n) (λ b. made p (st.If (value_of a.0) x b))) s z b.2 in
        let l = walk_then (other g loop n) (λ b. made p (st.If (value_of a.0) d.0.0 b)) d.0.1 z d.2 in
        c.more s s (Value e) _ (a.0, found (at g s) false e.spot e.node a.0 a.1, refl)
        (c.more s s (Test p e) _ (a.0, found (at g s) false e.spot e.node a.0 a.1, b.1, refl)
        (through1 K c loop y s d.0 _ d.1 (through_other K c loop n d.0.1 l.0 rest l.1 (subst (λ t. K t rest) (sym (scope_of _ _ _ _ l.2)) k))))
    through K c loop p (While' e u y) s z rest h k =
        let a = value_then g e (λ v. bind (ask (public_integer p v.ty)) (λ _. bind (part g true y) (λ b. made p (st.While v b)))) s z h in
        let b = ask_then (public_integer p (value_of a.0).ty) (λ _. bind (part g true y) (λ b. made p (st.While (value_of a.0) b))) s z a.2 in
        let d = walk_then (part g true y) (λ b. made p (st.While (value_of a.0) b)) s z b.2 in
        c.more s s (Value e) _ (a.0, found (at g s) false e.spot e.node a.0 a.1, refl)
        (c.more s s (Test p e) _ (a.0, found (at g s) false e.spot e.node a.0 a.1, b.1, refl)
        (through1 K c true y s d.0 rest d.1 (subst (λ t. K t rest) (sym (scope_of _ _ _ _ d.2)) k)))
    through K c loop p Break s z rest h k =
        let a = ask_then (needs p T12 loop) (λ _. made p st.Break) s z h in
        c.more s z.1 (Jump p loop) rest (a.1, sym (scope_of _ _ _ _ a.2)) k
    through K c loop p Continue s z rest h k =
        let a = ask_then (needs p T12 loop) (λ _. made p st.Continue) s z h in
        c.more s z.1 (Jump p loop) rest (a.1, sym (scope_of _ _ _ _ a.2)) k
    through K c loop p Empty s z rest h k = subst (λ t. K t rest) (sym (scope_of _ _ _ _ h)) k
    through K c loop p (Declare ds) s z rest h k =
        let a = walk_then (declare_all g ds) (λ xs. made p (st.Declare xs)) s z h in
        through_declares g K c ds s a.0 rest a.1 (subst (λ t. K t rest) (sym (scope_of _ _ _ _ a.2)) k)
    through K c loop p (OblivIf' e u y n) s z rest h k =
        let a = value_then g e (λ v. bind (ask (needs p T3 (is_integer v.ty))) (λ _. bind (part g loop y) (λ a. bind (other g loop n) (λ b. made p (st.OblivIf (converted (Int KBool true) v) a b))))) s z h in
        let b = ask_then (needs p T3 (is_integer (value_of a.0).ty)) (λ _. bind (part g loop y) (λ x. bind (other g loop n) (λ b. made p (st.OblivIf (converted (Int KBool true) (value_of a.0)) x b)))) s z a.2 in
        let d = walk_then (part g loop y) (λ x. bind (other g loop n) (λ b. made p (st.OblivIf (converted (Int KBool true) (value_of a.0)) x b))) s z b.2 in
        let l = walk_then (other g loop n) (λ b. made p (st.OblivIf (converted (Int KBool true) (value_of a.0)) d.0.0 b)) d.0.1 z d.2 in
        c.more s s (Value e) _ (a.0, found (at g s) false e.spot e.node a.0 a.1, refl)
        (c.more s s (Hidden p e) _ (a.0, found (at g s) false e.spot e.node a.0 a.1, b.1, refl)
        (through1 K c loop y s d.0 _ d.1 (through_other K c loop n d.0.1 l.0 rest l.1 (subst (λ t. K t rest) (sym (scope_of _ _ _ _ l.2)) k))))
    through K c loop p (Always' x u y) s z rest h k =
        let w = whole_scoped (bind (name_mark x) (λ n. bind (part g loop y) (λ a. made p (st.Always n a)))) s z h in
        let m = mark_then x (λ n. bind (part g loop y) (λ a. made p (st.Always n a))) (deeper s) (Ok w.0) w.1 in
        let d = walk_then (part g loop y) (λ a. made p (st.Always (length s.slots) a)) (add x (Int KBool true) false (deeper s)) w.0 m in
        c.inside s w.0.1 (More (Mark x) (moves1 loop y Done)) rest
        (add x (Int KBool true) false (deeper s), refl, through1 (λ t us. AllFine g t us w.0.1) (fine_carried g w.0.1) loop y (add x (Int KBool true) false (deeper s)) d.0 Done d.1 (sym (scope_of _ _ _ _ d.2)))
        (subst (λ t. K t rest) (sym w.2) k)
    through K c loop p (For' i e v u y) s z rest h k =
        let w = whole_scoped (bind (header g i) (λ a. bind (optional_in g e) (λ b. bind (optional_in g v) (λ d. bind (ask (condition p b)) (λ _. bind (part g true y) (λ l. made p (st.For a b d l))))))) s z h in
        let q = walk_then (header g i) (λ a. bind (optional_in g e) (λ b. bind (optional_in g v) (λ d. bind (ask (condition p b)) (λ _. bind (part g true y) (λ l. made p (st.For a b d l)))))) (deeper s) w.0 w.1 in
        let b = optional_then g e (λ b. bind (optional_in g v) (λ d. bind (ask (condition p b)) (λ _. bind (part g true y) (λ l. made p (st.For q.0.0 b d l))))) q.0.1 w.0 q.2 in
        let d = optional_then g v (λ d. bind (ask (condition p b.0)) (λ _. bind (part g true y) (λ l. made p (st.For q.0.0 b.0 d l)))) q.0.1 w.0 b.2 in
        let t = ask_then (condition p b.0) (λ _. bind (part g true y) (λ l. made p (st.For q.0.0 b.0 d.0 l))) q.0.1 w.0 d.2 in
        let l = walk_then (part g true y) (λ l. made p (st.For q.0.0 b.0 d.0 l)) q.0.1 w.0 t.2 in
        c.inside s w.0.1 (header_moves i (optional_moves e (optional_moves v (More (Tested p e) (moves1 true y Done))))) rest
        (through_header g (λ r us. AllFine g r us w.0.1) (fine_carried g w.0.1) i (deeper s) q.0 _ q.1
        (through_optional g (λ r us. AllFine g r us w.0.1) (fine_carried g w.0.1) e q.0.1 b.0 _ b.1
        (through_optional g (λ r us. AllFine g r us w.0.1) (fine_carried g w.0.1) v q.0.1 d.0 _ d.1
        (q.0.1, tested_fine g q.0.1 p e b.0 t.0 b.1 t.1, through1 (λ r us. AllFine g r us w.0.1) (fine_carried g w.0.1) true y q.0.1 l.0 Done l.1 (sym (scope_of _ _ _ _ l.2))))))
        (subst (λ t. K t rest) (sym w.2) k)
    through K c loop p (Return v) s z rest h k =
        let a = optional_then g v (λ y. bind (ask (returned g p y)) (λ x. made p (st.Return x))) s z h in
        let b = ask_then (returned g p a.0) (λ x. made p (st.Return x)) s z a.2 in
        through_optional g K c v s a.0 _ a.1 (c.more s s (Gives p v) rest (gives_fine g s p v a.0 b.0 a.1 b.1) (subst (λ t. K t rest) (sym (scope_of _ _ _ _ b.2)) k))

    pub through1 : (K : Scope → Moves → Type 0) → Carried g K → (loop : Bool) (y : Row_of-Stmt 1) (s : Scope) (z : typed.TStmt × Scope) (rest : Moves) → part g loop y s ≡ Ok z → K z.1 rest → K s (moves1 loop y rest)
    through1 K c loop (more_of-Stmt p n ss) s z rest h k =
        let a = whole_scoped (stmt g loop p n) s z h in
        c.inside s a.0.1 (moves loop p n Done) rest
        (through (λ t us. AllFine g t us a.0.1) (fine_carried g a.0.1) loop p n (deeper s) a.0 Done a.1 refl)
        (subst (λ t. K t rest) (sym a.2) k)

    pub through_all : {m : _} (K : Scope → Moves → Type 0) → Carried g K → (loop : Bool) (ss : Row_of-Stmt m) (s : Scope) (z : List typed.TStmt × Scope) (rest : Moves) → stmts g loop ss s ≡ Ok z → K z.1 rest → K s (moves_all loop ss rest)
    through_all K c loop end_of-Stmt s z rest h k = subst (λ t. K t rest) (sym (scope_of _ _ _ _ h)) k
    through_all K c loop (more_of-Stmt p n ss) s z rest h k =
        let a = walk_then (stmt g loop p n) (λ x. bind (stmts g loop ss) (λ xs. pure (x ∷ xs))) s z h in
        let b = walk_then (stmts g loop ss) (λ xs. pure (a.0.0 ∷ xs)) a.0.1 z a.2 in
        through K c loop p n s a.0 (moves_all loop ss rest) a.1 (through_all K c loop ss a.0.1 b.0 rest b.1 (subst (λ t. K t rest) (sym (scope_of _ _ _ _ b.2)) k))

    pub through_other : (K : Scope → Moves → Type 0) → Carried g K → (loop : Bool) (o : Held-StmtNode-If-2) (s : Scope) (z : Option typed.TStmt × Scope) (rest : Moves) → other g loop o s ≡ Ok z → K z.1 rest → K s (moves_other loop o rest)
    through_other K c loop None' s z rest h k = subst (λ t. K t rest) (sym (scope_of _ _ _ _ h)) k
    through_other K c loop (Some' u y) s z rest h k =
        let a = walk_then (part g loop y) (λ x. pure (Some x)) s z h in
        through1 K c loop y s a.0 rest a.1 (subst (λ t. K t rest) (sym (scope_of _ _ _ _ a.2)) k)

  mutual
    -- the fault of a statement is the first of its moves
    pub faults_stmt : (loop : Bool) (p : Spot) (n : StmtNode) (s : Scope) (x : Refusal) (rest : Moves) → stmt g loop p n s ≡ Err x → FirstFault g s (moves loop p n rest) x
    faults_stmt loop p (Express e) s x rest h =
        alone_bad g e (λ v. made p (st.Express v)) s x h (λ i. inl (faults (at g s) true e.spot e.node x i)) (λ f i j. never _ x j)
    faults_stmt loop p (Block' u ss) s x rest h =
        scoped_bad (stmts g loop ss) (λ xs. made p (st.Block xs)) s x h (λ i. inl (faults_stmts loop ss (deeper s) x Done i)) (λ r i j. never _ x j)
    faults_stmt loop p (If' e u y n) s x rest h =
        value_bad g e (λ v. bind (ask (public_integer p v.ty)) (λ _. bind (part g loop y) (λ a. bind (other g loop n) (λ b. made p (st.If v a b))))) s x h (λ i. inl (faults (at g s) false e.spot e.node x i)) (λ f i j.
        inr (
          s,
          (f, found (at g s) false e.spot e.node f i, refl),
          ask_bad (public_integer p (value_of f).ty) (λ _. bind (part g loop y) (λ a. bind (other g loop n) (λ b. made p (st.If (value_of f) a b)))) s x j (λ i2. inl (f, found (at g s) false e.spot e.node f i, i2)) (λ t i2 j2.
              inr (
                s,
                (f, found (at g s) false e.spot e.node f i, i2, refl),
                walk_bad (part g loop y) (λ a. bind (other g loop n) (λ b. made p (st.If (value_of f) a b))) s x j2 (λ i3. faults_part loop y s x _ i3) (λ r i3 j3.
                    through1 (λ q us. FirstFault g q us x) (fault_carried g x) loop y s r _ i3 (walk_bad (other g loop n) (λ b. made p (st.If (value_of f) r.0 b)) r.1 x j3 (λ i4. faults_other loop n r.1 x rest i4) (λ r2 i4 j4. never _ x j4))),
              )),
        ))
    faults_stmt loop p (While' e u y) s x rest h =
        value_bad g e (λ v. bind (ask (public_integer p v.ty)) (λ _. bind (part g true y) (λ a. made p (st.While v a)))) s x h (λ i. inl (faults (at g s) false e.spot e.node x i)) (λ f i j.
        inr (
          s,
          (f, found (at g s) false e.spot e.node f i, refl),
          ask_bad (public_integer p (value_of f).ty) (λ _. bind (part g true y) (λ a. made p (st.While (value_of f) a))) s x j (λ i2. inl (f, found (at g s) false e.spot e.node f i, i2)) (λ t i2 j2.
              inr (s, (f, found (at g s) false e.spot e.node f i, i2, refl), walk_bad (part g true y) (λ a. made p (st.While (value_of f) a)) s x j2 (λ i3. faults_part true y s x rest i3) (λ r i3 j3. never _ x j3))),
        ))
    faults_stmt loop p Break s x rest h = ask_bad (needs p T12 loop) (λ _. made p st.Break) s x h (λ i. inl i) (λ a i j. never _ x j)
    faults_stmt loop p Continue s x rest h = ask_bad (needs p T12 loop) (λ _. made p st.Continue) s x h (λ i. inl i) (λ a i j. never _ x j)
    faults_stmt loop p Empty s x rest h = never _ x h
    faults_stmt loop p (Declare ds) s x rest h = walk_bad (declare_all g ds) (λ xs. made p (st.Declare xs)) s x h (λ i. faults_declares g ds s x rest i) (λ r i j. never _ x j)
    faults_stmt loop p (OblivIf' e u y n) s x rest h =
        value_bad g e (λ v. bind (ask (needs p T3 (is_integer v.ty))) (λ _. bind (part g loop y) (λ a. bind (other g loop n) (λ b. made p (st.OblivIf (converted (Int KBool true) v) a b))))) s x h (λ i. inl (faults (at g s) false e.spot e.node x i)) (λ f i j.
        inr (
          s,
          (f, found (at g s) false e.spot e.node f i, refl),
          ask_bad (needs p T3 (is_integer (value_of f).ty)) (λ _. bind (part g loop y) (λ a. bind (other g loop n) (λ b. made p (st.OblivIf (converted (Int KBool true) (value_of f)) a b)))) s x j (λ i2. inl (f, found (at g s) false e.spot e.node f i, i2)) (λ t i2 j2.
              inr (
                s,
                (f, found (at g s) false e.spot e.node f i, i2, refl),
                walk_bad (part g loop y) (λ a. bind (other g loop n) (λ b. made p (st.OblivIf (converted (Int KBool true) (value_of f)) a b))) s x j2 (λ i3. faults_part loop y s x _ i3) (λ r i3 j3.
                    through1 (λ q us. FirstFault g q us x) (fault_carried g x) loop y s r _ i3 (walk_bad (other g loop n) (λ b. made p (st.OblivIf (converted (Int KBool true) (value_of f)) r.0 b)) r.1 x j3 (λ i4. faults_other loop n r.1 x rest i4) (λ r2 i4 j4. never _ x j4))),
              )),
        ))
    faults_stmt loop p (Always' y u b) s x rest h =
        let i = bad_inside (bind (name_mark y) (λ n. bind (part g loop b) (λ a. made p (st.Always n a)))) s x h in
        let m = mark_then y (λ n. bind (part g loop b) (λ a. made p (st.Always n a))) (deeper s) (Err x) i in
        inl (inr (add y (Int KBool true) false (deeper s), refl, walk_bad (part g loop b) (λ a. made p (st.Always (length s.slots) a)) (add y (Int KBool true) false (deeper s)) x m (λ j. faults_part loop b (add y (Int KBool true) false (deeper s)) x Done j) (λ r j l. never _ x l)))
    faults_stmt loop p (For' i e v u y) s x rest h =
        let w = bad_inside (bind (header g i) (λ a. bind (optional_in g e) (λ b. bind (optional_in g v) (λ d. bind (ask (condition p b)) (λ _. bind (part g true y) (λ l. made p (st.For a b d l))))))) s x h in
        inl (walk_bad (header g i) (λ a. bind (optional_in g e) (λ b. bind (optional_in g v) (λ d. bind (ask (condition p b)) (λ _. bind (part g true y) (λ l. made p (st.For a b d l)))))) (deeper s) x w
        (λ j. faults_header g i (deeper s) x _ j) (λ q j k.
        through_header g (λ r us. FirstFault g r us x) (fault_carried g x) i (deeper s) q _ j (optional_bad g e (λ b. bind (optional_in g v) (λ d. bind (ask (condition p b)) (λ _. bind (part g true y) (λ l. made p (st.For q.0 b d l))))) q.1 x _ k (λ a. a) (λ b ob k2.
        through_optional g (λ r us. FirstFault g r us x) (fault_carried g x) e q.1 b _ ob (optional_bad g v (λ d. bind (ask (condition p b)) (λ _. bind (part g true y) (λ l. made p (st.For q.0 b d l)))) q.1 x _ k2 (λ a. a) (λ d od k3.
        through_optional g (λ r us. FirstFault g r us x) (fault_carried g x) v q.1 d _ od (ask_bad (condition p b) (λ _. bind (part g true y) (λ l. made p (st.For q.0 b d l))) q.1 x k3 (λ a. inl (tested_bad g q.1 p e b x ob a)) (λ t a k4.
        inr (q.1, tested_fine g q.1 p e b t ob a, walk_bad (part g true y) (λ l. made p (st.For q.0 b d l)) q.1 x k4 (λ l. faults_part true y q.1 x Done l) (λ r l n. never _ x n))))))))))
    faults_stmt loop p (Return v) s x rest h =
        optional_bad g v (λ y. bind (ask (returned g p y)) (λ z. made p (st.Return z))) s x _ h (λ a. a) (λ y o k.
        through_optional g (λ r us. FirstFault g r us x) (fault_carried g x) v s y _ o (ask_bad (returned g p y) (λ z. made p (st.Return z)) s x k (λ a. inl (gives_bad g s p v y x o a)) (λ z a n. never _ x n)))

    pub faults_part : (loop : Bool) (y : Row_of-Stmt 1) (s : Scope) (x : Refusal) (rest : Moves) → part g loop y s ≡ Err x → FirstFault g s (moves1 loop y rest) x
    faults_part loop (more_of-Stmt p n ss) s x rest h = inl (faults_stmt loop p n (deeper s) x Done (bad_inside (stmt g loop p n) s x h))

    pub faults_stmts : {m : _} (loop : Bool) (ss : Row_of-Stmt m) (s : Scope) (x : Refusal) (rest : Moves) → stmts g loop ss s ≡ Err x → FirstFault g s (moves_all loop ss rest) x
    faults_stmts loop end_of-Stmt s x rest h = never _ x h
    faults_stmts loop (more_of-Stmt p n ss) s x rest h =
        walk_bad (stmt g loop p n) (λ y. bind (stmts g loop ss) (λ ys. pure (y ∷ ys))) s x h (λ i. faults_stmt loop p n s x (moves_all loop ss rest) i) (λ r i j.
        through (λ q us. FirstFault g q us x) (fault_carried g x) loop p n s r (moves_all loop ss rest) i (walk_bad (stmts g loop ss) (λ ys. pure (r.0 ∷ ys)) r.1 x j (λ i2. faults_stmts loop ss r.1 x rest i2) (λ r2 i2 j2. never _ x j2)))

    pub faults_other : (loop : Bool) (o : Held-StmtNode-If-2) (s : Scope) (x : Refusal) (rest : Moves) → other g loop o s ≡ Err x → FirstFault g s (moves_other loop o rest) x
    faults_other loop None' s x rest h = never _ x h
    faults_other loop (Some' u y) s x rest h = walk_bad (part g loop y) (λ z. pure (Some z)) s x h (λ i. faults_part loop y s x rest i) (λ r i j. never _ x j)
