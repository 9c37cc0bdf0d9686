-- The code of statements: where it comes to, and how scopes end.
use Rattle.std.proofs.Common.{ℕ, zero, suc, ◌+◌, ◌-◌, ◌≡◌, ◌≤◌, List, [], ◌∷◌, ◌++◌, length, Option, Some, None, refl, sym, ap, ◌∙◌, subst, arith, Bool, true, false, length-append, eq-eqb}
use Rattle.std.specs.Prelude.{pos, slice_get, nat_eq, drop, if◌then◌else◌}
use Rattle.oc_values.specs.declared.integers.IntKind.{IntKind}
use Rattle.oc_values.specs.declared.integers.IntKind.TheVariants.{Bool as KBool, I8, U8, I16, U16, I32, U32, I64, U64}
use Rattle.oc_cells.specs.declared.memory.Address.TheVariants.{Null, At}
use Rattle.oc_cells.specs.declared.memory.Block.{Block}
use Rattle.oc_cells.specs.declared.types.CType.{CType, Int as CInt, Pointer' as CPointer', Array' as CArray', Struct, Nothing as CNothing}
use Rattle.oc_cells.specs.declared.types.SlotType.{SlotType}
use Rattle.oc_cells.specs.Memory.{ended}
use Rattle.oc_cells.specs.Layout.{leaves, has_size}
use Rattle.oc_source.specs.declared.spot.Spot.{Spot}
use Rattle.oc_typed.specs.declared.typed.TDeclared.{TDeclared}
use Rattle.oc_walk.specs.declared.run.Flow.TheVariants.{Next, Break as Broke, Continue as Continued, Back}
use Rattle.oc_walk.specs.declared.run.Named.{Named}
use Rattle.oc_walk.specs.declared.run.Value.TheVariants.{Int, Pointer, Hidden, Nothing}
use Rattle.oc_walk.specs.Domain.{Domain, Parts, AllOf}
use Rattle.oc_walk.specs.Walking.{Odd, Res, Go, Stop, Act, after, bind, pure, odd, choose, stilled, still, makes, step, spent, enter, shut, close, leave, scoped, finish}
use Rattle.oc_walk.specs.Cells.{V, M, S, A, nought, puts, opens, typed_slot}
use Rattle.oc_walk.specs.Statements.{F, proceed, parted}
use Rattle.oc_walk.specs.Walk.{zero_value, params, nowhere}
use Rattle.oc_code.specs.declared.code.Instr.TheVariants.{Turn, Step}
use Rattle.oc_code.specs.Machine.{Setup, Here, Conf, at, Caller, Apart, carried, goes_back, landed, here_of, within, when_of, marks, effect, next, and_then, exec}
use Rattle.oc_code.specs.Lower.{line, named, leave_code, end_code}
use Rattle.code_runs.proofs.Runs.{HasAt, Comes, stays, comes_on, goes_one, Runs, went, stops, before, ends_at, stands}

abbrev pub slots : List Named → List ℕ
slots [] = []
slots (e ∷ es) = e.slot ∷ slots es

pub length-slots : (es : List Named) → length (slots es) ≡ length es
length-slots [] = refl
length-slots (e ∷ es) = ap suc (length-slots es)

pub shut_all : {H : Type 0} (n : ℕ) (es : List Named) (bs : List (Block H)) → shut (length (drop n es)) (drop n es) (shut n es bs) ≡ shut (length es) es bs
shut_all zero es bs = refl
shut_all (suc n) [] bs = refl
shut_all (suc n) (e ∷ es) bs = shut_all n es (ended bs e.block)

-- the slots that are left when those of a scope are gone
pub slots_left : (ds xs : List ℕ) (es : List Named) → slots es ≡ ds ++ xs → slots (drop (length ds) es) ≡ xs
slots_left [] xs es e = e
slots_left (d ∷ ds) xs [] e = (cc)
slots_left (d ∷ ds) xs (f ∷ es) e = let q : slots es ≡ ds ++ xs = cc in slots_left ds xs es q

pub how_many : (ds xs : List ℕ) (es : List Named) → slots es ≡ ds ++ xs → length es - length xs ≡ length ds
how_many ds xs es e =
    let a = sym (length-slots es) ∙ ap length e ∙ length-append ds xs in
    omega arith

pub named_on : (ds : List TDeclared) (ys xs : List ℕ) → named ds (ys ++ xs) ≡ named ds ys ++ xs
named_on [] ys xs = refl
named_on (d ∷ ds) ys xs = named_on ds (d.slot ∷ ys) xs

pub eq_self : (n : ℕ) → nat_eq n n ≡ true
eq_self n = eq-eqb n n refl

module _ (D : Domain) (g : Setup) where
  pub finish_close : (n : ℕ) (outer : List Named) (s : S D) → finish outer (close n s) ≡ finish outer s
  finish_close n outer s =
      ap (λ bs. record { mem = record s.mem { blocks = bs }; entered = outer; steps = s.steps }) (shut_all n s.entered s.mem.blocks)

  -- where the code comes to at each end of a statement: next, a break, a continue, a return
  abbrev pub lands : Caller D → List (Caller D) → (S D → Conf D) → (S D → Conf D) → (S D → Conf D) → F D → S D → Conf D
  lands c cs nx br ct Next t = nx t
  lands c cs nx br ct Broke t = br t
  lands c cs nx br ct Continued t = ct t
  lands c cs nx br ct (Back v) t = landed D c cs v t

  abbrev pub Ok : (N B : S D → Type 0) → F D → S D → Type 0
  Ok N B Next t = N t
  Ok N B Broke t = B t
  Ok N B Continued t = B t
  Ok N B (Back v) t = Unit {0}

  abbrev pub Slots : List ℕ → S D → Type 0
  Slots xs t = slots t.entered ≡ xs

  -- down to so many entered slots
  abbrev pub down : ℕ → S D → S D
  down k t = close (length t.entered - k) t

  -- the code goes on where a statement goes on
  pub next_to : {N B N' B' : S D → Type 0} {n m : ℕ} {c : Conf D} (k : Caller D) (cs : List (Caller D)) (nx nx' br ct : S D → Conf D) {r : Res (S D) (F D)} → n ≤ m → ((t : S D) → t.steps ≤ n → N t → Comes D g (nx t) (nx' t) × N' t) → ((t : S D) → B t → B' t) → Runs D g (Ok N B) n c (lands k cs nx br ct) r → Runs D g (Ok N' B') m c (lands k cs nx' br ct) r
  next_to k cs nx nx' br ct le f b (went {a = Next} {t = t} w l p) = let x = f t l p in went (comes_on D g w x.0) (omega (arith, le, l)) x.1
  next_to k cs nx nx' br ct le f b (went {a = Broke} {t = t} w l p) = went w (omega (arith, le, l)) (b t p)
  next_to k cs nx nx' br ct le f b (went {a = Continued} {t = t} w l p) = went w (omega (arith, le, l)) (b t p)
  next_to k cs nx nx' br ct le f b (went {a = Back v} {t = t} w l p) = went w (omega (arith, le, l)) tt
  next_to k cs nx nx' br ct le f b (stops i e) = stops i e

  -- one statement after another
  pub then_next : {N B Q : S D → Type 0} {n : ℕ} {c : Conf D} (k : Caller D) (cs : List (Caller D)) (nx nx' br ct : S D → Conf D) (m : A D (F D)) {r : Res (S D) (F D)} → Runs D g (Ok N B) n c (lands k cs nx br ct) r → ((t : S D) → t.steps ≤ n → N t → Runs D g (Ok Q B) n (nx t) (lands k cs nx' br ct) (m t)) → Runs D g (Ok Q B) n c (lands k cs nx' br ct) (after r (λ f. proceed D f m))
  then_next k cs nx nx' br ct m (went {a = Next} {t = t} w l p) f = before D g w (f t l p)
  then_next k cs nx nx' br ct m (went {a = Broke} {t = t} w l p) f = went w l p
  then_next k cs nx nx' br ct m (went {a = Continued} {t = t} w l p) f = went w l p
  then_next k cs nx nx' br ct m (went {a = Back v} {t = t} w l p) f = went w l tt
  then_next k cs nx nx' br ct m (stops i e) f = stops i e

  -- a scope's end
  pub scope_runs : {N B : S D → Type 0} {n : ℕ} {c : Conf D} (k : Caller D) (cs : List (Caller D)) (nx br ct : S D → Conf D) (j : ℕ) {r : Res (S D) (F D)} → Runs D g (Ok (λ t. N (down j t)) (λ t. B (down j t))) n c (lands k cs (λ t. nx (down j t)) (λ t. br (down j t)) (λ t. ct (down j t))) r → Runs D g (Ok N B) n c (lands k cs nx br ct) (leave j r)
  scope_runs k cs nx br ct j (went {a = Next} {t = t} f l p) = went f l p
  scope_runs k cs nx br ct j (went {a = Broke} {t = t} f l p) = went f l p
  scope_runs k cs nx br ct j (went {a = Continued} {t = t} f l p) = went f l p
  scope_runs {c = c} k cs nx br ct j (went {a = Back v} {t = t} f l p) =
      went (subst (λ u. Comes D g c (at D (here_of D k cs) k.place (v ∷ k.stack) u)) (sym (finish_close (length t.entered - j) k.entered t)) f) l tt
  scope_runs k cs nx br ct j (stops i e) = stops i e

  pub scoped_runs : {N B : S D → Type 0} {n : ℕ} {c : Conf D} (k : Caller D) (cs : List (Caller D)) (nx br ct : S D → Conf D) (xs : List ℕ) (m : A D (F D)) (s : S D) → slots s.entered ≡ xs → Runs D g (Ok (λ t. N (down (length xs) t)) (λ t. B (down (length xs) t))) n c (lands k cs (λ t. nx (down (length xs) t)) (λ t. br (down (length xs) t)) (λ t. ct (down (length xs) t))) (m s) → Runs D g (Ok N B) n c (lands k cs nx br ct) (scoped m s)
  scoped_runs {N} {B} {n} {c} k cs nx br ct xs m s same r =
      let e : length xs ≡ length s.entered = sym (ap length same) ∙ length-slots s.entered in
      subst (λ j. Runs D g (Ok N B) n c (lands k cs nx br ct) (leave j (m s))) e (scope_runs k cs nx br ct (length xs) r)

  abbrev state_of : M D → List Named → ℕ → S D
  state_of m es q = record { mem = m; entered = es; steps = q }

  -- the instructions that end a scope
  leaves_at : (h : Here D) (us : List (V D)) (p : Spot) (ds xs : List ℕ) (pc : ℕ) (m : M D) (es : List Named) (q : ℕ) → HasAt h.code pc (leave_code p ds) → slots es ≡ ds ++ xs → Comes D g (at D h pc us (state_of m es q)) (at D h (pc + length (leave_code p ds)) us (close (length ds) (state_of m es q)))
  leaves_at h us p [] xs pc m es q has e = let z : pc ≡ pc + 0 = omega arith in subst (λ i. Comes D g (at D h pc us (state_of m es q)) (at D h i us (state_of m es q))) z (stays D g _)
  leaves_at h us p (d ∷ ds) xs pc m [] q has e = (cc)
  leaves_at h us p (d ∷ ds) xs pc m (f ∷ es) q has e =
      let s : S D = state_of m (f ∷ es) q in
      let same : f.slot ≡ d = cc in
      let more : slots es ≡ ds ++ xs = cc in
      let z : pc + 1 + length (leave_code p ds) ≡ pc + length (leave_code p (d ∷ ds)) = omega arith in
      let one : Comes D g (at D h pc us s) (at D h (pc + 1) us (close 1 s)) = goes_one D g (stands D g h pc us s _ has.0 ∙ ap (λ b. carried D h (pc + 1) (after (if b then Go tt (close 1 s) else Stop (Odd p) s) (λ _. pure us))) (eq-eqb f.slot d same)) in
      comes_on D g one (subst (λ i. Comes D g (at D h (pc + 1) us (close 1 s)) (at D h i us (close (suc (length ds)) s))) z (leaves_at h us p ds xs (pc + 1) (record m { blocks = shut 1 (f ∷ es) m.blocks }) es q has.1 more))

  -- they end those above the slots that stay
  pub leaves_down : (h : Here D) (us : List (V D)) (p : Spot) (ds xs : List ℕ) (pc : ℕ) (s : S D) → HasAt h.code pc (leave_code p ds) → slots s.entered ≡ ds ++ xs → (Comes D g (at D h pc us s) (at D h (pc + length (leave_code p ds)) us (down (length xs) s))) × (slots (down (length xs) s).entered ≡ xs)
  leaves_down h us p ds xs pc s has e =
      let n : length ds ≡ length s.entered - length xs = sym (how_many ds xs s.entered e) in
      (subst (λ i. Comes D g (at D h pc us s) (at D h (pc + length (leave_code p ds)) us (close i s))) n (leaves_at h us p ds xs pc s.mem s.entered s.steps has e), subst (λ i. slots (drop i s.entered) ≡ xs) n (slots_left ds xs s.entered e))

  -- the same slots are left where they are ended by numbers
  pub left_down : (ds xs : List ℕ) (t : S D) → slots t.entered ≡ ds ++ xs → slots (down (length xs) t).entered ≡ xs
  left_down ds xs t e = subst (λ i. slots (drop i t.entered) ≡ xs) (sym (how_many ds xs t.entered e)) (slots_left ds xs t.entered e)

  pub moved : (h : Here D) (us : List (V D)) (t : S D) (p q : ℕ) → p ≡ q → Comes D g (at D h p us t) (at D h q us t)
  moved h us t p q e = subst (λ i. Comes D g (at D h p us t) (at D h i us t)) e (stays D g _)

  -- what opens a variable
  abbrev pub Opened : ℕ → S D → Res (S D) ℕ → Type 0
  Opened k s (Go b t) = (t.entered ≡ record { slot = k; block = b } ∷ s.entered) × (t.steps ≡ s.steps)
  Opened k s (Stop w t) = Unit {0}

  made_so : (k : ℕ) (s : S D) (r : Res (M D) ℕ) → Opened k s (after (stilled s r) (λ b. bind (enter k b) (λ _. pure b)))
  made_so k s (Go b m) = (refl, refl)
  made_so k s (Stop w m) = tt

  opened_at : (k : ℕ) (p : Spot) (s : S D) (b : Bool) (m : Act (M D) ℕ) → Opened k s (choose b (bind (still m) (λ b. bind (enter k b) (λ _. pure b))) (odd p) s)
  opened_at k p s true m = made_so k s (m s.mem)
  opened_at k p s false m = tt

  pub opens_so : (p : Spot) (lss : List (List CType)) (u : CType) (k : ℕ) (s : S D) → Opened k s (opens D p lss u k s)
  opens_so p lss u k s = opened_at k p s (has_size (leaves lss u)) (makes (nought D) p false (leaves lss u) (pos 1))

  -- what marks a variable under `~obliv`
  abbrev pub Marked : ℕ → S D → Res (S D) (Unit {0}) → Type 0
  Marked k s (Go a t) = (slots t.entered ≡ k ∷ slots s.entered) × (t.steps ≡ s.steps)
  Marked k s (Stop w t) = Unit {0}

  put_so : (k : ℕ) (b : ℕ) (s t : S D) → t.entered ≡ record { slot = k; block = b } ∷ s.entered → t.steps ≡ s.steps → (r : Res (M D) (V D)) → Marked k s (after (stilled t r) (λ _. pure tt))
  put_so k b s t e f (Go v m) = (ap slots e, f)
  put_so k b s t e f (Stop w m) = tt

  then_put : (k : ℕ) (s : S D) (m : ℕ → Act (M D) (V D)) (r : Res (S D) ℕ) → Opened k s r → Marked k s (after r (λ b. bind (still (m b)) (λ _. pure tt)))
  then_put k s m (Go b t) o = put_so k b s t o.0 o.1 (m b t.mem)
  then_put k s m (Stop w t) o = tt

  marks_at : (p : Spot) (lss : List (List CType)) (k : ℕ) (e : D.Enable) (s : S D) (o : Option SlotType) → Marked k s (typed_slot D p o (λ t. bind (opens D p lss t.ty k) (λ b. bind (still (puts D p t.ty (At b 0) (Hidden KBool (D.held e)))) (λ _. pure tt))) s)
  marks_at p lss k e s None = tt
  marks_at p lss k e s (Some t) = then_put k s (λ b. puts D p t.ty (At b 0) (Hidden KBool (D.held e))) (opens D p lss t.ty k s) (opens_so p lss t.ty k s)

  pub marks_so : (p : Spot) (lss : List (List CType)) (ss : List SlotType) (k : ℕ) (e : D.Enable) (s : S D) → Marked k s (marks D p lss ss k e s)
  marks_so p lss ss k e s = marks_at p lss k e s (slice_get ss k)

  -- and what follows it
  still_then : {T : Type 0} (t : S D) (r : Res (M D) (V D)) (k : A D T) → after (stilled t r) (λ _. k) ≡ after (after (stilled t r) (λ _. pure (tt {0}))) (λ _. k)
  still_then t (Go v m) k = refl
  still_then t (Stop w m) k = refl

  put_then : {T : Type 0} (m : ℕ → Act (M D) (V D)) (k : A D T) (r : Res (S D) ℕ) → after r (λ b. bind (still (m b)) (λ _. k)) ≡ after (after r (λ b. bind (still (m b)) (λ _. pure (tt {0})))) (λ _. k)
  put_then m k (Go b t) = still_then t (m b t.mem) k
  put_then m k (Stop w t) = refl

  marks_then_at : {T : Type 0} (p : Spot) (lss : List (List CType)) (k : ℕ) (e : D.Enable) (s : S D) (m : A D T) (o : Option SlotType) → typed_slot D p o (λ t. bind (opens D p lss t.ty k) (λ b. bind (still (puts D p t.ty (At b 0) (Hidden KBool (D.held e)))) (λ _. m))) s ≡ after (typed_slot D p o (λ t. bind (opens D p lss t.ty k) (λ b. bind (still (puts D p t.ty (At b 0) (Hidden KBool (D.held e)))) (λ _. pure (tt {0})))) s) (λ _. m)
  marks_then_at p lss k e s m None = refl
  marks_then_at p lss k e s m (Some t) = put_then (λ b. puts D p t.ty (At b 0) (Hidden KBool (D.held e))) m (opens D p lss t.ty k s)

  pub marks_then : {T : Type 0} (p : Spot) (lss : List (List CType)) (ss : List SlotType) (k : ℕ) (e : D.Enable) (s : S D) (m : A D T) → typed_slot D p (slice_get ss k) (λ t. bind (opens D p lss t.ty k) (λ b. bind (still (puts D p t.ty (At b 0) (Hidden KBool (D.held e)))) (λ _. m))) s ≡ after (marks D p lss ss k e s) (λ _. m)
  marks_then p lss ss k e s m = marks_then_at p lss k e s m (slice_get ss k)

  -- parameters take no step
  abbrev pub Steady : S D → Res (S D) (Unit {0}) → Type 0
  Steady s (Go a t) = t.steps ≡ s.steps
  Steady s (Stop w t) = Unit {0}

  steady_on : (s t : S D) → t.steps ≡ s.steps → (r : Res (S D) (Unit {0})) → Steady t r → Steady s r
  steady_on s t e (Go a u) q = q ∙ e
  steady_on s t e (Stop w u) q = tt

  steady_put : (s t : S D) → t.steps ≡ s.steps → (r : Res (M D) (V D)) (k : A D (Unit {0})) → ((u : S D) → Steady u (k u)) → Steady s (after (stilled t r) (λ _. k))
  steady_put s t e (Go v m) k f = steady_on s (record t { mem = m }) e (k (record t { mem = m })) (f (record t { mem = m }))
  steady_put s t e (Stop w m) k f = tt

  steady_open : (i : ℕ) (s : S D) (r : Res (S D) ℕ) → Opened i s r → (m : ℕ → Act (M D) (V D)) (k : A D (Unit {0})) → ((u : S D) → Steady u (k u)) → Steady s (after r (λ b. bind (still (m b)) (λ _. k)))
  steady_open i s (Go b t) o m k f = steady_put s t o.1 (m b t.mem) k f
  steady_open i s (Stop w t) o m k f = tt

  steady_slot : (p : Spot) (lss : List (List CType)) (i : ℕ) (v : V D) (k : A D (Unit {0})) → ((u : S D) → Steady u (k u)) → (s : S D) (o : Option SlotType) → Steady s (typed_slot D p o (λ t. bind (opens D p lss t.ty i) (λ b. bind (still (puts D p t.ty (At b 0) v)) (λ _. k))) s)
  steady_slot p lss i v k f s None = tt
  steady_slot p lss i v k f s (Some t) = steady_open i s (opens D p lss t.ty i s) (opens_so p lss t.ty i s) (λ b. puts D p t.ty (At b 0) v) k f

  pub params_steady : (p : Spot) (lss : List (List CType)) (ss : List SlotType) (vs : List (V D)) (i : ℕ) (s : S D) → Steady s (params D p lss ss i vs s)
  params_steady p lss ss [] i s = refl
  params_steady p lss ss (v ∷ vs) i s = steady_slot p lss i v (params D p lss ss (suc i) vs) (λ u. params_steady p lss ss vs (suc i) u) s (slice_get ss i)

  -- the end of a call that gives the zero value of its result
  turn_zero : (k : IntKind) (r : _) (ss : List SlotType) (p : Spot) (e : D.Enable) (us : List (V D)) (s : S D) → effect D r ss p e (Turn k k true) (Int k (pos 0) ∷ us) s ≡ Go (Hidden k (D.known k (pos 0)) ∷ us) s
  turn_zero KBool r ss p e us s = refl
  turn_zero I8 r ss p e us s = refl
  turn_zero U8 r ss p e us s = refl
  turn_zero I16 r ss p e us s = refl
  turn_zero U16 r ss p e us s = refl
  turn_zero I32 r ss p e us s = refl
  turn_zero U32 r ss p e us s = refl
  turn_zero I64 r ss p e us s = refl
  turn_zero U64 r ss p e us s = refl

  pub end_comes : (u : CType) (h : Here D) (c : Caller D) (cs : List (Caller D)) → h.callers ≡ c ∷ cs → (pc : ℕ) (s : S D) → HasAt h.code pc (end_code u) → Comes D g (at D h pc [] s) (landed D c cs (zero_value D u) s)
  end_comes (CInt k false) h c cs callers pc s has =
      comes_on D g (goes_one D g (stands D g h pc [] s _ has.0)) (goes_one D g (stands D g h (pc + 1) (Int k (pos 0) ∷ []) s _ has.1.0 ∙ ap (λ l. goes_back D nowhere l (Int k (pos 0)) s) callers))
  end_comes (CInt k true) h c cs callers pc s has =
      comes_on D g (goes_one D g (stands D g h pc [] s _ has.0)) (comes_on D g
      (goes_one D g (stands D g h (pc + 1) (Int k (pos 0) ∷ []) s _ has.1.0 ∙ ap (λ r. carried D h (pc + 1 + 1) r) (turn_zero k g.run h.slots nowhere h.enable [] s)))
      (goes_one D g (stands D g h (pc + 1 + 1) (Hidden k (D.known k (pos 0)) ∷ []) s _ has.1.1.0 ∙ ap (λ l. goes_back D nowhere l (Hidden k (D.known k (pos 0))) s) callers)))
  end_comes (CPointer' f y t) h c cs callers pc s has =
      comes_on D g (goes_one D g (stands D g h pc [] s _ has.0)) (goes_one D g (stands D g h (pc + 1) (Pointer Null ∷ []) s _ has.1.0 ∙ ap (λ l. goes_back D nowhere l (Pointer Null) s) callers))
  end_comes (CArray' k y t) h c cs callers pc s has = goes_one D g (stands D g h pc [] s _ has.0 ∙ ap (λ l. goes_back D nowhere l Nothing s) callers)
  end_comes (Struct k) h c cs callers pc s has = goes_one D g (stands D g h pc [] s _ has.0 ∙ ap (λ l. goes_back D nowhere l Nothing s) callers)
  end_comes CNothing h c cs callers pc s has = goes_one D g (stands D g h pc [] s _ has.0 ∙ ap (λ l. goes_back D nowhere l Nothing s) callers)

  -- a step of the budget, and what follows it
  spent_runs : {T : Type 0} {P : T → S D → Type 0} {n : ℕ} (h : Here D) (pc : ℕ) (us : List (V D)) (s : S D) (out : T → S D → Conf D) (k : A D T) (q : ℕ) → s.steps ≡ q → next D g (at D h pc us s) ≡ carried D h (pc + 1) (after (spent q s) (λ _. pure us)) → ((i : ℕ) → s.steps ≡ suc i → Runs D g P n (at D h (pc + 1) us (record s { steps = i })) out (k (record s { steps = i }))) → Runs D g P n (at D h pc us s) out (after (spent q s) (λ _. k))
  spent_runs h pc us s out k zero e does f = stops 1 (ap (λ o. and_then D o (exec D g 0)) does)
  spent_runs h pc us s out k (suc i) e does f = before D g (goes_one D g does) (f i e)

  pub step_runs : {T : Type 0} {P : T → S D → Type 0} {n : ℕ} (h : Here D) (p : Spot) (pc : ℕ) (us : List (V D)) (s : S D) (out : T → S D → Conf D) (k : A D T) → slice_get h.code pc ≡ Some (line p Step) → ((i : ℕ) → s.steps ≡ suc i → Runs D g P n (at D h (pc + 1) us (record s { steps = i })) out (k (record s { steps = i }))) → Runs D g P n (at D h pc us s) out (bind step (λ _. k) s)
  step_runs h p pc us s out k has f = spent_runs h pc us s out k s.steps refl (stands D g h pc us s _ has) f

  -- the start of an `obliv if`
  pub when_at : {T : Type 0} {P : T → S D → Type 0} {n : ℕ} {c : Conf D} (h : Here D) (pc : ℕ) (s : S D) (out : T → S D → Conf D) (k : D.Hidden → A D T) (r : Res (M D) D.Hidden) → next D g c ≡ when_of D h pc [] (stilled s r) → ((b : D.Hidden) (m : M D) → Runs D g P n (at D (within D h (D.first h.enable b m.own).0 (Apart h.enable b (D.first h.enable b m.own).0 ∷ h.aside)) pc [] (record s { mem = record m { own = (D.first h.enable b m.own).1 } })) out (k b (record s { mem = m }))) → Runs D g P n c out (after (stilled s r) k)
  when_at h pc s out k (Go b m) does f = before D g (goes_one D g does) (f b m)
  when_at h pc s out k (Stop w m) does f = stops 1 (ap (λ o. and_then D o (exec D g 0)) does)

  -- all parts are walked
  pub parted_all : {P : F D → S D → Type 0} {n : ℕ} {c : Conf D} {out : F D → S D → Conf D} (q : Parts) (m k l : A D (F D)) (s : S D) → q ≡ AllOf → Runs D g P n c out (m s) → Runs D g P n c out (parted D q m k l s)
  parted_all {P} {n} {c} {out} q m k l s e r = subst (λ q. Runs D g P n c out (parted D q m k l s)) (sym e) r

  -- with more steps left than it needs
  pub loosely : {T : Type 0} {P : T → S D → Type 0} {n m : ℕ} {c : Conf D} {out : T → S D → Conf D} {r : Res (S D) T} → n ≤ m → Runs D g P n c out r → Runs D g P m c out r
  loosely le r = ends_at D g le (λ a t l p. (stays D g _, p)) r
