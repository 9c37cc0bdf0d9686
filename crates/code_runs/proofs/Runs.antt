-- The lowered code does what the tree does: how stretches of code are joined.
use Rattle.std.proofs.Common.{ℕ, suc, ◌+◌, ◌≡◌, ◌<◌, ◌≤◌, List, [], ◌∷◌, ◌++◌, length, Some, refl, sym, ap, ◌∙◌, subst, append_assoc, arith, Bool, true, false, length-append}
use Rattle.std.specs.Prelude.{slice_get}
use Rattle.std.proofs.Math.Seq.{get_or-append_seam}
use Rattle.std.proofs.lemmas.Option.{slice_get-get_or}
use Rattle.oc_walk.specs.declared.run.Named.{Named}
use Rattle.oc_source.specs.declared.spot.Spot.{Spot}
use Rattle.oc_walk.specs.Domain.{Domain}
use Rattle.oc_walk.specs.Walking.{Halt, Res, Go, Stop, Act, after, bind, pure, odd, choose, stilled, still}
use Rattle.oc_walk.specs.Cells.{V, M, S, A}
use Rattle.oc_walk.specs.Operations.{tests}
use Rattle.oc_code.specs.declared.code.Instr.TheVariants.{Jump, JumpZero}
use Rattle.oc_code.specs.declared.code.Line.{Line}
use Rattle.oc_code.specs.Machine.{Setup, Here, Conf, at, On, carried, jumped, follow, next, Finished, and_then, exec}
use Rattle.oc_code.specs.Lower.{line, if_code}

-- the instructions stand in the code at this place
abbrev pub HasAt : List Line → ℕ → List Line → Type 0
HasAt code pc [] = Unit {0}
HasAt code pc (i ∷ is) = (slice_get code pc ≡ Some i) × HasAt code (pc + 1) is

pub has_front : (code : List Line) (pc : ℕ) (a b : List Line) → HasAt code pc (a ++ b) → HasAt code pc a
has_front code pc [] b h = tt
has_front code pc (i ∷ a) b h = (h.0, has_front code (pc + 1) a b h.1)

pub has_back : (code : List Line) (pc : ℕ) (a b : List Line) → HasAt code pc (a ++ b) → HasAt code (pc + length a) b
has_back code pc [] b h = let e : pc ≡ pc + 0 = omega arith in subst (λ n. HasAt code n b) e h
has_back code pc (i ∷ a) b h =
    let e : pc + 1 + length a ≡ pc + length (i ∷ a) = omega arith in
    subst (λ n. HasAt code n b) e (has_back code (pc + 1) a b h.1)

pub has_all : (is pre : List Line) → HasAt (pre ++ is) (length pre) is
has_all [] pre = tt
has_all (i ∷ is) pre =
    let inside : length pre < length (pre ++ i ∷ is) = omega (arith, length-append pre (i ∷ is)) in
    let here = slice_get-get_or (pre ++ i ∷ is) (length pre) i inside ∙ ap Some (get_or-append_seam pre i is i) in
    let n : length (pre ++ i ∷ []) ≡ length pre + 1 = omega (arith, length-append pre (i ∷ [])) in
    let rest = has_all is (pre ++ i ∷ []) in
    let rest' = subst (λ l. HasAt l (length (pre ++ i ∷ [])) is) (append_assoc pre (i ∷ []) is) rest in
    (here, subst (λ m. HasAt (pre ++ i ∷ is) m is) n rest')

module _ (D : Domain) (g : Setup) where
  -- the machine comes from c to c', in some number of instructions
  pub record Comes (c c' : Conf D) : Type 0 where
    pub by : (k : ℕ) → (j : ℕ) × (k ≤ j) × (exec D g j c ≡ exec D g k c')

  pub stays : (c : Conf D) → Comes c c
  stays c = record { by = λ k. (k, omega arith, refl) }

  pub comes_on : {a b c : Conf D} → Comes a b → Comes b c → Comes a c
  comes_on f g = record { by = λ k. let y = g.by k in let x = f.by y.0 in (x.0, omega (arith, x.1, y.1), x.2 ∙ y.2) }

  -- one instruction
  pub goes_one : {c : Conf D} {c' : Conf D} → next D g c ≡ On c' → Comes c c'
  goes_one h = record { by = λ k. (suc k, omega arith, ap (λ o. and_then D o (exec D g k)) h) }

  -- from c, with at most n steps left, the code does what a walk did that ended so; out says where it comes to
  pub data Runs {T : Type 0} (P : T → S D → Type 0) (n : ℕ) (c : Conf D) (out : T → S D → Conf D) : Res (S D) T → Type 0 where
    went : {a : T} {t : S D} → Comes c (out a t) → t.steps ≤ n → P a t → Runs P n c out (Go a t)
    stops : {w : Halt} {t : S D} (j : ℕ) → exec D g j c ≡ Finished (Stop w t) → Runs P n c out (Stop w t)

  pub before : {T : Type 0} {P : T → S D → Type 0} {n : ℕ} {c c' : Conf D} {out : T → S D → Conf D} {r : Res (S D) T} → Comes c c' → Runs P n c' out r → Runs P n c out r
  before f (went g le p) = went (comes_on f g) le p
  before f (stops j e) = let x = f.by j in stops x.0 (x.2 ∙ e)

  -- one action after another
  pub seq : {T U : Type 0} {P : T → S D → Type 0} {Q : U → S D → Type 0} {n : ℕ} {c : Conf D} {mid : T → S D → Conf D} {out : U → S D → Conf D} {k : T → A D U} {r : Res (S D) T} → Runs P n c mid r → ((a : T) (t : S D) → t.steps ≤ n → P a t → Runs Q n (mid a t) out (k a t)) → Runs Q n c out (after r k)
  seq (went {a = a} {t = t} f le p) g = before f (g a t le p)
  seq (stops j e) g = stops j e

  -- where the code comes to, and what holds there, by other words
  pub ends_at : {T : Type 0} {P Q : T → S D → Type 0} {n m : ℕ} {c : Conf D} {out out' : T → S D → Conf D} {r : Res (S D) T} → n ≤ m → ((a : T) (t : S D) → t.steps ≤ n → P a t → Comes (out a t) (out' a t) × Q a t) → Runs P n c out r → Runs Q m c out' r
  ends_at le g (went {a = a} {t = t} f l p) = let x = g a t l p in went (comes_on f x.0) (omega (arith, le, l)) x.1
  ends_at le g (stops j e) = stops j e

  -- the place at the end by another number
  pub to_place : {T : Type 0} {P : T → S D → Type 0} {n : ℕ} {c : Conf D} {h : Here D} (p : ℕ) {q : ℕ} {vs : T → List (V D)} {r : Res (S D) T} → p ≡ q → Runs P n c (λ a t. at D h p (vs a) t) r → Runs P n c (λ a t. at D h q (vs a) t) r
  to_place {P = P} {n = n} {c = c} {h = h} p {q} {vs} {r} e x = subst (λ q. Runs P n c (λ a t. at D h q (vs a) t) r) e x

  -- the instruction that stands there
  pub stands : (h : Here D) (pc : ℕ) (vs : List (V D)) (s : S D) (l : Line) → slice_get h.code pc ≡ Some l → next D g (at D h pc vs s) ≡ follow D g (Some l) h pc vs s
  stands h pc vs s l e = ap (λ o. follow D g o h pc vs s) e

  -- an action that takes no step and enters no slot
  abbrev pub Quietly : {T : Type 0} → S D → Res (S D) T → Type 0
  Quietly s (Go a t) = (t.steps ≡ s.steps) × (t.entered ≡ s.entered)
  Quietly s (Stop w t) = Unit {0}

  pub record Quiet {T : Type 0} (m : A D T) : Type 0 where
    pub is : (s : S D) → Quietly s (m s)

  stilled_quiet : {T : Type 0} (s : S D) (r : Res (M D) T) → Quietly s (stilled s r)
  stilled_quiet s (Go a m) = (refl, refl)
  stilled_quiet s (Stop w m) = tt

  pub quiet_still : {T : Type 0} (m : Act (M D) T) → Quiet (still m)
  quiet_still m = record { is = λ s. stilled_quiet s (m s.mem) }

  pub quiet_pure : {T : Type 0} {a : T} → Quiet (pure a)
  quiet_pure = record { is = λ s. (refl, refl) }

  pub quiet_odd : {T : Type 0} (p : Spot) → Quiet {T = T} (odd p)
  quiet_odd p = record { is = λ s. tt }

  then_quiet : {T : Type 0} (s t : S D) → t.steps ≡ s.steps → t.entered ≡ s.entered → (r : Res (S D) T) → Quietly t r → Quietly s r
  then_quiet s t e f (Go a u) q = (q.0 ∙ e, q.1 ∙ f)
  then_quiet s t e f (Stop w u) q = tt

  after_quiet : {T U : Type 0} (s : S D) (r : Res (S D) T) (k : T → A D U) → Quietly s r → ((a : T) → Quiet (k a)) → Quietly s (after r k)
  after_quiet s (Go a t) k q f = then_quiet s t q.0 q.1 (k a t) ((f a).is t)
  after_quiet s (Stop w t) k q f = tt

  pub quiet_bind : {T U : Type 0} {m : A D T} {k : T → A D U} → Quiet m → ((a : T) → Quiet (k a)) → Quiet (bind m k)
  quiet_bind {m = m} {k = k} f h = record { is = λ s. after_quiet s (m s) k (f.is s) h }

  pub quiet_choose : {T : Type 0} (b : Bool) {m k : A D T} → Quiet m → Quiet k → Quiet (choose b m k)
  quiet_choose true f h = f
  quiet_choose false f h = h

  module _ (h : Here D) (n : ℕ) (es : List Named) where
    abbrev pub Post : {T : Type 0} → (T → Type 0) → T → S D → Type 0
    Post Q a t = (t.entered ≡ es) × Q a

    abbrev pub Any : {T : Type 0} → T → Type 0
    Any a = Unit {0}

    -- a stretch of code at pc does what this action does, from the stack vs to the one that its result gives
    pub record Does {T : Type 0} (Q : T → Type 0) (pc : ℕ) (c : List Line) (vs : List (V D)) (m : A D T) (give : T → List (V D)) : Type 0 where
      pub runs : (s : S D) → HasAt h.code pc c → s.steps ≤ n → s.entered ≡ es → Runs (Post Q) n (at D h pc vs s) (λ a t. at D h (pc + length c) (give a) t) (m s)

    one_at : {T : Type 0} {c : Conf D} (pc : ℕ) (give : T → List (V D)) (s : S D) (r : Res (S D) T) → s.steps ≤ n → s.entered ≡ es → Quietly s r → next D g c ≡ carried D h pc (after r (λ a. pure (give a))) → Runs (Post Any) n c (λ a t. at D h pc (give a) t) r
    one_at pc give s (Go a t) le same q e = went (goes_one e) (omega (arith, q.0, le)) (q.1 ∙ same, tt {0})
    one_at pc give s (Stop w t) le same q e = stops 1 (ap (λ o. and_then D o (exec D g 0)) e)

    -- one instruction
    pub does_one : {T : Type 0} {pc : ℕ} {l : Line} {vs : List (V D)} {m : A D T} {give : T → List (V D)} → Quiet m → ((s : S D) → follow D g (Some l) h pc vs s ≡ carried D h (pc + 1) (after (m s) (λ a. pure (give a)))) → Does Any pc (l ∷ []) vs m give
    does_one {pc = pc} {l = l} {vs = vs} {m = m} {give = give} q e =
        record { runs = λ s has le same. one_at (pc + 1) give s (m s) le same (q.is s) (stands h pc vs s l has.0 ∙ e s) }

    -- no instruction
    pub does_none : {T : Type 0} {pc : ℕ} {vs : List (V D)} {a : T} {give : T → List (V D)} → give a ≡ vs → Does Any pc [] vs (pure a) give
    does_none {pc = pc} {vs = vs} {a = a} {give = give} e =
        record { runs = λ s has le same. let z : pc ≡ pc + 0 = omega arith in went (subst (λ q. Comes (at D h pc vs s) (at D h q (give a) s)) z (subst (λ us. Comes (at D h pc vs s) (at D h pc us s)) (sym e) (stays (at D h pc vs s)))) le (same, tt {0}) }

    -- one stretch after another
    pub does_seq : {T U : Type 0} {Q : T → Type 0} {R : U → Type 0} {pc : ℕ} {a b : List Line} {vs : List (V D)} {m : A D T} {k : T → A D U} {mid : T → List (V D)} {out : U → List (V D)} → Does Q pc a vs m mid → ((v : T) → Q v → Does R (pc + length a) b (mid v) (k v) out) → Does R pc (a ++ b) vs (bind m k) out
    does_seq {pc = pc} {a = a} {b = b} {out = out} f k = record {
      runs = λ s has le same.
          let z : pc + length a + length b ≡ pc + length (a ++ b) = omega (arith, length-append a b) in
          to_place (pc + length a + length b) z (seq (f.runs s (has_front h.code pc a b has) le same) (λ v t l p. (k v p.1).runs t (has_back h.code pc a b has) l p.0));
    }

    -- one instruction with an action, and what follows it
    pub does_next : {T U : Type 0} {R : U → Type 0} {pc : ℕ} {l : Line} {c : List Line} {vs : List (V D)} {m : A D T} {k : T → A D U} {mid : T → List (V D)} {out : U → List (V D)} → Quiet m → ((s : S D) → follow D g (Some l) h pc vs s ≡ carried D h (pc + 1) (after (m s) (λ a. pure (mid a)))) → ((v : T) → Does R (pc + 1) c (mid v) (k v) out) → Does R pc (l ∷ c) vs (bind m k) out
    does_next {R = R} {pc = pc} {l = l} {c = c} {vs = vs} {m = m} {k = k} {mid = mid} {out = out} q e f = does_seq {Q = Any} {R = R} {a = l ∷ []} {b = c} {mid = mid} (does_one q e) (λ v _. f v)

    -- an instruction that changes the stack alone, and what follows it
    pub does_first : {T : Type 0} {R : T → Type 0} {pc : ℕ} {l : Line} {c : List Line} {vs us : List (V D)} {m : A D T} {out : T → List (V D)} → ((s : S D) → follow D g (Some l) h pc vs s ≡ carried D h (pc + 1) (Go us s)) → Does R (pc + 1) c us m out → Does R pc (l ∷ c) vs m out
    does_first {R = R} {pc = pc} {l = l} {c = c} {vs = vs} {us = us} {m = m} {out = out} e f =
        does_seq {T = Unit {0}} {Q = Any} {R = R} {a = l ∷ []} {b = c} {m = pure tt} {k = λ _. m} {mid = λ _. us} (does_one {m = pure tt} {give = λ _. us} quiet_pure e) (λ v _. f)

    -- what holds of the result by other words
    pub does_any : {T : Type 0} {Q : T → Type 0} {pc : ℕ} {c : List Line} {vs : List (V D)} {m : A D T} {out : T → List (V D)} → Does Q pc c vs m out → Does Any pc c vs m out
    does_any f = record { runs = λ s has le same. ends_at (let z : n ≤ n = omega arith in z) (λ a t l p. (stays _, (p.0, tt {0}))) (f.runs s has le same) }

  -- where a test's jump leads
  abbrev pub chosen : Here D → ℕ → ℕ → List (V D) → Bool → S D → Conf D
  chosen h z o us true t = at D h o us t
  chosen h z o us false t = at D h z us t

  jumps_at : {n : ℕ} {es : List Named} {c : Conf D} (h : Here D) (pc z : ℕ) (us : List (V D)) (s : S D) (r : Res (M D) Bool) → s.steps ≤ n → s.entered ≡ es → next D g c ≡ jumped D h z pc us (stilled s r) → Runs (λ b t. t.entered ≡ es) n c (chosen h z pc us) (stilled s r)
  jumps_at h pc z us s (Go true m) le same e = went (goes_one e) le same
  jumps_at h pc z us s (Go false m) le same e = went (goes_one e) le same
  jumps_at h pc z us s (Stop w m) le same e = stops 1 (ap (λ o. and_then D o (exec D g 0)) e)

  -- a test's jump
  pub jump_runs : {n : ℕ} {es : List Named} (h : Here D) (p : Spot) (pc z : ℕ) (us : List (V D)) (v : V D) (t : S D) → slice_get h.code pc ≡ Some (line p (JumpZero z)) → t.steps ≤ n → t.entered ≡ es → Runs (λ b t. t.entered ≡ es) n (at D h pc (v ∷ us) t) (chosen h z (pc + 1) us) (still (tests D p v) t)
  jump_runs h p pc z us v t has le same = jumps_at h (pc + 1) z us t (tests D p v t.mem) le same (stands h pc (v ∷ us) t (line p (JumpZero z)) has)

  -- by either truth value
  pub chosen_runs : {T : Type 0} {P : T → S D → Type 0} {n : ℕ} (h : Here D) (z o : ℕ) (us : List (V D)) (out : T → S D → Conf D) (k : Bool → A D T) (b : Bool) (t : S D) → Runs P n (at D h o us t) out (k true t) → Runs P n (at D h z us t) out (k false t) → Runs P n (chosen h z o us b t) out (k b t)
  chosen_runs h z o us out k true t r1 r0 = r1
  chosen_runs h z o us out k false t r1 r0 = r0

  pub if_end : (pc : ℕ) (p : Spot) (t a b : List Line) → pc + length t + 1 + length a + 1 + length b ≡ pc + length (if_code p pc t a b)
  if_end pc p t a b = omega (arith, length-append t (line p (JumpZero (pc + length t + 1 + length a + 1)) ∷ (a ++ (line p (Jump (pc + length t + 1 + length a + 1 + length b)) ∷ b))), length-append a (line p (Jump (pc + length t + 1 + length a + 1 + length b)) ∷ b))

  module _ (h : Here D) (n : ℕ) (es : List Named) where
    -- a test, and code for either truth value
    pub does_if : {U : Type 0} {pc : ℕ} (p : Spot) {t a b : List Line} {us : List (V D)} {m : A D (V D)} (k : Bool → A D U) {out : U → List (V D)} → Does h n es (Any h n es) pc t us m (λ v. v ∷ us) → Does h n es (Any h n es) (pc + length t + 1) a us (k true) out → Does h n es (Any h n es) (pc + length t + 1 + length a + 1) b us (k false) out → Does h n es (Any h n es) pc (if_code p pc t a b) us (bind m (λ v. bind (still (tests D p v)) k)) out
    does_if {U} {pc = pc} p {t = t} {a = a} {b = b} {us = us} {m = m} k {out = out} f f1 f0 = record {
      runs = λ s has le same.
          let z = pc + length t + 1 + length a + 1 in
          let e = if_end pc p t a b in
          let has1 = has_back h.code pc t _ has in
          let has2 = has_back h.code (pc + length t + 1) a _ has1.1 in
          seq (f.runs s (has_front h.code pc t _ has) le same) (λ v s1 le1 q1.
          seq (jump_runs h p (pc + length t) z us v s1 has1.0 le1 q1.0) (λ i s2 le2 same2.
          chosen_runs h z (pc + length t + 1) us (λ w t1. at D h (pc + length (if_code p pc t a b)) (out w) t1) k i s2
          (ends_at (let y : n ≤ n = omega arith in y) (λ u t1 l q. (comes_on (goes_one (stands h (pc + length t + 1 + length a) (out u) t1 _ has2.0)) (subst (λ q. Comes (at D h (z + length b) (out u) t1) (at D h q (out u) t1)) e (stays _)), q)) (f1.runs s2 (has_front h.code _ a _ has1.1) le2 same2))
          (to_place (z + length b) e (f0.runs s2 has2.1 le2 same2))));
    }
