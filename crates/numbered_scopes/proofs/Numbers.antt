-- Slots in the order of the text: what is visible, what is outside, and the last one.
use Rattle.std.proofs.Common.{ℕ, zero, suc, ◌+◌, ◌<◌, ◌≤◌, ◌≡◌, List, [], ◌∷◌, ◌++◌, length, refl, sym, ◌∙◌, subst, Bool, true, false, Option, Some, nat_eq, nat_lt, arith}
use Rattle.std.specs.Prelude.{◌||◌}
use Rattle.oc_cells.specs.declared.types.CType.{CType}
use Rattle.oc_typed.specs.declared.typed.TDeclared.{TDeclared}
use Rattle.oc_typed.specs.declared.typed.TForInit.{TForInit}
use Rattle.oc_typed.specs.declared.typed.TForInit.TheVariants.{Nothing as NoInit, Declare as InitDeclare, Express as InitExpress}
use Rattle.oc_typed.specs.Visible.{is_among, after_all, after_header, after_params}
use Rattle.oc_typing.specs.Typed.{slots_of, slots_of_header, count_up}
use Rattle.sound_runs.proofs.Bools.{first, second, never}
use Rattle.scope_rules.specs.Frozen.{Facts, of_body, of_part, of_always, in_loop}
use Rattle.numbered_scopes.specs.Numbered.{up_to, of_part_after, last_declared, last_header, last_of}
use Rattle.numbered_scopes.proofs.Agreeing.{Agree}

-- these are the numbers from the first on up to the last, without it
abbrev pub Counted : ℕ → List ℕ → ℕ → Type 0
Counted m [] k = m ≡ k
Counted m (x ∷ xs) k = (x ≡ m) × Counted (suc m) xs k

equal_of : (a b : ℕ) → nat_eq a b ≡ true → a ≡ b
equal_of a b h = grind (arith, h)

pub counted_of : (m : ℕ) (xs : List ℕ) (k : ℕ) → count_up m xs k ≡ true → Counted m xs k
counted_of m [] k h = equal_of m k h
counted_of m (x ∷ xs) k h = (equal_of x m (first _ _ h), counted_of (suc m) xs k (second _ _ h))

pub counted_parts : (m : ℕ) (xs ys : List ℕ) (k : ℕ) → Counted m (xs ++ ys) k → (i : ℕ) × Counted m xs i × Counted i ys k
counted_parts m [] ys k h = (m, refl, h)
counted_parts m (x ∷ xs) ys k h = let r = counted_parts (suc m) xs ys k h.1 in (r.0, (h.0, r.1), r.2)

pub counted_rises : (m : ℕ) (xs : List ℕ) (k : ℕ) → Counted m xs k → m ≤ k
counted_rises m [] k h = omega (arith, h)
counted_rises m (x ∷ xs) k h = let i = counted_rises (suc m) xs k h.1 in omega (arith, i)

-- so many slots there are up to the last one
abbrev pub Reaches : Option ℕ → ℕ → Type 0
Reaches last m = (n : ℕ) → up_to last n ≡ nat_lt n m

-- where a statement stands: facts that agree on what is visible, all of which and all that is outside is among the first m slots
pub record Before (vis : List ℕ) (w v : Facts) (last : Option ℕ) (m : ℕ) : Type 0 where
  pub agree : Agree vis w v
  pub seen : (n : ℕ) → is_among vis n ≡ true → n < m
  pub within : (n : ℕ) → m ≤ n → w.outside n ≡ false
  pub also : (n : ℕ) → m ≤ n → v.outside n ≡ false
  pub reaches : Reaches last m

below : (n m : ℕ) → n < m → nat_lt n m ≡ true
below n m h = grind (arith, h)

above : (n m : ℕ) → m ≤ n → nat_lt n m ≡ false
above n m h = grind (arith, h)

pub reaches_next : (m : ℕ) → Reaches (Some m) (suc m)
reaches_next m n = grind arith

pub reaches_named : (m x : ℕ) → x ≡ m → Reaches (Some x) (suc m)
reaches_named m x e = subst (λ y. Reaches (Some y) (suc m)) (sym e) (reaches_next m)

pub reaches_declared : (ds : List TDeclared) (last : Option ℕ) (m k : ℕ) → Reaches last m → Counted m (slots_of ds) k → Reaches (last_declared last ds) k
reaches_declared [] last m k r c = subst (λ j. Reaches last j) c r
reaches_declared (d ∷ ds) last m k r c = reaches_declared ds (Some d.slot) (suc m) k (reaches_named m d.slot c.0) c.1

pub reaches_header : (i : TForInit) (last : Option ℕ) (m k : ℕ) → Reaches last m → Counted m (slots_of_header i) k → Reaches (last_header last i) k
reaches_header NoInit last m k r c = subst (λ j. Reaches last j) c r
reaches_header (InitDeclare ds) last m k r c = reaches_declared ds last m k r c
reaches_header (InitExpress e) last m k r c = subst (λ j. Reaches last j) c r

-- a further slot is visible
module _ (vis : List ℕ) (w v : Facts) (last : Option ℕ) (m : ℕ) (h : Before vis w v last m) where
  seen_next : (n : ℕ) (b : Bool) → nat_eq m n ≡ b → (b || is_among vis n) ≡ true → n < suc m
  seen_next n true e i = let j = equal_of m n e in omega (arith, j)
  seen_next n false e i = let j = h.seen n i in omega (arith, j)

  outside_next : (n : ℕ) (b : Bool) → nat_eq m n ≡ b → (b || is_among vis n) ≡ true → w.outside n ≡ v.outside n
  outside_next n true e i = let j = equal_of m n e in h.within n (omega (arith, j)) ∙ sym (h.also n (omega (arith, j)))
  outside_next n false e i = h.agree.outside n i

  pub before_next : Before (m ∷ vis) w v (Some m) (suc m)
  before_next = record {
    agree = record { hidden = h.agree.hidden; parted = h.agree.parted; loop = h.agree.loop; outside = λ n i. outside_next n (nat_eq m n) refl i };
    seen = λ n i. seen_next n (nat_eq m n) refl i;
    within = λ n i. h.within n (omega (arith, i));
    also = λ n i. h.also n (omega (arith, i));
    reaches = reaches_next m;
  }

  -- what is visible stays, and there are further slots
  pub before_later : (end : Option ℕ) (k : ℕ) → m ≤ k → Reaches end k → Before vis w v end k
  before_later end k i r = record {
    agree = h.agree;
    seen = λ n j. let l = h.seen n j in omega (arith, i, l);
    within = λ n j. h.within n (omega (arith, i, j));
    also = λ n j. h.also n (omega (arith, i, j));
    reaches = r;
  }

  -- the parts of an `obliv if`
  among : (n : ℕ) (b : Bool) → is_among vis n ≡ b → m ≤ n → b ≡ false
  among n false e i = refl
  among n true e i = let j = h.seen n e in grind (arith, i, j)

  pub before_part : Before vis (of_part vis) (of_part_after last) last m
  before_part = record {
    agree = record { hidden = refl; parted = refl; loop = refl; outside = λ n i. i ∙ sym (h.reaches n ∙ below n m (h.seen n i)) };
    seen = h.seen;
    within = λ n i. among n (is_among vis n) refl i;
    also = λ n i. h.reaches n ∙ above n m i;
    reaches = h.reaches;
  }

  -- the body of a loop
  pub before_loop : Before vis (in_loop w) (in_loop v) last m
  before_loop = record {
    agree = record { hidden = h.agree.hidden; parted = h.agree.parted; loop = refl; outside = h.agree.outside };
    seen = h.seen;
    within = h.within;
    also = h.also;
    reaches = h.reaches;
  }

  -- the body of a `~obliv` block
  pub before_always : Before vis of_always of_always last m
  before_always = record {
    agree = record { hidden = refl; parted = refl; loop = refl; outside = λ n i. refl };
    seen = h.seen;
    within = λ n i. refl;
    also = λ n i. refl;
    reaches = h.reaches;
  }

pub before_named : (vis : List ℕ) (w v : Facts) (last : Option ℕ) (m x : ℕ) → x ≡ m → Before vis w v last m → Before (x ∷ vis) w v (Some x) (suc m)
before_named vis w v last m x e h = subst (λ y. Before (y ∷ vis) w v (Some y) (suc m)) (sym e) (before_next vis w v last m h)

pub before_declared : (ds : List TDeclared) (vis : List ℕ) (w v : Facts) (last : Option ℕ) (m k : ℕ) → Counted m (slots_of ds) k → Before vis w v last m → Before (after_all vis ds) w v (last_declared last ds) k
before_declared [] vis w v last m k c h = subst (λ j. Before vis w v last j) c h
before_declared (d ∷ ds) vis w v last m k c h = before_declared ds (d.slot ∷ vis) w v (Some d.slot) (suc m) k c.1 (before_named vis w v last m d.slot c.0 h)

pub before_header : (i : TForInit) (vis : List ℕ) (w v : Facts) (last : Option ℕ) (m k : ℕ) → Counted m (slots_of_header i) k → Before vis w v last m → Before (after_header vis i) w v (last_header last i) k
before_header NoInit vis w v last m k c h = subst (λ j. Before vis w v last j) c h
before_header (InitDeclare ds) vis w v last m k c h = before_declared ds vis w v last m k c h
before_header (InitExpress e) vis w v last m k c h = subst (λ j. Before vis w v last j) c h

-- a function's body
reaches_of : (m : ℕ) → Reaches (last_of m) m
reaches_of zero n = sym (above n 0 (omega arith))
reaches_of (suc m) n = reaches_next m n

params_seen : (vis : List ℕ) (i : ℕ) (ts : List CType) (m n : ℕ) → ((k : ℕ) → is_among vis k ≡ true → k < m) → i + length ts ≤ m → is_among (after_params vis i ts) n ≡ true → n < m
params_seen vis i [] m n f h e = f n e
params_seen vis i (t ∷ ts) m n f h e = params_seen (i ∷ vis) (suc i) ts m n (λ k j. also k (nat_eq i k) refl j) (omega (arith, h)) e where
  also : (k : ℕ) (b : Bool) → nat_eq i k ≡ b → (b || is_among vis k) ≡ true → k < m
  also k true q j = let l = equal_of i k q in omega (arith, h, l)
  also k false q j = f k j

none_seen : {P : Type 0} (n : ℕ) → is_among [] n ≡ true → P
none_seen n h = never h

pub before_body : (marked : Bool) (ts : List CType) (m : ℕ) → length ts ≤ m → Before (after_params [] 0 ts) (of_body marked) (of_body marked) (last_of m) m
before_body marked ts m h = record {
  agree = record { hidden = refl; parted = refl; loop = refl; outside = λ n i. refl };
  seen = λ n i. params_seen [] 0 ts m n (λ k j. none_seen k j) (omega (arith, h)) i;
  within = λ n i. refl;
  also = λ n i. refl;
  reaches = reaches_of m;
}
