-- Slots whose numbers rise: how one more keeps it, one fewer too, and where a number stands among them.
use Rattle.std.proofs.Common.{ℕ, zero, suc, ◌≡◌, ◌-◌, ◌<◌, ◌≤◌, List, [], ◌∷◌, ◌++◌, length, get_or, Bool, true, false, nat_eq, Option, Some, None, refl, sym, ap, ◌∙◌, arith}
use Rattle.std.specs.Prelude.{◌&&◌, nat_lt, slice_get, reverse, MatchOption, if◌then◌else◌}
use mathlib.Core.List.{reverse_aux}
use Rattle.std.specs.List.Sorted.{IsPartitionedBy}
use Rattle.oc_walk.specs.declared.run.Named.{Named}
use Rattle.oc_walk.specs.Walking.{block_of}
use Rattle.clear_actions.specs.Rising.{is_over, is_over_slot, rises, stands_over, has_slot, IsPlaceOf}

pub both_true : (a b : Bool) → (a && b) ≡ true → (a ≡ true) × (b ≡ true)
both_true true true h = (refl, refl)
both_true true false h = cc
both_true false b h = cc

and_true : (a b : Bool) → a ≡ true → b ≡ true → (a && b) ≡ true
and_true a b h k = ap (λ t. t && b) h ∙ k

less : (m n : ℕ) → nat_lt m n ≡ true → m < n
less m n e = grind arith

is_less : (m n : ℕ) → m < n → nat_lt m n ≡ true
is_less m n e = grind arith

not_equal : (m n : ℕ) → m < n → nat_eq m n ≡ false
not_equal m n e = grind arith

above_is_not : (m n : ℕ) → n < m → nat_eq m n ≡ false
above_is_not m n e = grind arith

minus_one : (n : ℕ) → suc n - 1 ≡ n
minus_one n = omega arith

same_last : (e d : Named) (ds : List Named) → slice_get (e ∷ d ∷ ds) (length (e ∷ d ∷ ds) - 1) ≡ slice_get (d ∷ ds) (length (d ∷ ds) - 1)
same_last e d ds =
    ap (λ j. slice_get (e ∷ d ∷ ds) j) (minus_one (suc (length ds))) ∙ sym (ap (λ j. slice_get (d ∷ ds) j) (minus_one (length ds)))

-- one more slot over the last keeps the order
one_more : (o : Option ℕ) (e : Named) (es : List Named) (x : Named) → rises o (e ∷ es) ≡ true → stands_over (e ∷ es) x.slot ≡ true → rises o (e ∷ es ++ x ∷ []) ≡ true
one_more o e [] x h k =
    let b = both_true (is_over o e.slot) true h in
    and_true (is_over o e.slot) (nat_lt e.slot x.slot && true) b.0 (and_true (nat_lt e.slot x.slot) true k refl)
one_more o e (d ∷ ds) x h k =
    let b = both_true (is_over o e.slot) (rises (Some e.slot) (d ∷ ds)) h in
    and_true (is_over o e.slot) (rises (Some e.slot) (d ∷ ds ++ x ∷ [])) b.0 (one_more (Some e.slot) d ds x b.1 (ap (λ q. is_over_slot q x.slot) (sym (same_last e d ds)) ∙ k))

pub pushed : (es : List Named) (x : Named) → rises None es ≡ true → stands_over es x.slot ≡ true → rises None (es ++ x ∷ []) ≡ true
pushed [] x h k = refl
pushed (e ∷ es) x h k = one_more None e es x h k

-- and one fewer
pub popped : (o : Option ℕ) (es : List Named) (x : Named) → rises o (es ++ x ∷ []) ≡ true → rises o es ≡ true
popped o [] x h = refl
popped o (e ∷ es) x h =
    let b = both_true (is_over o e.slot) (rises (Some e.slot) (es ++ x ∷ [])) h in
    and_true (is_over o e.slot) (rises (Some e.slot) es) b.0 (popped (Some e.slot) es x b.1)

-- after the newest was left, if there was one
pub fewer : (old new : List Named) (r : Option Named) → MatchOption r ((old ≡ []) × (new ≡ [])) (λ last. old ≡ new ++ last ∷ []) → rises None old ≡ true → rises None new ≡ true
fewer old new None e h = ap (λ l. rises None l) e.1
fewer old new (Some x) e h = popped None new x (ap (λ l. rises None l) (sym e) ∙ h)

-- the block that a number has in the end, where it had this one before
abbrev last_of : ℕ → Option ℕ → List Named → Option ℕ
last_of n found [] = found
last_of n found (e ∷ es) = last_of n (if nat_eq e.slot n then Some e.block else found) es

last_is : (n : ℕ) (es tail : List Named) → last_of n (block_of n tail) es ≡ block_of n (reverse_aux es tail)
last_is n [] tail = refl
last_is n (e ∷ es) tail = last_is n es (e ∷ tail)

-- what a number has at a place
abbrev pub placed : ℕ → Option ℕ → Option Named → Option ℕ
placed n found None = found
placed n found (Some e) = if nat_eq e.slot n then Some e.block else found

module _ (n : ℕ) where
  -- no slot over this number has it
  none_over : (found : Option ℕ) (m : ℕ) (es : List Named) → rises (Some m) es ≡ true → n ≤ m → last_of n found es ≡ found
  none_over found m [] h l = refl
  none_over found m (e ∷ es) h l =
      let b = both_true (nat_lt m e.slot) (rises (Some e.slot) es) h in
      let over = less m e.slot b.0 in
      ap (λ t. last_of n (if t then Some e.block else found) es) (above_is_not e.slot n (omega (arith, over, l)))
      ∙ none_over found e.slot es b.1 (omega (arith, over, l))

  first_under : (m : ℕ) (es : List Named) (k : ℕ) (d : Named) → rises (Some m) es ≡ true → k < length es → nat_lt (get_or es k d).slot n ≡ true → nat_lt m n ≡ true
  first_under m [] k d h l e = absurd (omega (arith, l))
  first_under m (x ∷ xs) zero d h l e =
      let over = less m x.slot (both_true (nat_lt m x.slot) (rises (Some x.slot) xs) h).0 in
      let under = less x.slot n e in
      is_less m n (omega (arith, over, under))
  first_under m (x ∷ xs) (suc k) d h l e =
      let b = both_true (nat_lt m x.slot) (rises (Some x.slot) xs) h in
      let over = less m x.slot b.0 in
      let under = less x.slot n (first_under x.slot xs k d b.1 (omega (arith, l)) e) in
      is_less m n (omega (arith, over, under))

  pub parted : (o : Option ℕ) (es : List Named) → rises o es ≡ true → IsPartitionedBy (λ (e : Named). nat_lt e.slot n) es
  parted o [] h i j d le lt e = absurd (omega (arith, lt))
  parted o (x ∷ xs) h zero zero d le lt e = e
  parted o (x ∷ xs) h zero (suc j) d le lt e = first_under x.slot xs j d (both_true (is_over o x.slot) (rises (Some x.slot) xs) h).1 (omega (arith, lt)) e
  parted o (x ∷ xs) h (suc i) zero d le lt e = absurd (omega (arith, le))
  parted o (x ∷ xs) h (suc i) (suc j) d le lt e = parted (Some x.slot) xs (both_true (is_over o x.slot) (rises (Some x.slot) xs) h).1 i j d (omega (arith, le)) (omega (arith, lt)) e

  from_false : (m : ℕ) → nat_lt m n ≡ false → n ≤ m
  from_false m e = grind arith

  -- where the slots up to a place are under the number and the others aren't, it stands at that place or nowhere
  at_place : (found : Option ℕ) (o : Option ℕ) (es : List Named) (i : ℕ) → rises o es ≡ true → i ≤ length es
      → ((k : ℕ) (d : Named) → k < i → nat_lt (get_or es k d).slot n ≡ true)
      → ((k : ℕ) (d : Named) → i ≤ k → k < length es → nat_lt (get_or es k d).slot n ≡ false)
      → last_of n found es ≡ placed n found (slice_get es i)
  at_place found o [] i h l f g = refl
  at_place found o (x ∷ xs) zero h l f g =
      none_over (if nat_eq x.slot n then Some x.block else found) x.slot xs (both_true (is_over o x.slot) (rises (Some x.slot) xs) h).1
      (from_false x.slot (g 0 x (omega arith) (omega arith)))
  at_place found o (x ∷ xs) (suc i) h l f g =
      ap (λ t. last_of n (if t then Some x.block else found) xs) (not_equal x.slot n (less x.slot n (f 0 x (omega arith))))
      ∙ at_place found (Some x.slot) xs i (both_true (is_over o x.slot) (rises (Some x.slot) xs) h).1 (omega (arith, l))
      (λ k d a. f (suc k) d (omega (arith, a))) (λ k d a b. g (suc k) d (omega (arith, a)) (omega (arith, b)))

  pub found_at : (es : List Named) (i : ℕ) → rises None es ≡ true → IsPlaceOf n es i → placed n None (slice_get es i) ≡ block_of n (reverse es)
  found_at es i h p = sym (at_place None None es i h p.within p.before p.behind) ∙ last_is n es []

  not_less : (m : ℕ) → n ≤ m → nat_lt m n ≡ false
  not_less m e = grind arith

  equal_to : (m : ℕ) → nat_eq m n ≡ true → m ≡ n
  equal_to m e = grind arith

  over_all : (m : ℕ) (es : List Named) (k : ℕ) (d : Named) → rises (Some m) es ≡ true → k < length es → m < (get_or es k d).slot
  over_all m [] k d h l = absurd (omega (arith, l))
  over_all m (x ∷ xs) zero d h l = less m x.slot (both_true (nat_lt m x.slot) (rises (Some x.slot) xs) h).0
  over_all m (x ∷ xs) (suc k) d h l =
      let b = both_true (nat_lt m x.slot) (rises (Some x.slot) xs) h in
      let over = less m x.slot b.0 in
      let more = over_all x.slot xs k d b.1 (omega (arith, l)) in
      omega (arith, over, more)

  under_it : (m : ℕ) (es : List Named) (i : ℕ) → rises (Some m) es ≡ true → has_slot n (slice_get es i) ≡ true → m < n
  under_it m [] i h q = cc
  under_it m (x ∷ xs) zero h q =
      let over = less m x.slot (both_true (nat_lt m x.slot) (rises (Some x.slot) xs) h).0 in
      let same = equal_to x.slot q in
      omega (arith, over, same)
  under_it m (x ∷ xs) (suc i) h q =
      let b = both_true (nat_lt m x.slot) (rises (Some x.slot) xs) h in
      let over = less m x.slot b.0 in
      let more = under_it x.slot xs i b.1 q in
      omega (arith, over, more)

  before_it : (o : Option ℕ) (es : List Named) (i j : ℕ) (d : Named) → rises o es ≡ true → has_slot n (slice_get es i) ≡ true → j < i → nat_lt (get_or es j d).slot n ≡ true
  before_it o [] i j d h q lt = cc
  before_it o (x ∷ xs) zero j d h q lt = absurd (omega (arith, lt))
  before_it o (x ∷ xs) (suc i) zero d h q lt = is_less x.slot n (under_it x.slot xs i (both_true (is_over o x.slot) (rises (Some x.slot) xs) h).1 q)
  before_it o (x ∷ xs) (suc i) (suc j) d h q lt = before_it (Some x.slot) xs i j d (both_true (is_over o x.slot) (rises (Some x.slot) xs) h).1 q (omega (arith, lt))

  behind_it : (o : Option ℕ) (es : List Named) (i j : ℕ) (d : Named) → rises o es ≡ true → has_slot n (slice_get es i) ≡ true → i ≤ j → j < length es → nat_lt (get_or es j d).slot n ≡ false
  behind_it o [] i j d h q le lt = cc
  behind_it o (x ∷ xs) zero zero d h q le lt = let same = equal_to x.slot q in not_less x.slot (omega (arith, same))
  behind_it o (x ∷ xs) zero (suc j) d h q le lt =
      let same = equal_to x.slot q in
      let over = over_all x.slot xs j d (both_true (is_over o x.slot) (rises (Some x.slot) xs) h).1 (omega (arith, lt)) in
      not_less (get_or xs j d).slot (omega (arith, same, over))
  behind_it o (x ∷ xs) (suc i) zero d h q le lt = absurd (omega (arith, le))
  behind_it o (x ∷ xs) (suc i) (suc j) d h q le lt = behind_it (Some x.slot) xs i j d (both_true (is_over o x.slot) (rises (Some x.slot) xs) h).1 q (omega (arith, le)) (omega (arith, lt))

  within_it : (es : List Named) (i : ℕ) → has_slot n (slice_get es i) ≡ true → i ≤ length es
  within_it [] i q = cc
  within_it (x ∷ xs) zero q = omega arith
  within_it (x ∷ xs) (suc i) q = let l = within_it xs i q in omega (arith, l)

  -- a place where the number stands is its place
  pub place_here : (es : List Named) (i : ℕ) → rises None es ≡ true → has_slot n (slice_get es i) ≡ true → IsPlaceOf n es i
  place_here es i h q = record {
    within = within_it es i q;
    before = λ k d l. before_it None es i k d h q l;
    behind = λ k d l m. behind_it None es i k d h q l m;
  }
