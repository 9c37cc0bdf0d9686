-- How many structs stand before a spot, where each stands after the one before it.
use Rattle.std.proofs.Common.{ℕ, zero, suc, ◌≡◌, ◌+◌, ◌<◌, ◌≤◌, List, [], ◌∷◌, length, get_or, Bool, true, false, nat_eq, Option, Some, refl, sym, ap, ◌∙◌, arith, inl, inr, ◌⊎◌}
use Rattle.std.specs.Prelude.{◌&&◌, ◌||◌, nat_lt, if◌then◌else◌}
use Rattle.std.specs.List.Sorted.{IsPartitionedBy}
use Rattle.oc_source.specs.declared.spot.Spot.{Spot}
use Rattle.oc_source.specs.declared.parsed.StructDef.{StructDef}
use Rattle.type_rules.specs.Written.{is_before, count_before}
use Rattle.written_types.proofs.Forms.{both_true}
use Rattle.typed_headings.specs.Order.{follows, ordered_after}

less : (m n : ℕ) → nat_lt m n ≡ true → m < n
less m n e = grind arith

is_less : (m n : ℕ) → m < n → nat_lt m n ≡ true
is_less m n e = grind arith

equal : (m n : ℕ) → nat_eq m n ≡ true → m ≡ n
equal m n e = grind arith

is_equal : (m n : ℕ) → m ≡ n → nat_eq m n ≡ true
is_equal m n e = grind arith

or_true : (b : Bool) → (b || true) ≡ true
or_true true = refl
or_true false = refl

-- one pair of numbers before another
abbrev Earlier : ℕ → ℕ → ℕ → ℕ → Type 0
Earlier a b c d = (a < c) ⊎ ((a ≡ c) × (b < d))

told : (a b c d : ℕ) → (nat_lt a c || (nat_eq a c && nat_lt b d)) ≡ true → Earlier a b c d
told a b c d h = go (nat_lt a c) (nat_eq a c) (nat_lt b d) refl refl refl h
  where
    go : (x y z : Bool) → nat_lt a c ≡ x → nat_eq a c ≡ y → nat_lt b d ≡ z → (x || (y && z)) ≡ true → Earlier a b c d
    go true y z p q r h = inl (less a c p)
    go false true true p q r h = inr (equal a c q, less b d r)
    go false true false p q r h = cc
    go false false z p q r h = cc

back : (a b c d : ℕ) → Earlier a b c d → (nat_lt a c || (nat_eq a c && nat_lt b d)) ≡ true
back a b c d (inl l) = ap (λ t. t || (nat_eq a c && nat_lt b d)) (is_less a c l)
back a b c d (inr h) = ap (λ t. nat_lt a c || (t && nat_lt b d)) (is_equal a c h.0) ∙ ap (λ t. nat_lt a c || t) (is_less b d h.1) ∙ or_true (nat_lt a c)

both : (a b c d e f : ℕ) → Earlier a b c d → Earlier c d e f → Earlier a b e f
both a b c d e f (inl l) (inl m) = inl (omega (arith, l, m))
both a b c d e f (inl l) (inr m) = inl (omega (arith, l, m.0))
both a b c d e f (inr l) (inl m) = inl (omega (arith, l.0, m))
both a b c d e f (inr l) (inr m) = inr (l.0 ∙ m.0, omega (arith, l.1, m.1))

-- what stands before a spot stands before each one after it
before_both : (p q r : Spot) → is_before p q ≡ true → is_before q r ≡ true → is_before p r ≡ true
before_both p q r h k =
    back p.line p.column r.line r.column
    (both p.line p.column q.line q.column r.line r.column (told p.line p.column q.line q.column h) (told q.line q.column r.line r.column k))

module _ (p : Spot) where
  first_before : (q : Spot) (ds : List StructDef) (k : ℕ) (d : StructDef) → ordered_after (Some q) ds ≡ true → k < length ds → is_before (get_or ds k d).spot p ≡ true → is_before q p ≡ true
  first_before q [] k d h l e = absurd (omega (arith, l))
  first_before q (x ∷ xs) zero d h l e = before_both q x.spot p (both_true (is_before q x.spot) (ordered_after (Some x.spot) xs) h).0 e
  first_before q (x ∷ xs) (suc k) d h l e =
      let b = both_true (is_before q x.spot) (ordered_after (Some x.spot) xs) h in
      before_both q x.spot p b.0 (first_before x.spot xs k d b.1 (omega (arith, l)) e)

  pub parted : (o : Option Spot) (ds : List StructDef) → ordered_after o ds ≡ true → IsPartitionedBy (λ (d : StructDef). is_before d.spot p) ds
  parted o [] h i j d le lt e = absurd (omega (arith, lt))
  parted o (x ∷ xs) h zero zero d le lt e = e
  parted o (x ∷ xs) h zero (suc j) d le lt e = first_before x.spot xs j d (both_true (follows o x.spot) (ordered_after (Some x.spot) xs) h).1 (omega (arith, lt)) e
  parted o (x ∷ xs) h (suc i) zero d le lt e = absurd (omega (arith, le))
  parted o (x ∷ xs) h (suc i) (suc j) d le lt e = parted (Some x.spot) xs (both_true (follows o x.spot) (ordered_after (Some x.spot) xs) h).1 i j d (omega (arith, le)) (omega (arith, lt)) e

  one_more : (n m : ℕ) → m ≡ n → m + 1 ≡ suc n
  one_more n m e = omega (arith, e)

  pub counted : (ds : List StructDef) (n : ℕ) → n ≤ length ds
      → ((k : ℕ) (d : StructDef) → k < n → is_before (get_or ds k d).spot p ≡ true)
      → ((k : ℕ) (d : StructDef) → n ≤ k → k < length ds → is_before (get_or ds k d).spot p ≡ false) → n ≡ count_before p ds
  counted [] n l f g = omega (arith, l)
  counted (x ∷ xs) zero l f g =
      counted xs zero (omega arith) (λ k d a. absurd (omega (arith, a))) (λ k d a b. g (suc k) d (omega arith) (omega (arith, b)))
      ∙ sym (ap (λ t. if t then count_before p xs + 1 else count_before p xs) (g 0 x (omega arith) (omega arith)))
  counted (x ∷ xs) (suc n) l f g =
      sym (one_more n (count_before p xs) (sym (counted xs n (omega (arith, l)) (λ k d a. f (suc k) d (omega (arith, a))) (λ k d a b. g (suc k) d (omega (arith, a)) (omega (arith, b))))))
      ∙ sym (ap (λ t. if t then count_before p xs + 1 else count_before p xs) (f 0 x (omega arith)))
