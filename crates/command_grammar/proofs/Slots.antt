-- Slots, and tests of lists.
use Rattle.std.proofs.Common.{ℕ, zero, suc, ◌≡◌, ◌<◌, List, [], ◌∷◌, ◌++◌, length, get_or, Bool, true, false, nat_eq, refl, sym, ap, ◌∙◌, arith, inl, inr}
use Rattle.std.specs.Prelude.{◌&&◌, ◌||◌, not, Contains, ◌⊎◌}
use Rattle.std.specs.List.{AllByRecursion, list_all, list_any}
use Rattle.std.specs.Str.{bytes_eq}
use Rattle.std.specs.Cmp.Lexicographic.{bytes_decides}
use Rattle.std.proofs.lemmas.Bool.Decides.{nat_tests}
use Rattle.std.proofs.lemmas.Bool.{false≢true}
use Rattle.command_grammar.specs.Grammar.{has, is_once}

pub both_left : (a b : Bool) → (a && b) ≡ true → a ≡ true
both_left true b h = refl
both_left false b h = h

pub both_right : (a b : Bool) → (a && b) ≡ true → b ≡ true
both_right true b h = h
both_right false b h = absurd (false≢true h)

pub both : (a b : Bool) → a ≡ true → b ≡ true → (a && b) ≡ true
both true b h k = k
both false b h k = h

pub not_true : (a : Bool) → not a ≡ true → a ≡ false
not_true true h = absurd (false≢true h)
not_true false h = refl

pub neither_left : (a b : Bool) → (a || b) ≡ false → a ≡ false
neither_left true b h = h
neither_left false b h = refl

pub neither_right : (a b : Bool) → (a || b) ≡ false → b ≡ false
neither_right true b h = absurd (false≢true (sym h))
neither_right false b h = h

pub either : (a b : Bool) → (a || b) ≡ true → (a ≡ true) ⊎ (b ≡ true)
either true b h = inl refl
either false b h = inr h

pub same_bytes : (a b : List ℕ) → bytes_eq a b ≡ true → a ≡ b
same_bytes a b h = (bytes_decides a b).0 h

pub bytes_same : (a b : List ℕ) → a ≡ b → bytes_eq a b ≡ true
bytes_same a b e = (bytes_decides a b).1 e

-- ---- elements of a list

-- what holds of each element by a test holds of one
pub all_at : {X : Type 0} (p : X → Bool) (xs : List X) (k : ℕ) (x : X) → list_all p xs ≡ true → k < length xs → get_or xs k x ≡ x → p x ≡ true
all_at p [] k x h lt e = absurd (omega arith)
all_at p (y ∷ ys) zero x h lt e = ap p (sym e) ∙ both_left (p y) (list_all p ys) h
all_at p (y ∷ ys) (suc k) x h lt e = all_at p ys k x (both_right (p y) (list_all p ys) h) (omega arith) e

-- some element passes
pub some_at : {X : Type 0} (p : X → Bool) (xs : List X) → list_any p xs ≡ true → (x : X) × Contains xs x × (p x ≡ true)
some_at p [] h = absurd (false≢true h)
some_at p (y ∷ ys) h = elim (either (p y) (list_any p ys) h) [
  | inl t ↦ (y, (zero, omega arith, refl), t)
  | inr t ↦ let r = some_at p ys t in (r.0, (suc r.1.0, omega (arith, r.1.1), r.1.2), r.2)
]

-- none passes
pub none_at : {X : Type 0} (p : X → Bool) (xs : List X) (k : ℕ) (x : X) → list_any p xs ≡ false → k < length xs → get_or xs k x ≡ x → p x ≡ false
none_at p [] k x h lt e = absurd (omega arith)
none_at p (y ∷ ys) zero x h lt e = ap p (sym e) ∙ neither_left (p y) (list_any p ys) h
none_at p (y ∷ ys) (suc k) x h lt e = none_at p ys k x (neither_right (p y) (list_any p ys) h) (omega arith) e

pub all_left : {X : Type 0} (P : X → Type 0) (xs ys : List X) → AllByRecursion P (xs ++ ys) → AllByRecursion P xs
all_left P [] ys h = tt
all_left P (x ∷ xs) ys h = (h.0, all_left P xs ys h.1)

pub all_right : {X : Type 0} (P : X → Type 0) (xs ys : List X) → AllByRecursion P (xs ++ ys) → AllByRecursion P ys
all_right P [] ys h = h
all_right P (x ∷ xs) ys h = all_right P xs ys h.1

pub all_join : {X : Type 0} (P : X → Type 0) (xs ys : List X) → AllByRecursion P xs → AllByRecursion P ys → AllByRecursion P (xs ++ ys)
all_join P [] ys h k = k
all_join P (x ∷ xs) ys h k = (h.0, all_join P xs ys h.1 k)

-- ---- slots

-- no slot of the second list stands in the first
abbrev pub apart : List ℕ → List ℕ → Bool
apart xs ys = list_all (λ p. not (has xs p)) ys

pub has_append : (xs ys : List ℕ) (p : ℕ) → has (xs ++ ys) p ≡ (has xs p || has ys p)
has_append [] ys p = refl
has_append (x ∷ xs) ys p = ap (λ b. nat_eq x p || b) (has_append xs ys p) ∙ or_assoc (nat_eq x p) (has xs p) (has ys p)
  where
    or_assoc : (a b c : Bool) → (a || (b || c)) ≡ ((a || b) || c)
    or_assoc true b c = refl
    or_assoc false b c = refl

pub has_left : (xs ys : List ℕ) (p : ℕ) → has xs p ≡ true → has (xs ++ ys) p ≡ true
has_left xs ys p h = has_append xs ys p ∙ ap (λ b. b || has ys p) h

pub has_right : (xs ys : List ℕ) (p : ℕ) → has ys p ≡ true → has (xs ++ ys) p ≡ true
has_right xs ys p h = has_append xs ys p ∙ ap (λ b. has xs p || b) h ∙ any_true (has xs p)
  where
    any_true : (b : Bool) → (b || true) ≡ true
    any_true true = refl
    any_true false = refl

eq_turned : (x y : ℕ) → nat_eq x y ≡ false → nat_eq y x ≡ false
eq_turned x y h = grind (arith, nat_tests)

same_refl : (x : ℕ) → nat_eq x x ≡ true
same_refl x = grind (arith, nat_tests)

apart_nil : (ys : List ℕ) → apart [] ys ≡ true
apart_nil [] = refl
apart_nil (y ∷ ys) = apart_nil ys

not_either : (a b : Bool) → a ≡ false → not b ≡ true → not (a || b) ≡ true
not_either true b h k = absurd (false≢true (sym h))
not_either false b h k = k

not_neither : (a b : Bool) → not (a || b) ≡ true → (a ≡ false) × (not b ≡ true)
not_neither true b h = absurd (false≢true h)
not_neither false b h = (refl, h)

apart_more : (x : ℕ) (xs ys : List ℕ) → has ys x ≡ false → apart xs ys ≡ true → apart (x ∷ xs) ys ≡ true
apart_more x xs [] h k = refl
apart_more x xs (y ∷ ys) h k =
    both (not (nat_eq x y || has xs y)) (apart (x ∷ xs) ys)
    (not_either (nat_eq x y) (has xs y) (eq_turned y x (neither_left (nat_eq y x) (has ys x) h)) (both_left (not (has xs y)) (apart xs ys) k))
    (apart_more x xs ys (neither_right (nat_eq y x) (has ys x) h) (both_right (not (has xs y)) (apart xs ys) k))

apart_less : (x : ℕ) (xs ys : List ℕ) → apart (x ∷ xs) ys ≡ true → (has ys x ≡ false) × (apart xs ys ≡ true)
apart_less x xs [] h = (refl, refl)
apart_less x xs (y ∷ ys) h =
    let here = not_neither (nat_eq x y) (has xs y) (both_left (not (nat_eq x y || has xs y)) (apart (x ∷ xs) ys) h) in
    let rest = apart_less x xs ys (both_right (not (nat_eq x y || has xs y)) (apart (x ∷ xs) ys) h) in
    (ap (λ b. b || has ys x) (eq_turned x y here.0) ∙ rest.0, both (not (has xs y)) (apart xs ys) here.1 rest.1)

pub once_left : (xs ys : List ℕ) → is_once (xs ++ ys) ≡ true → is_once xs ≡ true
once_left [] ys h = refl
once_left (x ∷ xs) ys h =
    let here = not_neither (has xs x) (has ys x) (ap not (sym (has_append xs ys x)) ∙ both_left (not (has (xs ++ ys) x)) (is_once (xs ++ ys)) h) in
    both (not (has xs x)) (is_once xs) (ap not here.0) (once_left xs ys (both_right (not (has (xs ++ ys) x)) (is_once (xs ++ ys)) h))

pub once_apart : (xs ys : List ℕ) → is_once (xs ++ ys) ≡ true → apart xs ys ≡ true
once_apart [] ys h = apart_nil ys
once_apart (x ∷ xs) ys h =
    let here = not_neither (has xs x) (has ys x) (ap not (sym (has_append xs ys x)) ∙ both_left (not (has (xs ++ ys) x)) (is_once (xs ++ ys)) h) in
    apart_more x xs ys (not_true (has ys x) here.1) (once_apart xs ys (both_right (not (has (xs ++ ys) x)) (is_once (xs ++ ys)) h))

pub once_join : (xs ys : List ℕ) → is_once xs ≡ true → is_once ys ≡ true → apart xs ys ≡ true → is_once (xs ++ ys) ≡ true
once_join [] ys h k a = k
once_join (x ∷ xs) ys h k a =
    let less = apart_less x xs ys a in
    both (not (has (xs ++ ys) x)) (is_once (xs ++ ys))
    (ap not (has_append xs ys x) ∙ not_either (has xs x) (has ys x) (not_true (has xs x) (both_left (not (has xs x)) (is_once xs) h)) (ap not less.0))
    (once_join xs ys (both_right (not (has xs x)) (is_once xs) h) k less.1)

-- a single slot is apart from a list that hasn't it
pub apart_one : (xs : List ℕ) (p : ℕ) → has xs p ≡ false → apart xs (p ∷ []) ≡ true
apart_one xs p h = both (not (has xs p)) true (ap not h) refl

pub has_one : (p : ℕ) → has (p ∷ []) p ≡ true
has_one p = ap (λ b. b || false) (same_refl p)

pub once_right : (xs ys : List ℕ) → is_once (xs ++ ys) ≡ true → is_once ys ≡ true
once_right [] ys h = h
once_right (x ∷ xs) ys h = once_right xs ys (both_right (not (has (xs ++ ys) x)) (is_once (xs ++ ys)) h)

pub has_at : (ps : List ℕ) (p : ℕ) → Contains ps p → has ps p ≡ true
has_at ps p (k, lt, e) = at_place ps k lt e
  where
    any_true : (b : Bool) → (b || true) ≡ true
    any_true true = refl
    any_true false = refl

    at_place : (qs : List ℕ) (k : ℕ) → k < length qs → get_or qs k p ≡ p → has qs p ≡ true
    at_place [] k lt e = absurd (omega arith)
    at_place (q ∷ qs) zero lt e = ap (λ b. b || has qs p) (ap (λ x. nat_eq x p) e ∙ same_refl p)
    at_place (q ∷ qs) (suc k) lt e = ap (λ b. nat_eq q p || b) (at_place qs k (omega arith) e) ∙ any_true (nat_eq q p)
