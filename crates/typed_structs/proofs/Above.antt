-- Names above a struct, by their numbers.
use Rattle.std.proofs.Common.{ℕ, zero, suc, ◌+◌, ◌≡◌, List, [], ◌∷◌, take, Option, Some, None, Bool, true, false, refl, sym, ap, ◌∙◌, arith}
use Rattle.std.specs.Prelude.{◌||◌, if◌then◌else◌, nat_lt}
use Rattle.std.proofs.Math.Dec.{leb-zero, leb-suc-zero, leb-suc-suc}
use Rattle.type_rules.specs.Lookup.{same_name}
use Rattle.type_rules.specs.Written.{has_name, number_from}
use Rattle.written_types.proofs.Firsts.{first, after, from, number_first}

-- whether a number that is there is below this one
abbrev pub is_below : ℕ → Option ℕ → Bool
is_below a None = false
is_below a (Some k) = nat_lt k a

none_below : (o : Option ℕ) → false ≡ is_below zero o
none_below None = refl
none_below (Some k) = sym (leb-suc-zero k)

next_below : (a : ℕ) (o : Option ℕ) → is_below a o ≡ is_below (suc a) (after o)
next_below a None = refl
next_below a (Some k) = sym (leb-suc-suc (suc k) a)

zero_below : (a : ℕ) → true ≡ nat_lt zero (suc a)
zero_below a = sym (leb-suc-suc zero a ∙ leb-zero a)

taken_first : (xs : List (List ℕ)) (a : ℕ) (x : List ℕ) → has_name (take a xs) x ≡ is_below a (first xs x)
taken_first [] zero x = refl
taken_first [] (suc a) x = refl
taken_first (y ∷ ys) zero x = none_below (first (y ∷ ys) x)
taken_first (y ∷ ys) (suc a) x = go (same_name y x) (taken_first ys a x)
  where
    go : (t : Bool) → has_name (take a ys) x ≡ is_below a (first ys x) → (t || has_name (take a ys) x) ≡ is_below (suc a) (if t then Some zero else after (first ys x))
    go true h = zero_below a
    go false h = h ∙ next_below a (first ys x)

from_none : (a : ℕ) (o : Option ℕ) → is_below a (from 0 o) ≡ is_below a o
from_none a None = refl
from_none a (Some i) = ap (λ k. nat_lt k a) (zero_left i)
  where
    zero_left : (i : ℕ) → 0 + i ≡ i
    zero_left i = omega arith

pub taken_number : (xs : List (List ℕ)) (a : ℕ) (x : List ℕ) → is_below a (number_from 0 xs x) ≡ has_name (take a xs) x
taken_number xs a x = ap (λ o. is_below a o) (number_first 0 xs x) ∙ from_none a (first xs x) ∙ sym (taken_first xs a x)
