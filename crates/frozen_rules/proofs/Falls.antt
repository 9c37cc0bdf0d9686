-- What a list holds weighs at most as much as the list.
use Rattle.std.proofs.Common.{◌≡◌, ◌≤◌, ◌<◌, ℕ, zero, suc, List, [], ◌∷◌, arith, subst, sym, length}
use Rattle.std.specs.Prelude.{map, max, get_or}
use Rattle.frozen_rules.proofs.Weight.{greatest}

pub item_weight : {A : Type 0} (f : A → ℕ) (xs : List A) (i : ℕ) (x : A) → i < length xs → x ≡ get_or xs i x → f x ≤ greatest (map f xs)
item_weight f [] i x p h = omega arith
item_weight f (y ∷ ys) zero x p h = subst (λ z. f z ≤ max (f y) (greatest (map f ys))) (sym h) (omega arith)
item_weight f (y ∷ ys) (suc i) x p h = let r = item_weight f ys i x (omega arith) h in omega (arith, r)

pub first_weight : {A : Type 0} (f : A → ℕ) (xs ys : List A) (x : A) → xs ≡ x ∷ ys → f x ≤ greatest (map f xs)
first_weight f xs ys x h = subst (λ zs. f x ≤ greatest (map f zs)) (sym h) (omega arith)

pub rest_weight : {A : Type 0} (f : A → ℕ) (xs ys : List A) (x : A) → xs ≡ x ∷ ys → greatest (map f ys) ≤ greatest (map f xs)
rest_weight f xs ys x h = subst (λ zs. greatest (map f ys) ≤ greatest (map f zs)) (sym h) (omega arith)
