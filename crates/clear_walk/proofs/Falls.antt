-- What a list holds weighs at most as much as the list, and a call falls by one body.
use Rattle.std.proofs.Common.{◌≡◌, ◌≤◌, ◌<◌, ℕ, zero, suc, ◌+◌, ◌-◌, ◌*◌, List, [], ◌∷◌, Some, arith, subst, sym, refl, length, true, false}
use Rattle.std.specs.Prelude.{map, max, slice_get, get_or, if◌then◌else◌}
use Rattle.oc_source.specs.declared.spot.Spot.{Spot}
use Rattle.oc_typed.specs.Static.{same_spot}
use Rattle.clear_walk.specs.declared.around.At.{At}
use Rattle.clear_walk.specs.Places.{beside}
use Rattle.clear_walk.proofs.Weight.{greatest}

pub item_weight : {A : Type 0} (f : A → ℕ) (xs : List A) (i : ℕ) (x : A) → i < length xs → x ≡ get_or xs i x → f x ≤ greatest (map f xs)
item_weight f [] i x p h = omega arith
item_weight f (y ∷ ys) zero x p h = subst (λ z. f z ≤ max (f y) (greatest (map f ys))) (sym h) (omega arith)
item_weight f (y ∷ ys) (suc i) x p h = let r = item_weight f ys i x (omega arith) h in omega (arith, r)

pub found_weight : {A : Type 0} (f : A → ℕ) (xs : List A) (i : ℕ) (x : A) → Some x ≡ slice_get xs i → f x ≤ greatest (map f xs)
found_weight f [] i x h = grind arith
found_weight f (y ∷ ys) zero x h = grind arith
found_weight f (y ∷ ys) (suc i) x h = let r = found_weight f ys i x h in omega (arith, r)

pub call_falls : (r b w : ℕ) → (r ≡ 0 → ⊥) → w ≤ b → (r - 1) * (b + 1) + w < r * (b + 1) + 0
call_falls zero b w p h = elim (p refl) [ ]
call_falls (suc r) b w p h = grind arith

-- the part of a conversion has no more room
pub beside_room : (at : At) (p q : Spot) → (beside at p q).room ≤ at.room
beside_room at p q = elim (same_spot p q) as (λ b. (if b then at else record at { room = at.room - 1 }).room ≤ at.room) [
  | true ↦ omega arith
  | false ↦ omega arith
]
