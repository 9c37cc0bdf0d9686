-- The number of live cells as blocks are made and end.
use Rattle.std.proofs.Common.{ℕ, zero, suc, ◌+◌, ◌≤◌, ◌<◌, ◌^◌, ◌≡◌, refl, sym, ap, subst, List, [], ◌∷◌, ◌++◌, length, Option, Some, None, slice_get, slice_set, arith, Bool, max}
use Rattle.std.specs.Option.{unwrap_or}
use Rattle.oc_cells.specs.declared.memory.Cell.{Cell}
use Rattle.oc_cells.specs.declared.memory.Block.{Block}
use Rattle.oc_cells.specs.declared.memory.Block.TheVariants.{Live, Gone}
use Rattle.oc_cells.specs.Memory.{weight, living, ended}
use Rattle.oc_cells.proofs.Updates.{set_update}

abbrev pub LengthIn : {H : Type 0} → ℕ → Option (Block H) → Type 0
LengthIn n (Some (Live allocated cells)) = length cells ≤ n
LengthIn n (Some Gone) = Unit {0}
LengthIn n None = Unit {0}

abbrev IsThere : {A : Type 0} → Option A → Type 0
IsThere (Some x) = Unit {0}
IsThere None = ⊥

module _ {H : Type 0} where
  length_in_more : (m n : ℕ) (o : Option (Block H)) → LengthIn m o → LengthIn (n + m) o
  length_in_more m n (Some (Live allocated cells)) h = omega (arith, h)
  length_in_more m n (Some Gone) h = tt
  length_in_more m n None h = tt

  length_in_weight : (n : ℕ) (b : Block H) → LengthIn (weight b + n) (Some b)
  length_in_weight n (Live allocated []) = omega arith
  length_in_weight n (Live allocated (c ∷ cs)) = omega arith
  length_in_weight n Gone = tt

  -- no block has more cells than live
  pub length_in_living : (bs : List (Block H)) (i : ℕ) → LengthIn (living bs) (slice_get bs i)
  length_in_living [] i = tt
  length_in_living (c ∷ cs) zero = length_in_weight (living cs) c
  length_in_living (c ∷ cs) (suc i) = length_in_more (living cs) (weight c) (slice_get cs i) (length_in_living cs i)

  pub below_limit : (bs : List (Block H)) (i n l k : ℕ) (a : Bool) (cs : List (Cell H)) → slice_get bs i ≡ Some (Live a cs) → n ≡ length cs → l ≡ living bs → l ≤ k → k < 2 ^ 32 → n < 2 ^ 32
  below_limit bs i n l k a cs e f g h j =
      let w = subst (LengthIn (living bs)) e (length_in_living bs i) in
      omega (arith, w, f, g, h, j)

  weightless : (b c : Block H) → Some c ≡ Some b → weight c ≡ weight b
  weightless b c e = ap (λ o. weight (unwrap_or o b)) e

  -- a block that ends gives its weight back
  pub living_ended : (bs : List (Block H)) (i : ℕ) (b : Block H) → slice_get bs i ≡ Some b → living (slice_set bs i Gone) + weight b ≡ living bs
  living_ended (c ∷ cs) zero b e = let w = weightless b c e in omega (arith, w)
  living_ended (c ∷ cs) (suc i) b e = let w = living_ended cs i b e in omega (arith, w)
  living_ended [] i b e = absurd (subst IsThere (sym e) tt)

  pub set_gone : (bs : List (Block H)) (i : ℕ) (b : Block H) → slice_get bs i ≡ Some b → slice_set bs i Gone ≡ ended bs i
  set_gone bs i b e = set_update (λ _. Gone) bs i b e

  pub living_more : (bs : List (Block H)) (b : Block H) → living (bs ++ b ∷ []) ≡ living bs + weight b
  living_more [] b = omega arith
  living_more (c ∷ bs) b = let w = living_more bs b in omega (arith, w)

  pub weight_of_cells : (a : Bool) (cs : List (Cell H)) → weight (Live a cs) ≡ max 1 (length cs)
  weight_of_cells a [] = refl
  weight_of_cells a (c ∷ cs) = grind arith
