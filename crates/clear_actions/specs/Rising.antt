-- Slots whose numbers rise.
use Rattle.std.specs.Prelude.{ℕ, ◌-◌, ◌≡◌, ◌≤◌, ◌<◌, nat_eq, nat_lt, slice_get, get_or, length, Bool, true, false, ◌&&◌, List, [], ◌∷◌, Option, Some, None}
use Rattle.oc_walk.specs.declared.run.Named.{Named}

-- whether a number is greater than this one, if there is one
abbrev pub is_over : Option ℕ → ℕ → Bool
is_over None n = true
is_over (Some m) n = nat_lt m n

-- whether each slot's number is greater than the one before it, and the first than this one
abbrev pub rises : Option ℕ → List Named → Bool
rises m [] = true
rises m (e ∷ es) = is_over m e.slot && rises (Some e.slot) es

-- whether a number is greater than that of a slot, if there is one
abbrev pub is_over_slot : Option Named → ℕ → Bool
is_over_slot None n = true
is_over_slot (Some e) n = nat_lt e.slot n

-- whether a number is greater than that of the last of these slots
abbrev pub stands_over : List Named → ℕ → Bool
stands_over es n = is_over_slot (slice_get es (length es - 1)) n

-- whether it is a slot with this number
abbrev pub has_slot : ℕ → Option Named → Bool
has_slot n None = false
has_slot n (Some e) = nat_eq e.slot n

-- before this place the slots' numbers are lower, and from there on they aren't
pub record IsPlaceOf (n : ℕ) (es : List Named) (place : ℕ) : Type 0 where
  pub within : place ≤ length es
  pub before : (k : ℕ) (d : Named) → k < place → nat_lt (get_or es k d).slot n ≡ true
  pub behind : (k : ℕ) (d : Named) → place ≤ k → k < length es → nat_lt (get_or es k d).slot n ≡ false
