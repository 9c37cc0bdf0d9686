-- Decimal digits from the left.
use Rattle.std.proofs.Common.{ℕ, ◌+◌, ◌-◌, ◌*◌, ◌≡◌, ◌<◌, ◌≤◌, List, [], ◌∷◌, take, drop, Bool, true, false, Some, None, refl, sym, ap, ◌∙◌, arith}
use Rattle.std.specs.Prelude.{◌&&◌, nat_le, fold, if◌then◌else◌}
use Rattle.std.specs.List.{list_all}
use Rattle.std.proofs.lemmas.Bool.Decides.{nat_tests}
use Rattle.std.proofs.lemmas.List.{take-append-drop}
use Rattle.std.proofs.lemmas.List.Sums.{fold-append}
use Rattle.command_grammar.specs.Forms.{decimal_value, is_digit, number_to}

abbrev step : ℕ → ℕ → ℕ
step n b = 10 * n + (b - 48)

grows : (ds : List ℕ) (n : ℕ) → n ≤ fold step n ds
grows [] n = omega arith
grows (d ∷ ds) n = let more = grows ds (step n d) in omega (arith, more)

-- the first digits spell no more than all
pub front_value : (ds : List ℕ) (i : ℕ) → decimal_value (take i ds) ≤ decimal_value ds
front_value ds i =
    let all : decimal_value ds ≡ fold step (decimal_value (take i ds)) (drop i ds) = ap decimal_value (sym (take-append-drop i ds)) ∙ fold-append step 0 (take i ds) (drop i ds) in
    omega (arith, all, grows (drop i ds) (decimal_value (take i ds)))

-- digits whose front spells too much
pub too_much : (most : ℕ) (ds : List ℕ) (i : ℕ) → most < decimal_value (take i ds) → number_to most ds ≡ None
too_much most ds i h =
    let more = front_value ds i in
    let over : nat_le (decimal_value ds) most ≡ false = grind (arith, nat_tests) in
    none_of (list_all is_digit ds) (nat_le (decimal_value ds) most) over
  where
    none_of : (a b : Bool) → b ≡ false → (if a && b then Some (decimal_value ds) else None) ≡ None
    none_of true b e = ap (λ t. if t then Some (decimal_value ds) else None) e
    none_of false b e = refl
