-- The integers that words of bits stand for, with a sign or without.
use Rattle.std.specs.Prelude.{◌≡◌, ℕ, ◌+◌, ◌*◌, ◌^◌, ℤ, pos, ◌*ℤ◌, Bool, true, false, List, [], ◌∷◌, length}
use Rattle.std.specs.Int.{int_div_euclid}
use Rattle.gate_core.specs.Relations.{All2}
use Rattle.oc_values.specs.Integers.{value_of_bits}

-- a bit as a number: 1 where it is true, else 0
abbrev pub bit : Bool → ℕ
bit false = 0
bit true = 1

-- the number that bits spell, the lowest first
abbrev pub value : List Bool → ℕ
value [] = 0
value (x ∷ xs) = bit x + 2 * value xs

-- the integer that bits stand for, with a sign or without
abbrev pub number : Bool → List Bool → ℤ
number signed bs = value_of_bits signed (length bs) (value bs)

-- wires that stand for the bits of an integer, with a sign or without
abbrev pub Means : {W : Type 0} → (W → Bool → Type 0) → Bool → List W → ℤ → Type 0
Means stands signed ws z = (bs : List Bool) × All2 stands ws bs × (number signed bs ≡ z)

-- a shift by k places, to the left or to the right
abbrev pub shift : Bool → ℤ → ℕ → ℤ
shift true x k = x *ℤ pos (2 ^ k)
shift false x k = int_div_euclid x (pos (2 ^ k))
