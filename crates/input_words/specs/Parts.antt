-- The parts of a line, as they are taken off.
use Rattle.std.specs.Prelude.{ℕ, ℤ, List, [], ◌∷◌, drop, Bool, true, false, nat_eq, Option, Some, None, if◌then◌else◌}
use Rattle.std.specs.List.{list_all}
use Rattle.oc_values.specs.Integers.{is_in_bits}
use Rattle.input_words.specs.Words.{is_digit, decimal_value}

-- the first byte is a minus
abbrev pub is_minus : List ℕ → Bool
is_minus [] = false
is_minus (b ∷ bs) = nat_eq b 45

-- the bytes after a minus in front
abbrev pub digits_of : List ℕ → List ℕ
digits_of line = if is_minus line then drop 1 line else line

-- the number of decimal digits
abbrev pub decimal_of : List ℕ → Option ℕ
decimal_of digits = if list_all is_digit digits then Some (decimal_value digits) else None

-- the number, where it has 64 bits
abbrev pub fitting : ℤ → Option ℤ
fitting z = if is_in_bits true 64 z then Some z else None
