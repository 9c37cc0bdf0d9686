-- A word as a line of an input file spells it.
use Rattle.std.specs.Prelude.{ℕ, ◌+◌, ◌-◌, ◌*◌, ◌≡◌, ◌≤◌, ℤ, pos, neg_ℤ, List, [], ◌∷◌, ◌++◌, length, Bool, true, false, IsTrue, nat_le, ◌&&◌, fold}
use Rattle.std.specs.List.{list_all}
use Rattle.oc_values.specs.Integers.{is_in_bits}

-- an ASCII decimal digit
abbrev pub is_digit : ℕ → Bool
is_digit b = nat_le 48 b && nat_le b 57

-- the number that decimal digits spell
abbrev pub decimal_value : List ℕ → ℕ
decimal_value digits = fold (λ n b. 10 * n + (b - 48)) 0 digits

-- the bytes of a sign: a minus, or none
abbrev pub sign_of : Bool → List ℕ
sign_of true = 45 ∷ []
sign_of false = []

-- the integer of a natural number, negated where there is a minus
abbrev pub signed : Bool → ℕ → ℤ
signed true n = neg_ℤ (pos n)
signed false n = pos n

-- the line spells the word: an optional minus and 1 to 19 decimal digits, whose value has 64 bits
pub record IsWord (line : List ℕ) (word : ℤ) : Type 0 where
  pub minus : Bool
  pub digits : List ℕ
  pub text : line ≡ sign_of minus ++ digits
  pub decimal : IsTrue (list_all is_digit digits)
  pub some : 1 ≤ length digits
  pub most : length digits ≤ 19
  pub value : word ≡ signed minus (decimal_value digits)
  pub range : IsTrue (is_in_bits true 64 word)
