-- The forms that a word of a command line can have.
use Rattle.std.specs.Prelude.{ℕ, ◌+◌, ◌-◌, ◌*◌, ◌^◌, List, [], ◌∷◌, length, drop, codes, slice_index, Option, Some, None, if◌then◌else◌, replicate, Bool, true, false, ◌&&◌, ◌||◌, not, nat_eq, nat_le, fold}
use Rattle.std.specs.List.{list_all, slice_split}
use Rattle.command_grammar.specs.declared.form.WordForm.{WordForm}
use Rattle.command_grammar.specs.declared.form.WordForm.TheVariants.{Any, Number, Key, IntegerList}

-- an ASCII decimal digit
abbrev pub is_digit : ℕ → Bool
is_digit b = nat_le 48 b && nat_le b 57

-- an ASCII hexadecimal digit, in either case
abbrev pub is_hex_digit : ℕ → Bool
is_hex_digit b = is_digit b || (nat_le 65 b && nat_le b 70) || (nat_le 97 b && nat_le b 102)

-- the number that decimal digits spell
abbrev pub decimal_value : List ℕ → ℕ
decimal_value digits = fold (λ n b. 10 * n + (b - 48)) 0 digits

-- decimal digits without a 0 in front of others
abbrev pub is_plain : List ℕ → Bool
is_plain word = nat_le 1 (length word) && not (nat_le 2 (length word) && nat_eq (slice_index word 0) 48) && list_all is_digit word

-- the number that these decimal digits spell, where it is at most this
abbrev pub number_to : ℕ → List ℕ → Option ℕ
number_to most digits = if list_all is_digit digits && nat_le (decimal_value digits) most then Some (decimal_value digits) else None

-- 1 to 19 decimal digits, whose value is at most this
abbrev pub is_decimal_to : ℕ → List ℕ → Bool
is_decimal_to most digits =
    nat_le 1 (length digits) && nat_le (length digits) 19 && list_all is_digit digits && nat_le (decimal_value digits) most

-- a minus stands in front
abbrev pub has_minus : List ℕ → Bool
has_minus word = nat_le 1 (length word) && nat_eq (slice_index word 0) 45

-- 1 to 19 decimal digits, with or without a minus in front, of a value from -2^63 to 2^63 - 1
abbrev pub is_signed : List ℕ → Bool
is_signed word = if has_minus word then is_decimal_to (2 ^ 63) (drop 1 word) else is_decimal_to (2 ^ 63 - 1) word

-- the parts of a word between commas
abbrev pub parts : List ℕ → List (List ℕ)
parts word = slice_split (λ b. nat_eq b 44) word

-- 1 to 65,536 such integers with commas between them
abbrev pub is_integer_list : List ℕ → Bool
is_integer_list word = nat_le (length (parts word)) 65536 && list_all is_signed (parts word)

-- 64 hexadecimal digits
abbrev pub is_key : List ℕ → Bool
is_key word = nat_eq (length word) 64 && list_all is_hex_digit word

-- the word has the form
abbrev pub fits : WordForm → List ℕ → Bool
fits Any word = true
fits (Number least most) word = is_plain word && nat_le least (decimal_value word) && nat_le (decimal_value word) most
fits Key word = is_key word
fits IntegerList word = is_integer_list word

-- a word of the form, of a number its least where that has one digit; that it has the form is computed for each form in use
abbrev pub sample : WordForm → List ℕ
sample Any = []
sample (Number least most) = (48 + least) ∷ []
sample Key = replicate 64 48
sample IntegerList = codes "0"

-- no word has both forms: two ranges of numbers that don't meet
abbrev pub excludes : WordForm → WordForm → Bool
excludes (Number least most) (Number low high) = not (nat_le low most) || not (nat_le least high)
excludes _ _ = false
