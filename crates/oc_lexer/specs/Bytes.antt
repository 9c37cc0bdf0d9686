-- Bytes of a source: the classes that they are of, and runs of bytes of one class.
use Rattle.std.specs.Prelude.{ℕ, List, [], ◌∷◌, Bool, true, false, ◌&&◌, ◌||◌, not, nat_eq, nat_le, if◌then◌else◌}
use Rattle.oc_lexer.specs.declared.bytes.ByteClass.{ByteClass}
use Rattle.oc_lexer.specs.declared.bytes.ByteClass.TheVariants.{Space, Name, Number, Decimal, Octal, Hexadecimal, Line}

-- a tab, a vertical tab, a form feed, a carriage return or a space
abbrev pub is_space : ℕ → Bool
is_space b = nat_eq b 9 || (nat_le 11 b && nat_le b 13) || nat_eq b 32

-- a space or a newline
abbrev pub is_blank : ℕ → Bool
is_blank b = is_space b || nat_eq b 10

-- a digit from 0 to 9
abbrev pub is_digit : ℕ → Bool
is_digit b = nat_le 48 b && nat_le b 57

-- an ASCII letter or `_`
abbrev pub is_name_start : ℕ → Bool
is_name_start b = (nat_le 65 b && nat_le b 90) || (nat_le 97 b && nat_le b 122) || nat_eq b 95

-- an ASCII letter, a digit or `_`
abbrev pub is_name_byte : ℕ → Bool
is_name_byte b = is_name_start b || is_digit b

-- whether a byte is of the class; `Number` is the bytes of names and `.`, and `Line` all but the newline
abbrev pub is_in : ByteClass → ℕ → Bool
is_in Space b = is_space b
is_in Name b = is_name_byte b
is_in Number b = is_name_byte b || nat_eq b 46
is_in Decimal b = is_digit b
is_in Octal b = nat_le 48 b && nat_le b 55
is_in Hexadecimal b = is_digit b || (nat_le 65 b && nat_le b 70) || (nat_le 97 b && nat_le b 102)
is_in Line b = not (nat_eq b 10)

-- whether a text has no bytes
abbrev pub is_empty : List ℕ → Bool
is_empty [] = true
is_empty (b ∷ bs) = false

-- whether a text begins with a byte of the class
abbrev pub begins_with : (ℕ → Bool) → List ℕ → Bool
begins_with p [] = false
begins_with p (b ∷ bs) = p b

-- the bytes of a class with which a text begins, as many as there are
abbrev pub run : (ℕ → Bool) → List ℕ → List ℕ
run p [] = []
run p (b ∷ bs) = if p b then b ∷ run p bs else []

-- what follows them
abbrev pub after : (ℕ → Bool) → List ℕ → List ℕ
after p [] = []
after p (b ∷ bs) = if p b then after p bs else b ∷ bs
