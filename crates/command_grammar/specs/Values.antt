-- What the options of a command line say.
use Rattle.std.specs.Prelude.{ℕ, ℤ, pos, neg_ℤ, List, [], ◌∷◌, drop, map, Option, Some, None, if◌then◌else◌}
use Rattle.std.specs.Str.{bytes_eq}
use Rattle.command_grammar.specs.Forms.{decimal_value, has_minus, parts}
use Rattle.command_grammar.specs.Grammar.{Given}
use Rattle.command_grammar.specs.declared.role.Role.{Role}
use Rattle.command_grammar.specs.declared.role.Role.TheVariants.{First, Second}

-- the value that is given to an option of this name, if one is given
abbrev pub value_of : List Given → List ℕ → Option (List ℕ)
value_of [] name = None
value_of (g ∷ gs) name = if bytes_eq g.option.name name then Some g.value else value_of gs name

-- the number that a value spells, or this one where no value is given
abbrev pub number_or : ℕ → Option (List ℕ) → ℕ
number_or other None = other
number_or other (Some word) = decimal_value word

-- the integer that a word spells
abbrev pub signed_value : List ℕ → ℤ
signed_value word = if has_minus word then neg_ℤ (pos (decimal_value (drop 1 word))) else pos (decimal_value word)

-- the integers of a list with commas between them
abbrev pub list_value : List ℕ → List ℤ
list_value word = map signed_value (parts word)

-- the integers of a list, or none where no value is given
abbrev pub list_or_none : Option (List ℕ) → List ℤ
list_or_none None = []
list_or_none (Some word) = list_value word

-- the number of a role
abbrev pub role_number : Role → ℕ
role_number First = 1
role_number Second = 2
