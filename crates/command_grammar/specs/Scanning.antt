-- The tests that the scanner makes of the words, and the operands and options that it finds.
use Rattle.std.specs.Prelude.{ℕ, ◌+◌, ◌≡◌, ◌≤◌, List, [], ◌∷◌, ◌++◌, length, take, drop, Bool, true, ◌&&◌, not, Option, Some, None, if◌then◌else◌}
use Rattle.std.specs.List.{AllZip, list_all, list_any, find}
use Rattle.std.specs.Str.{bytes_eq}
use Rattle.command_grammar.specs.declared.form.WordForm.{WordForm}
use Rattle.command_grammar.specs.Forms.{fits}
use Rattle.command_grammar.specs.Grammar.{CommandOption, Command, Given, has}

-- the option has this name, and its form the value
abbrev pub means : List ℕ → List ℕ → CommandOption → Bool
means name value o = bytes_eq o.name name && fits o.form value

-- the option of this name whose form the value has
abbrev pub option_of : List CommandOption → List ℕ → List ℕ → Option CommandOption
option_of options name value = find (means name value) options

-- the slots of an option, if there is one
abbrev pub slots_or_none : Option CommandOption → List ℕ
slots_or_none None = []
slots_or_none (Some o) = o.slots

-- the slots that pairs of a name and a value take
abbrev pub slots_in : List CommandOption → List (List ℕ) → List ℕ
slots_in options [] = []
slots_in options (name ∷ []) = []
slots_in options (name ∷ value ∷ words) = slots_or_none (option_of options name value) ++ slots_in options words

-- no slot of the option is taken
abbrev pub is_free : List ℕ → CommandOption → Bool
is_free taken o = list_all (λ p. not (has taken p)) o.slots

-- an option of this name is free
abbrev pub can_name : List CommandOption → List ℕ → List ℕ → Bool
can_name options taken name = list_any (λ o. bytes_eq o.name name && is_free taken o) options

-- an option of this name, whose form the value has, is free
abbrev pub can_take : List CommandOption → List ℕ → List ℕ → List ℕ → Bool
can_take options taken name value = list_any (λ o. means name value o && is_free taken o) options

-- an option with its value, if there is one, before others
abbrev pub given_option : List ℕ → Option CommandOption → List Given → List Given
given_option value None gs = gs
given_option value (Some o) gs = record { option = o; value = value } ∷ gs

-- the options that pairs of a name and a value give
abbrev pub given_in : List CommandOption → List (List ℕ) → List Given
given_in options [] = []
given_in options (name ∷ []) = []
given_in options (name ∷ value ∷ words) = given_option value (option_of options name value) (given_in options words)

-- the command of this name
abbrev pub command_named : {K : Type 0} → List (Command K) → List ℕ → Option (Command K)
command_named table name = find (λ c. bytes_eq c.name name) table

-- how many operands stand in front that have their forms
abbrev pub fitting : List WordForm → List (List ℕ) → ℕ
fitting [] words = 0
fitting (f ∷ fs) [] = 0
fitting (f ∷ fs) (w ∷ ws) = if fits f w then 1 + fitting fs ws else 0

-- the operands of a command
abbrev pub operands_in : {K : Type 0} → Command K → List (List ℕ) → List (List ℕ)
operands_in c words = take (length c.operands) (drop 1 words)

-- the given options of a command
abbrev pub options_in : {K : Type 0} → Command K → List (List ℕ) → List Given
options_in c words = given_in c.options (drop (1 + length c.operands) words)

-- the words begin with the command's name and all its operands
pub record HasOperands {K : Type 0} (c : Command K) (words : List (List ℕ)) : Type 0 where
  pub named : take 1 words ≡ c.name ∷ []
  pub enough : 1 + length c.operands ≤ length words
  pub forms : AllZip (λ form word. fits form word ≡ true) c.operands (operands_in c words)
