-- How the values of options are read from the words after the operands.
use Rattle.std.specs.Prelude.{ℕ, ℤ, pos, List, [], ◌∷◌, map, Bool, true, false, ◌&&◌, ◌||◌, not, nat_le, Option, Some, None, Result, Ok, Err, replicate, if◌then◌else◌}
use Rattle.std.specs.List.{list_all}
use Rattle.std.specs.Option.{unwrap_or}
use Rattle.std.specs.Str.{bytes_eq}
use Rattle.command_grammar.specs.declared.form.WordForm.{WordForm}
use Rattle.command_grammar.specs.declared.form.WordForm.TheVariants.{Any, Number, Key, IntegerList}
use Rattle.command_grammar.specs.Forms.{is_signed, number_to, parts}
use Rattle.command_grammar.specs.Grammar.{CommandOption}
use Rattle.hex.specs.Hex.{decode_sized}
use Rattle.hex.specs.declared.FromHexError.{FromHexError}
use Rattle.command_grammar.specs.Values.{signed_value}

-- the word after the first of this name, of words that stand in pairs
abbrev pub value_after : List (List ℕ) → List ℕ → Option (List ℕ)
value_after [] name = None
value_after (n ∷ []) name = None
value_after (n ∷ v ∷ ws) name = if bytes_eq n name then Some v else value_after ws name

-- the number of a value, where it is at most this
abbrev pub read_number : ℕ → ℕ → Option (List ℕ) → ℕ
read_number most other None = other
read_number most other (Some word) = unwrap_or (number_to most word) other

-- the integer of a word, or 0
abbrev pub read_signed : List ℕ → ℤ
read_signed word = if is_signed word then signed_value word else pos 0

-- the integers of a list's value, if there is one
abbrev pub read_list : Option (List ℕ) → List ℤ
read_list None = []
read_list (Some word) = map read_signed (parts word)

-- each word of the first form has the second
abbrev pub is_within : WordForm → WordForm → Bool
is_within form Any = true
is_within (Number least most) (Number low high) = nat_le low least && nat_le most high
is_within Key Key = true
is_within IntegerList IntegerList = true
is_within _ _ = false

-- each option of this name has values of this form
abbrev pub takes_form : List CommandOption → List ℕ → WordForm → Bool
takes_form options name form = list_all (λ o. not (bytes_eq o.name name) || is_within o.form form) options

-- the bytes of a key, or zeros
abbrev pub key_or_zeros : Result (List ℕ) FromHexError → List ℕ
key_or_zeros (Ok key) = key
key_or_zeros (Err e) = replicate 32 0

-- the bytes of a key's value, or zeros
abbrev pub read_key : Option (List ℕ) → List ℕ
read_key None = replicate 32 0
read_key (Some word) = key_or_zeros (decode_sized word 32)
