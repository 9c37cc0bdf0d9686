-- What a table has to be, as a test that is computed.
use Rattle.std.specs.Prelude.{ℕ, List, [], ◌∷◌, Bool, true, false, ◌&&◌, ◌||◌, not, length, nat_le}
use Rattle.std.specs.List.{list_all, list_any}
use Rattle.std.specs.Str.{bytes_eq}
use Rattle.command_grammar.specs.declared.form.WordForm.{WordForm}
use Rattle.command_grammar.specs.Forms.{fits, sample, excludes}
use Rattle.command_grammar.specs.Grammar.{CommandOption, Command, has, is_once}

-- each form has its sample
abbrev pub has_sample : WordForm → Bool
has_sample form = fits form (sample form)

-- no name and value mean both options, and where they have one name, they take a slot in common
abbrev pub are_apart : CommandOption → CommandOption → Bool
are_apart o p = not (bytes_eq o.name p.name) || (excludes o.form p.form && list_any (has o.slots) p.slots)

-- no name and value mean two of the options
abbrev pub is_unambiguous : List CommandOption → Bool
is_unambiguous [] = true
is_unambiguous (o ∷ os) = list_all (are_apart o) os && is_unambiguous os

-- the option takes this slot and no other
abbrev pub takes_only : ℕ → CommandOption → Bool
takes_only slot o = bytes_eq o.slots (slot ∷ [])

-- an option can be completed, and takes some slots, each once
abbrev pub is_sound_option : CommandOption → Bool
is_sound_option o = has_sample o.form && nat_le 1 (length o.slots) && is_once o.slots

-- a command can be read, and each front of it be completed
abbrev pub is_sound_command : {K : Type 0} → Command K → Bool
is_sound_command c = list_all has_sample c.operands && list_all is_sound_option c.options && is_unambiguous c.options &&
    list_all (λ slot. list_any (takes_only slot) c.options) c.required

-- no two commands have one name
abbrev pub are_distinct : {K : Type 0} → List (Command K) → Bool
are_distinct [] = true
are_distinct (c ∷ cs) = list_all (λ d. not (bytes_eq c.name d.name)) cs && are_distinct cs

-- there is a command, and the table can be read
abbrev pub is_sound : {K : Type 0} → List (Command K) → Bool
is_sound [] = false
is_sound (c ∷ cs) = are_distinct (c ∷ cs) && list_all is_sound_command (c ∷ cs)
