-- Command lines: a command's name, its operands, and options in any order, each with its value in the next word. Which
-- commands there are is a table, and nothing here knows what stands in it.
use Rattle.std.specs.Prelude.{ℕ, ◌+◌, ◌≡◌, ◌<◌, ◌≤◌, List, [], ◌∷◌, ◌++◌, length, take, map, Bool, true, ◌&&◌, not, nat_eq, Contains, String, string_bytes}
use Rattle.std.specs.List.{AllByRecursion, AllZip, flat_map, list_any}
use Rattle.std.specs.Str.{bytes_eq}
use Rattle.command_grammar.specs.declared.form.WordForm.{WordForm}
use Rattle.command_grammar.specs.Forms.{fits}

-- an option: its name, the form of its value, and the slots that it takes
pub record CommandOption : Type 0 where
  pub name : List ℕ
  pub form : WordForm
  pub slots : List ℕ

-- a command: which it is to whoever made the table, its name, the forms of its operands, its options, and the slots that
-- have to be taken
pub record Command (K : Type 0) : Type 0 where
  pub kind : K
  pub name : List ℕ
  pub operands : List WordForm
  pub options : List CommandOption
  pub required : List ℕ

-- an option that is given, and its value
pub record Given : Type 0 where
  pub option : CommandOption
  pub value : List ℕ

-- its two words
abbrev pub option_words : Given → List (List ℕ)
option_words g = g.option.name ∷ g.value ∷ []

-- the option is one of the command's, and its value has its form
pub record Belongs {K : Type 0} (c : Command K) (g : Given) : Type 0 where
  pub listed : Contains c.options g.option
  pub form : fits g.option.form g.value ≡ true

-- the slots that given options take
abbrev pub slots_of : List Given → List ℕ
slots_of given = flat_map (λ g. g.option.slots) given

-- the list has this number
abbrev pub has : List ℕ → ℕ → Bool
has ps p = list_any (λ q. nat_eq q p) ps

-- no number stands in the list twice
abbrev pub is_once : List ℕ → Bool
is_once [] = true
is_once (p ∷ ps) = not (has ps p) && is_once ps

-- the words are the command's name, these operands, and these options, none of which takes a slot of another
pub record Reads {K : Type 0} (c : Command K) (words operands : List (List ℕ)) (given : List Given) : Type 0 where
  pub text : words ≡ c.name ∷ (operands ++ flat_map option_words given)
  pub forms : AllZip (λ form word. fits form word ≡ true) c.operands operands
  pub members : AllByRecursion (Belongs c) given
  pub once : is_once (slots_of given) ≡ true

-- the words are this command, with these operands and options: each slot that has to be taken is
pub record IsCommandOf {K : Type 0} (c : Command K) (words operands : List (List ℕ)) (given : List Given) : Type 0 where
  pub reads : Reads c words operands given
  pub complete : AllByRecursion (λ slot. has (slots_of given) slot ≡ true) c.required

-- the words are a command of the table
abbrev pub IsCommand : {K : Type 0} → List (Command K) → List (List ℕ) → Type 0
IsCommand {K} table words =
    (c : Command K) × Contains table c × (operands : List (List ℕ)) × (given : List Given) × IsCommandOf c words operands given

-- some command begins with these words
abbrev pub Begins : {K : Type 0} → List (Command K) → List (List ℕ) → Type 0
Begins table words = (more : List (List ℕ)) × IsCommand table (words ++ more)

-- the words are no command: k is the least index such that no command begins with the words 0 to k, or their number where
-- they begin one
pub record Usage {K : Type 0} (table : List (Command K)) (words : List (List ℕ)) (k : ℕ) : Type 0 where
  pub none : IsCommand table words → ⊥
  pub within : k ≤ length words
  pub begun : Begins table (take k words)
  pub fault : k < length words → Begins table (take (k + 1) words) → ⊥

-- the words before one that isn't text: k is the least index such that no command begins with the words 0 to k, or the
-- number of words, since no command has such a word
pub record Breaks {K : Type 0} (table : List (Command K)) (words : List (List ℕ)) (k : ℕ) : Type 0 where
  pub within : k ≤ length words
  pub begun : Begins table (take k words)
  pub fault : k < length words → Begins table (take (k + 1) words) → ⊥

-- words are one command at most, with one list of operands and one of given options
abbrev pub HasOneReading : {K : Type 0} → List (Command K) → Type 0
HasOneReading {K} table = (words : List (List ℕ)) (c d : Command K) → Contains table c → Contains table d →
    (operands others : List (List ℕ)) (given more : List Given) →
    IsCommandOf c words operands given → IsCommandOf d words others more → (c ≡ d) × (operands ≡ others) × (given ≡ more)

-- no name stands twice
abbrev pub are_once : List (List ℕ) → Bool
are_once [] = true
are_once (n ∷ ns) = not (list_any (bytes_eq n) ns) && are_once ns

-- a command gives each option at most once
abbrev pub GivesOnce : {K : Type 0} → List (Command K) → Type 0
GivesOnce {K} table = (c : Command K) (words operands : List (List ℕ)) (given : List Given) →
    Contains table c → IsCommandOf c words operands given → are_once (map (λ g. g.option.name) given) ≡ true

-- the bytes of the words
abbrev pub texts : {Y : Type 0} → List (String Y) → List (List ℕ)
texts words = map string_bytes words
