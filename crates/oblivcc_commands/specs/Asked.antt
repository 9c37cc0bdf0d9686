-- What each command asks for.
use Rattle.std.specs.Prelude.{ℕ, ◌≡◌, ◌≤◌, ℤ, List, [], ◌∷◌, codes, Option, Some, Ok}
use Rattle.hex.specs.Hex.{decode_sized}
use Rattle.command_grammar.specs.Forms.{decimal_value}
use Rattle.command_grammar.specs.Grammar.{Given, IsCommandOf}
use Rattle.command_grammar.specs.Values.{list_or_none, number_or, value_of}
use Rattle.oblivcc_commands.specs.Table.{check_command, clear_command, deal_command}

-- what `check` asks for: the source's name
pub record CheckAsked : Type 0 where
  pub file : List ℕ

-- the words are `check` and ask for this
pub record IsCheck (words : List (List ℕ)) (d : CheckAsked) : Type 0 where
  pub given : List Given
  pub command : IsCommandOf check_command words (d.file ∷ []) given

-- what `clear` asks for: the source's name, those of the inputs of both parties where they are given, the public words, and
-- how many steps and dealt transfers the run may use
pub record ClearAsked : Type 0 where
  pub file : List ℕ
  pub first : Option (List ℕ)
  pub second : Option (List ℕ)
  pub public : List ℤ
  pub steps : ℕ
  pub dealt : ℕ

-- the words are `clear` and ask for this: what isn't given is no input, no public word, and as many steps and transfers as may be
pub record IsClear (words : List (List ℕ)) (d : ClearAsked) : Type 0 where
  pub given : List Given
  pub command : IsCommandOf clear_command words (d.file ∷ []) given
  pub first : d.first ≡ value_of given (codes "--input1")
  pub second : d.second ≡ value_of given (codes "--input2")
  pub public : d.public ≡ list_or_none (value_of given (codes "--public"))
  pub steps : d.steps ≡ number_or 1000000000 (value_of given (codes "--steps"))
  pub dealt : d.dealt ≡ number_or 1048576 (value_of given (codes "--dealt"))
  pub few_steps : d.steps ≤ 1000000000
  pub few_dealt : d.dealt ≤ 1048576

-- what `deal` asks for: the key's 32 bytes, the number of transfers, and the names of the sender's and the receiver's file
pub record DealAsked : Type 0 where
  pub key : List ℕ
  pub count : ℕ
  pub first : List ℕ
  pub second : List ℕ

-- the words are `deal` and ask for this
pub record IsDeal (words : List (List ℕ)) (d : DealAsked) : Type 0 where
  pub given : List Given
  pub command : IsCommandOf deal_command words [] given
  pub key_word : List ℕ
  pub key_given : value_of given (codes "--key") ≡ Some key_word
  pub key : decode_sized key_word 32 ≡ Ok d.key
  pub count_word : List ℕ
  pub count_given : value_of given (codes "--count") ≡ Some count_word
  pub count : d.count ≡ decimal_value count_word
  pub few : d.count ≤ 1048576
  pub first : value_of given (codes "--out1") ≡ Some d.first
  pub second : value_of given (codes "--out2") ≡ Some d.second
