-- What a command line asks for.
use Rattle.std.specs.Prelude.{ℕ, ◌≡◌, List, Result, Ok, Err}
use Rattle.command_grammar.specs.Grammar.{Usage}
use Rattle.oblivcc_commands.specs.Table.{commands}
use Rattle.oblivcc_commands.specs.Asked.{CheckAsked, ClearAsked, DealAsked, IsCheck, IsClear, IsDeal}
use Rattle.oblivcc_commands.specs.Views.{check_of, clear_of, deal_of}
use Rattle.oblivcc_commands.specs.declared.asked.Asked.{Asked}
use Rattle.oblivcc_commands.specs.declared.asked.Asked.TheVariants.{Check, Clear, Deal}

-- the words ask for this, or are no command
abbrev pub Asks : List (List ℕ) → Result Asked ℕ → Type 0
Asks words (Ok (Check d)) = IsCheck words (check_of d)
Asks words (Ok (Clear d)) = IsClear words (clear_of d)
Asks words (Ok (Deal d)) = IsDeal words (deal_of d)
Asks words (Err k) = Usage commands words k

-- words ask for one thing at most
pub record HaveOneMeaning : Type 0 where
  pub check : (words : List (List ℕ)) (d e : CheckAsked) → IsCheck words d → IsCheck words e → d ≡ e
  pub clear : (words : List (List ℕ)) (d e : ClearAsked) → IsClear words d → IsClear words e → d ≡ e
  pub deal : (words : List (List ℕ)) (d e : DealAsked) → IsDeal words d → IsDeal words e → d ≡ e
  pub check_or_clear : (words : List (List ℕ)) (d : CheckAsked) (e : ClearAsked) → IsCheck words d → IsClear words e → ⊥
  pub check_or_deal : (words : List (List ℕ)) (d : CheckAsked) (e : DealAsked) → IsCheck words d → IsDeal words e → ⊥
  pub clear_or_deal : (words : List (List ℕ)) (d : ClearAsked) (e : DealAsked) → IsClear words d → IsDeal words e → ⊥
