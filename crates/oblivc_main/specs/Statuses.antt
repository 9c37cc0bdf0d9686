-- What the program answers: a status, with its cause, what was printed, and the line that goes to the error stream.
use Rattle.std.specs.Prelude.{ℕ, ◌≡◌, List, Ok}
use Rattle.command_grammar.specs.Grammar.{Usage}
use Rattle.oblivcc_commands.specs.Table.{commands}
use Rattle.oblivcc_commands.specs.Asks.{Asks}
use Rattle.oblivcc_commands.specs.declared.asked.Asked.{Asked}
use Rattle.oblivc_main.specs.Endings.{Output as Stream, Outside, IsSilent, IsAnswered}
use Rattle.oblivc_main.specs.Saying.{Said}
use Rattle.oblivc_main.specs.declared.status.Status.{Status}
use Rattle.oblivc_main.specs.declared.status.Status.TheVariants.{NoCommand}

-- nothing was printed, and what the vault tells stays
pub record IsUntouched (o : Outside) : Type 0 where
  pub silent : IsSilent o.out
  pub kept : (name : List ℕ) → o.told_after name ≡ o.told name

-- why words end so: they are no command, and this is the first wrong one; or they ask for something that ends so
pub data Serves (words : List (List ℕ)) (o : Outside) (status : Status) : Type 0 where
  usage : (k : ℕ) → status ≡ NoCommand k → Usage commands words k → IsUntouched o → Serves words o status
  command : (asked : Asked) → Asks words (Ok asked) → IsAnswered o asked status → Serves words o status

-- what a call answers: a status that has its cause, and what saying it answers
pub record Answered (words : List (List ℕ)) (o : Outside) (err : Stream) (number : ℕ) : Type 0 where
  pub status : Status
  pub cause : Serves words o status
  pub said : Said err status number
