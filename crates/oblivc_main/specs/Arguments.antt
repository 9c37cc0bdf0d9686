-- What a process is answered, whose words may be told.
use Rattle.std.specs.Prelude.{ℕ, ◌≡◌, List, ◌∷◌, ◌++◌, Option, IfSome, IsUtf8}
use Rattle.std.specs.List.{AllByRecursion}
use Rattle.command_grammar.specs.Grammar.{Breaks, texts}
use Rattle.oblivcc_commands.specs.Table.{commands}
use Rattle.oblivc_main.specs.Endings.{Output as Stream, Outside}
use Rattle.oblivc_main.specs.Saying.{Said}
use Rattle.oblivc_main.specs.Statuses.{IsUntouched, Answered}
use Rattle.oblivc_main.specs.declared.arguments.Words.{Words}
use Rattle.oblivc_main.specs.declared.arguments.Words.TheVariants.{All, UpTo, NoMemory}
use Rattle.oblivc_main.specs.declared.status.Status.TheVariants.{NoCommand, NoMemory as MemoryWanting}

-- the words of the process are these, and all of them are text
abbrev pub AreWords : Option (List (List ℕ)) → List (List ℕ) → Type 0
AreWords told words = IfSome told (λ all. all ≡ words) × AllByRecursion IsUtf8 words

-- the words of the process begin with these, which are text, and then comes one that isn't
abbrev pub AreBefore : Option (List (List ℕ)) → List (List ℕ) → Type 0
AreBefore told words =
    (word : List ℕ) × IfSome told (λ all. (rest : List (List ℕ)) × (all ≡ words ++ word ∷ rest))
    × AllByRecursion IsUtf8 words × (IsUtf8 word → ⊥)

-- what reading the words of a process answers
abbrev pub ReadsWords : Option (List (List ℕ)) → Words → Type 0
ReadsWords told (All words) = AreWords told (texts words.items)
ReadsWords told (UpTo words) = AreBefore told (texts words.items)
ReadsWords told NoMemory = Unit {0}

-- the answer to a process: that to a call with its words; where one of them isn't text, the number of the first that begins no
-- command, which is at most the number of that one; or want of memory
pub data Served (told : Option (List (List ℕ))) (o : Outside) (err : Stream) (number : ℕ) : Type 0 where
  by_words : (words : List (List ℕ)) → AreWords told words → Answered words o err number → Served told o err number
  by_no_text :
      (words : List (List ℕ)) (k : ℕ) → AreBefore told words → Breaks commands words k → IsUntouched o
      → Said err (NoCommand k) number → Served told o err number
  without_memory : IsUntouched o → Said err MemoryWanting number → Served told o err number
