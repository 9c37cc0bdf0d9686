-- What reading an input file tells.
use Rattle.std.specs.Prelude.{ℕ, ◌≡◌, ◌≤◌, ℤ, List, length, take, Result, Ok, Err}
use Rattle.input_words.specs.Lines.{HasWords, FirstWrong}
use Rattle.input_words.specs.declared.words.WordsFault.{WordsFault}
use Rattle.input_words.specs.declared.words.WordsFault.TheVariants.{Wrong, NoMemory}

-- these are the file's words, and nothing else is to be said of it
pub record AreItsWords (bytes : List ℕ) (words : List ℤ) : Type 0 where
  pub has : HasWords bytes words
  pub only : (others : List ℤ) → HasWords bytes others → others ≡ words
  pub right : (number : ℕ) → FirstWrong bytes number → ⊥

-- this is the file's first wrong line, and nothing else is to be said of it
pub record IsWrongAt (bytes : List ℕ) (number : ℕ) : Type 0 where
  pub first : FirstWrong bytes number
  pub only : (other : ℕ) → FirstWrong bytes other → other ≡ number
  pub none : (words : List ℤ) → HasWords bytes words → ⊥

-- the answer is the file's words or its first wrong line, unless memory ran out
abbrev pub Tells : List ℕ → Result (List ℤ) WordsFault → Type 0
Tells bytes (Ok words) = AreItsWords bytes words
Tells bytes (Err (Wrong number)) = IsWrongAt bytes number
Tells bytes (Err NoMemory) = Unit {0}

-- a file of at least this many bytes, 65,537 lines of 21, is wrong at the same line as its first so many bytes
abbrev pub LongInputsAreWrong : Type 0
LongInputsAreWrong = (bytes : List ℕ) → 1376277 ≤ length bytes → (number : ℕ) × IsWrongAt bytes number × IsWrongAt (take 1376277 bytes) number
