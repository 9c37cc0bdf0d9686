-- The lines of an input file, the words that they spell, and the first of them that is wrong.
use Rattle.std.specs.Prelude.{ℕ, ◌+◌, ◌≡◌, ◌≤◌, ℤ, List, [], ◌∷◌, ◌++◌, length, nat_eq, if◌then◌else◌, ◌⊎◌}
use Rattle.input_words.specs.Words.{IsWord}

-- a byte in front of lines begins the first of them
abbrev pub begun : ℕ → List (List ℕ) → List (List ℕ)
begun b [] = (b ∷ []) ∷ []
begun b (line ∷ lines) = (b ∷ line) ∷ lines

-- the lines of a text: a newline ends each, and may be missing after the last
abbrev pub lines_of : List ℕ → List (List ℕ)
lines_of [] = []
lines_of (b ∷ bs) = if nat_eq b 10 then [] ∷ lines_of bs else begun b (lines_of bs)

-- the lines spell these words, each its own
abbrev pub Spell : List (List ℕ) → List ℤ → Type 0
Spell [] [] = Unit {0}
Spell [] (word ∷ words) = ⊥
Spell (line ∷ lines) [] = ⊥
Spell (line ∷ lines) (word ∷ words) = IsWord line word × Spell lines words

-- the file has these words: its lines spell them, and there are at most 65,536
pub record HasWords (bytes : List ℕ) (words : List ℤ) : Type 0 where
  pub spelled : Spell (lines_of bytes) words
  pub few : length words ≤ 65536

-- the line of this number, from 1, is the first wrong one: the lines before it spell words, and it spells none or is the 65,537th
pub record FirstWrong (bytes : List ℕ) (number : ℕ) : Type 0 where
  pub before : List (List ℕ)
  pub line : List ℕ
  pub after : List (List ℕ)
  pub lines : lines_of bytes ≡ before ++ line ∷ after
  pub place : number ≡ length before + 1
  pub words : List ℤ
  pub spelled : Spell before words
  pub few : length before ≤ 65536
  pub wrong : (number ≡ 65537) ⊎ ((word : ℤ) → IsWord line word → ⊥)
