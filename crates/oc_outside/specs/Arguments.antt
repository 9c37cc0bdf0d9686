-- What is said of the answers to asking for the words of a process.
use Rattle.std.specs.Prelude.{ℕ, List, ⊤}
use Rattle.oc_outside.specs.declared.arguments.WordAnswer.{WordAnswer}
use Rattle.oc_outside.specs.declared.arguments.WordAnswer.TheVariants.{Word, End, NoMemory}

-- a fact of the bytes, where there is such a word
abbrev pub IfWord : WordAnswer → (List ℕ → Type 0) → Type 0
IfWord (Word bytes) fact = fact bytes.items
IfWord End fact = ⊤
IfWord NoMemory fact = ⊤

-- a fact where there is no such word
abbrev pub OnEnd : WordAnswer → Type 0 → Type 0
OnEnd (Word bytes) fact = ⊤
OnEnd End fact = fact
OnEnd NoMemory fact = ⊤
