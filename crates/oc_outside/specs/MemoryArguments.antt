-- The words of a process in memory, as contracts see them.
use Rattle.std.specs.Prelude.{ℕ, List, map}
use Rattle.oc_outside.specs.declared.arguments.MemoryArguments.{MemoryArguments}

-- the bytes of each word
abbrev pub words_of : MemoryArguments → List (List ℕ)
words_of a = map (λ word. word.now) a.words.now
