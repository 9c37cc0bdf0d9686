-- What both parties are to run, as one list of bytes.
use Rattle.std.specs.Prelude.{ℕ, ℤ, List, ◌++◌, length}
use Rattle.std.specs.List.{flat_map}
use Rattle.std.specs.Int.{w64, cast_unsigned, to_be_bytes}

-- the eight bytes of a number, the highest first
abbrev pub number_bytes : ℕ → List ℕ
number_bytes n = to_be_bytes w64 n

-- the eight bytes of a word, in two's complement, the highest first
abbrev pub word_bytes : ℤ → List ℕ
word_bytes word = number_bytes (cast_unsigned w64 word)

-- the source behind its length, the public words behind their number, and the step budget
unfoldable pub setup_bytes : List ℕ → List ℤ → ℕ → List ℕ
setup_bytes source public budget =
    number_bytes (length source) ++ (source ++ (number_bytes (length public) ++ (flat_map word_bytes public ++ number_bytes budget)))
