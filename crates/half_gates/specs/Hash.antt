-- The hash of a wire's label.
use Rattle.std.specs.Prelude.{ℕ, ◌++◌, List, take}
use Rattle.std.specs.Int.{w64, w128, to_le_bytes, to_be_bytes, from_le_bytes}
use Rattle.sha2.specs.Sha256.{sha256}

-- the 24 bytes that are hashed: the label, its lowest byte first, and the tweak, its highest byte first
abbrev pub hash_input : ℕ → ℕ → List ℕ
hash_input label tweak = to_le_bytes w128 label ++ to_be_bytes w64 tweak

-- the first 16 bytes of the SHA-256 digest of those, read as a number, its lowest byte first
unfoldable pub hash_of : ℕ → ℕ → ℕ
hash_of label tweak = from_le_bytes w128 (take 16 (sha256 (hash_input label tweak)))
