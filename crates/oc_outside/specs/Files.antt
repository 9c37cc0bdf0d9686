-- Files in memory, by name.
use Rattle.std.specs.Prelude.{ℕ, List, Option, String}
use Rattle.std.specs.BTreeMap.{BTreeMap, get_by_text}

-- the bytes under a name
abbrev pub held : {Y : Type 0} → BTreeMap (String Y) (List ℕ) → List ℕ → Option (List ℕ)
held files name = get_by_text files name
