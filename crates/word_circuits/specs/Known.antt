-- Words that are known to all.
use Rattle.std.specs.Prelude.{ℕ, zero, suc, ◌/◌, ◌^◌, ◌==◌, bit_and, Bool, List, [], ◌∷◌, ◌++◌}
use Rattle.gate_core.specs.Circuit.{Calls}

-- the bit of a number at a place
abbrev pub known_bit : ℕ → ℕ → Bool
known_bit n i = bit_and (n / 2 ^ i) 1 == 1

-- wires that are known to all, for the lowest w bits of a number, the lowest first
abbrev pub known_wires : {S W : Type 0} → Calls S W → S → ℕ → ℕ → List W
known_wires m s n zero = []
known_wires m s n (suc w) = known_wires m s n w ++ m.known_wire s (known_bit n w) ∷ []
