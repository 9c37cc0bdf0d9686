-- Products.
use Rattle.std.specs.Prelude.{ℕ, ◌+◌, ◌-◌, List, ◌++◌, get_or, take, drop}
use Rattle.gate_core.specs.Circuit.{Circuit, then, times, row}
use Rattle.gate_core.specs.Circuit.Circuit.{give, meet}
use Rattle.word_circuits.specs.Chains.{add_circuit}

-- the first n wires of x where b is true, else zero
abbrev pub part : {W : Type 0} → List W → W → W → ℕ → Circuit W (List W)
part x b d n = row n (λ i. meet (get_or x i d) b (λ w. give w))

-- one row: the multiple of x by b is added to p from the place j on
abbrev pub multiply_row : {W : Type 0} → ℕ → List W → W → W → ℕ → List W → Circuit W (List W)
multiply_row w x b d j p = then (part x b d (w - j)) (λ r. then (add_circuit (w - j) (drop j p) r) (λ s. give (take j p ++ s)))

-- the product so far, p, with the row of y's bit j + 1 added
abbrev pub multiply_step : {W : Type 0} → ℕ → List W → List W → W → ℕ → List W → Circuit W (List W)
multiply_step w x y d j p = multiply_row w x (get_or y (j + 1) d) d (j + 1) p

-- the product of two words of w wires, modulo 2^w
abbrev pub multiply_circuit : {W : Type 0} → ℕ → List W → List W → W → Circuit W (List W)
multiply_circuit w x y d = then (part x (get_or y 0 d) d w) (times (w - 1) (multiply_step w x y d))
