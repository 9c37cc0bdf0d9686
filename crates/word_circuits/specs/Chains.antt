-- Chains of carries: sums, differences, comparisons.
use Rattle.std.specs.Prelude.{ℕ, ◌+◌, ◌-◌, Bool, true, false, List, [], ◌∷◌, ◌++◌, get_or, take, replicate}
use Rattle.gate_core.specs.Circuit.{Circuit, then, times, row}
use Rattle.gate_core.specs.Circuit.Circuit.{give, known, flip, join, meet}

-- the sums so far, and the carry
pub record Carried (W : Type 0) : Type 0 where
  pub sums : List W
  pub carry : W

-- the sum of three wires, and the carry
abbrev pub adder : {W : Type 0} → W → W → W → Circuit W (W × W)
adder x y c = join x c (λ p. join y c (λ q. meet p q (λ both. join p y (λ s. join c both (λ d. give (s, d))))))

-- one place of a chain of carries; d is for a place that isn't there
abbrev pub chain_step : {W : Type 0} → List W → List W → W → ℕ → Carried W → Circuit W (Carried W)
chain_step x y d i a = then (adder (get_or x i d) (get_or y i d) a.carry) (λ r. give (record { sums = a.sums ++ r.0 ∷ []; carry = r.1 }))

-- n places of a chain of carries, from the carry c
abbrev pub chain : {W : Type 0} → List W → List W → W → W → ℕ → Circuit W (Carried W)
chain x y d c n = times n (chain_step x y d) (record { sums = []; carry = c })

-- a chain's last place, whose carry isn't made
abbrev pub last_sum : {W : Type 0} → List W → List W → W → ℕ → Carried W → Circuit W (List W)
last_sum x y d i a = join (get_or x i d) a.carry (λ p. join p (get_or y i d) (λ s. give (a.sums ++ s ∷ [])))

-- the sum of two words and a carry
abbrev pub sums : {W : Type 0} → ℕ → List W → List W → W → Circuit W (List W)
sums w x y c = then (chain x y c c (w - 1)) (last_sum x y c (w - 1))

-- the sum of two words of w wires, modulo 2^w
abbrev pub add_circuit : {W : Type 0} → ℕ → List W → List W → Circuit W (List W)
add_circuit w x y = known false (λ low. sums w x y low)

-- the negations of the first n bits
abbrev pub flips : {W : Type 0} → List W → W → ℕ → Circuit W (List W)
flips x d n = row n (λ i. flip (get_or x i d) (λ w. give w))

-- x minus y, modulo 2^w
abbrev pub subtract_circuit : {W : Type 0} → ℕ → List W → List W → Circuit W (List W)
subtract_circuit w x y = known true (λ high. then (flips y high w) (λ ny. sums w x ny high))

-- minus x, modulo 2^w
abbrev pub negate_circuit : {W : Type 0} → ℕ → List W → Circuit W (List W)
negate_circuit w x = known false (λ low. subtract_circuit w (replicate w low) x)

-- a word whose top bit is turned where it has a sign
abbrev pub biased : {W : Type 0} → Bool → ℕ → List W → W → Circuit W (List W)
biased true w x d = flip (get_or x (w - 1) d) (λ t. give (take (w - 1) x ++ t ∷ []))
biased false w x d = give x

-- whether x is below y: their difference borrows
abbrev pub less_circuit : {W : Type 0} → Bool → ℕ → List W → List W → Circuit W (List W)
less_circuit signed w x y = known true (λ high. then (biased signed w x high) (λ u. then (biased signed w y high) (λ v.
    then (flips v high w) (λ nv. then (chain u nv high high w) (λ a. flip a.carry (λ l. give (l ∷ [])))))))

-- whether all of w wires are true, each made by a circuit
abbrev pub conjunction : {W : Type 0} → (ℕ → Circuit W W) → ℕ → Circuit W W
conjunction f w = then (f 0) (times (w - 1) (λ i t. then (f (i + 1)) (λ z. meet t z (λ u. give u))))

-- whether x and y have the same bit at the place i; d is for a place that isn't there
abbrev pub alike : {W : Type 0} → List W → List W → W → ℕ → Circuit W W
alike x y d i = join (get_or x i d) (get_or y i d) (λ p. flip p (λ z. give z))

-- whether two words of w wires are equal, as a word of one wire
abbrev pub equal_circuit : {W : Type 0} → ℕ → List W → List W → W → Circuit W (List W)
equal_circuit w x y d = then (conjunction (alike x y d) w) (λ t. give (t ∷ []))

-- the negation of the bit at the place i; d is for a place that isn't there
abbrev pub other : {W : Type 0} → List W → W → ℕ → Circuit W W
other x d i = flip (get_or x i d) (λ z. give z)

-- whether a word of w wires isn't 0, as a word of one wire
abbrev pub to_bool_circuit : {W : Type 0} → ℕ → List W → W → Circuit W (List W)
to_bool_circuit w x d = then (conjunction (other x d) w) (λ t. flip t (λ r. give (r ∷ [])))

-- the other bit of the first wire of a word, as a word of one wire; d is for a wire that isn't there
abbrev pub other_word : {W : Type 0} → W → List W → Circuit W (List W)
other_word d x = flip (get_or x 0 d) (λ r. give (r ∷ []))
