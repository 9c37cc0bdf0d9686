-- Divisions.
use Rattle.std.specs.Prelude.{ℕ, ◌+◌, ◌-◌, Bool, true, false, List, [], ◌∷◌, ◌++◌, get_or, replicate}
use Rattle.gate_core.specs.Circuit.{Circuit, then, times}
use Rattle.gate_core.specs.Circuit.Circuit.{give, known, join, meet}
use Rattle.word_circuits.specs.Chains.{Carried, chain, flips}
use Rattle.word_circuits.specs.Choices.{choose}

-- the quotient's bits so far, the lowest first, and what remains
pub record Divided (W : Type 0) : Type 0 where
  pub quotient : List W
  pub rest : List W

-- one bit of a quotient, and what remains: u is the next bit of the dividend, ny the divisor turned, with one place more
abbrev pub divide_bit : {W : Type 0} → W → List W → W → List W → ℕ → Circuit W (W × List W)
divide_bit u ny high rest w =
    then (chain (u ∷ rest) ny high high (w + 1)) (λ b.
    then (choose b.carry b.sums (u ∷ rest) (u ∷ rest) high w) (λ r. give (b.carry, r)))

-- a division one bit further: the dividend's bit w - 1 - i gives the quotient's bit of that place
abbrev pub divide_step : {W : Type 0} → ℕ → List W → List W → W → ℕ → Divided W → Circuit W (Divided W)
divide_step w x ny high i a =
    then (divide_bit (get_or x (w - 1 - i) high) ny high a.rest w) (λ r. give (record { quotient = r.0 ∷ a.quotient; rest = r.1 }))

-- the quotient and the rest of two words without a sign, from the top bit of the dividend down
abbrev pub divide_circuit : {W : Type 0} → ℕ → List W → List W → Circuit W (Divided W)
divide_circuit w x y = known false (λ low. known true (λ high.
    then (flips (y ++ low ∷ []) high (w + 1)) (λ ny.
    times w (divide_step w x ny high) (record { quotient = []; rest = replicate w low }))))

-- one place of a conditional negation: the place, turned where b is true, and the carry
abbrev pub negate_step : {W : Type 0} → List W → W → W → ℕ → Carried W → Circuit W (Carried W)
negate_step x b d i a =
    join (get_or x i d) b (λ y. join y a.carry (λ s. meet y a.carry (λ c. give (record { sums = a.sums ++ s ∷ []; carry = c }))))

-- the last place of a conditional negation, whose carry isn't made
abbrev pub last_negated : {W : Type 0} → List W → W → W → ℕ → Carried W → Circuit W (List W)
last_negated x b d i a = join (get_or x i d) b (λ y. join y a.carry (λ s. give (a.sums ++ s ∷ [])))

-- x, or minus x where b is true
abbrev pub cond_negate : {W : Type 0} → ℕ → W → List W → W → Circuit W (List W)
cond_negate w b x d = then (times (w - 1) (negate_step x b d) (record { sums = []; carry = b })) (last_negated x b d (w - 1))

-- the division of the sizes of two words with a sign
abbrev pub divide_sizes : {W : Type 0} → ℕ → List W → List W → W → Circuit W (Divided W)
divide_sizes w x y d =
    then (cond_negate w (get_or x (w - 1) d) x d) (λ a.
    then (cond_negate w (get_or y (w - 1) d) y d) (λ b. divide_circuit w a b))

-- the quotient of two words of w wires; with a sign that of their sizes, negated where their signs differ
abbrev pub quotient_circuit : {W : Type 0} → Bool → ℕ → List W → List W → W → Circuit W (List W)
quotient_circuit false w x y d = then (divide_circuit w x y) (λ a. give a.quotient)
quotient_circuit true w x y d =
    then (divide_sizes w x y d) (λ a. join (get_or x (w - 1) d) (get_or y (w - 1) d) (λ s. cond_negate w s a.quotient d))

-- the remainder of two words of w wires; with a sign that of their sizes, negated where x is below 0
abbrev pub remainder_circuit : {W : Type 0} → Bool → ℕ → List W → List W → W → Circuit W (List W)
remainder_circuit false w x y d = then (divide_circuit w x y) (λ a. give a.rest)
remainder_circuit true w x y d = then (divide_sizes w x y d) (λ a. cond_negate w (get_or x (w - 1) d) a.rest d)
