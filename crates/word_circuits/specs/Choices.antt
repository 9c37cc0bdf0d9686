-- Operations bit by bit, choices, and shifts.
use Rattle.std.specs.Prelude.{ℕ, ◌-◌, ◌%◌, ◌^◌, Bool, true, false, List, ◌++◌, get_or, take, drop, replicate}
use Rattle.gate_core.specs.Circuit.{Circuit, times, row}
use Rattle.gate_core.specs.Circuit.Circuit.{give, known, flip, join, meet}
use Rattle.word_circuits.specs.Chains.{flips}
use Rattle.word_circuits.specs.Widths.{log2}

-- the bits that are 1 in both of two words of w wires
abbrev pub meet_circuit : {W : Type 0} → ℕ → List W → List W → W → Circuit W (List W)
meet_circuit w x y d = row w (λ i. meet (get_or x i d) (get_or y i d) (λ r. give r))

-- whether at least one of two bits is 1
abbrev pub either_bit : {W : Type 0} → W → W → Circuit W W
either_bit x y = flip x (λ nx. flip y (λ ny. meet nx ny (λ none. flip none (λ r. give r))))

-- the bits that are 1 in at least one of two words of w wires
abbrev pub either_circuit : {W : Type 0} → ℕ → List W → List W → W → Circuit W (List W)
either_circuit w x y d = row w (λ i. either_bit (get_or x i d) (get_or y i d))

-- the bits in which two words of w wires differ
abbrev pub differ_circuit : {W : Type 0} → ℕ → List W → List W → W → Circuit W (List W)
differ_circuit w x y d = row w (λ i. join (get_or x i d) (get_or y i d) (λ r. give r))

-- each bit of a word of w wires, negated
abbrev pub flip_circuit : {W : Type 0} → ℕ → List W → W → Circuit W (List W)
flip_circuit w x d = flips x d w

-- z, turned where e is true and x and y differ
abbrev pub choose_bit : {W : Type 0} → W → W → W → W → Circuit W W
choose_bit e x y z = join x y (λ p. meet e p (λ q. join z q (λ r. give r)))

-- the first n wires of z, each turned where e is true and x and y differ in its place
abbrev pub choose : {W : Type 0} → W → List W → List W → List W → W → ℕ → Circuit W (List W)
choose e x y z d n = row n (λ i. choose_bit e (get_or x i d) (get_or y i d) (get_or z i d))

-- new where e is true, else old
abbrev pub select_circuit : {W : Type 0} → ℕ → W → List W → List W → W → Circuit W (List W)
select_circuit w e new old d = choose e new old old d w

-- the wire that a shift moves in: zero, or to the right with a sign the top wire
abbrev pub moved_in : {W : Type 0} → Bool → Bool → ℕ → List W → W → W
moved_in true signed w x low = low
moved_in false false w x low = low
moved_in false true w x low = get_or x (w - 1) low

-- a word of w wires shifted by k places, where f is moved in
abbrev pub moved : {W : Type 0} → Bool → ℕ → ℕ → W → List W → List W
moved true w k f x = replicate k f ++ take (w - k) x
moved false w k f x = drop k x ++ replicate k f

-- a shift by a public amount
abbrev pub shift_known_circuit : {W : Type 0} → Bool → Bool → ℕ → ℕ → List W → Circuit W (List W)
shift_known_circuit left signed w amount x = known false (λ low. give (moved left w (amount % w) (moved_in left signed w x low) x))

-- one place of a hidden amount: a shift by 2^k where its bit is true
abbrev pub shift_step : {W : Type 0} → Bool → Bool → ℕ → List W → W → ℕ → List W → Circuit W (List W)
shift_step left signed w m low k x = choose (get_or m k low) x (moved left w (2 ^ k) (moved_in left signed w x low) x) x low w

-- a shift by a hidden amount
abbrev pub shift_word_circuit : {W : Type 0} → Bool → Bool → ℕ → List W → List W → Circuit W (List W)
shift_word_circuit left signed w x m = known false (λ low. times (log2 w) (shift_step left signed w m low) x)

-- v wires of a word of w: its low ones, and above its own zero, or with a sign its top wire
abbrev pub resize_circuit : {W : Type 0} → Bool → ℕ → ℕ → List W → Circuit W (List W)
resize_circuit signed v w x = known false (λ low. give (take v x ++ replicate (v - w) (moved_in false signed w x low)))
