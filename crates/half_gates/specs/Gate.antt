-- An AND gate of half gates. The inputs are the wires a and b. The label of a wire for the bit 1 is its zero label, the
-- one for the bit 0, xor delta.
use Rattle.std.specs.Prelude.{ℕ, ◌+◌, ◌*◌, ◌%◌, ◌^◌, ◌==◌, ◌&&◌, ◌≡◌, Bool, bit_xor, if◌then◌else◌}
use Rattle.half_gates.specs.Hash.{hash_of}

-- x where the bit is 1, else 0
abbrev pub masked : Bool → ℕ → ℕ
masked b x = if b then x else 0

-- the select bit of a label: its lowest bit
abbrev pub select_of : ℕ → Bool
select_of label = label % 2 == 1

-- the active label of a wire that carries this bit
abbrev pub active : ℕ → ℕ → Bool → ℕ
active zero_label delta bit = bit_xor zero_label (masked bit delta)

-- four values of a hash: at the labels of a for the bits 0 and 1, and at those of b
pub record Hashes : Type 0 where
  pub a0 : ℕ
  pub a1 : ℕ
  pub b0 : ℕ
  pub b1 : ℕ

-- the hash's value at the label of a for this bit
abbrev pub hash_a : Hashes → Bool → ℕ
hash_a h x = if x then h.a1 else h.a0

-- the hash's value at the label of b for this bit
abbrev pub hash_b : Hashes → Bool → ℕ
hash_b h y = if y then h.b1 else h.b0

-- the generator's row
abbrev pub row_g : Hashes → ℕ → ℕ → ℕ
row_g h delta b = bit_xor (bit_xor h.a0 h.a1) (masked (select_of b) delta)

-- the evaluator's row
abbrev pub row_e : Hashes → ℕ → ℕ
row_e h a = bit_xor (bit_xor h.b0 h.b1) a

-- what the evaluator makes of a label of a, a label of b, the rows, and the hash's values at the two labels
abbrev pub and_label : ℕ → ℕ → ℕ → ℕ → ℕ → ℕ → ℕ
and_label a b tg te ha hb =
    bit_xor (bit_xor ha (masked (select_of a) tg)) (bit_xor hb (masked (select_of b) (bit_xor te a)))

-- the zero label of the result: what the rows make of both zero labels
abbrev pub zero_of : Hashes → ℕ → ℕ → ℕ → ℕ
zero_of h delta a b = and_label a b (row_g h delta b) (row_e h a) h.a0 h.b0

-- the tweak of a gate for the labels of a; each number modulo 2^63 has two tweaks
abbrev pub tweak_a : ℕ → ℕ
tweak_a gate = 2 * (gate % 2 ^ 63)

-- the tweak of a gate for the labels of b, one more than that for the labels of a
abbrev pub tweak_b : ℕ → ℕ
tweak_b gate = 2 * (gate % 2 ^ 63) + 1

-- the values that the hash of labels has at a gate
abbrev pub hashes_of : ℕ → ℕ → ℕ → ℕ → Hashes
hashes_of delta a b gate = record {
  a0 = hash_of a (tweak_a gate);
  a1 = hash_of (bit_xor a delta) (tweak_a gate);
  b0 = hash_of b (tweak_b gate);
  b1 = hash_of (bit_xor b delta) (tweak_b gate);
}

-- with these four values of the hash: on the active labels for x and y, the rows make the active label for x and y
abbrev pub MakesAnd : Hashes → ℕ → ℕ → ℕ → Type 0
MakesAnd h delta a b = (x y : Bool)
    → and_label (active a delta x) (active b delta y) (row_g h delta b) (row_e h a) (hash_a h x) (hash_b h y)
    ≡ active (zero_of h delta a b) delta (x && y)
