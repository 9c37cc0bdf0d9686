-- Bits in bytes, eight to a byte, the low bit first.
use Rattle.std.specs.Prelude.{ℕ, zero, suc, ◌+◌, ◌-◌, ◌*◌, ◌/◌, ◌%◌, ◌^◌, Bool, true, false, not, ◌&&◌, nat_eq, nat_le, List, [], ◌∷◌, length, take, drop, map, slice_index}
use Rattle.std.specs.List.{range_with_len}

-- a bit as a number: 1 where it is true, else 0
abbrev pub bit : Bool → ℕ
bit true = 1
bit false = 0

-- the number that bits make, the low one first
abbrev pub number_of_bits : List Bool → ℕ
number_of_bits [] = 0
number_of_bits (b ∷ bits) = bit b + 2 * number_of_bits bits

-- how many bytes so many bits take
abbrev pub byte_count : ℕ → ℕ
byte_count bits = (bits + 7) / 8

-- so many bytes of bits; where the bits end, the rest of a byte is 0
unfoldable pub packed : ℕ → List Bool → List ℕ
packed zero bits = []
packed (suc n) bits = number_of_bits (take 8 bits) ∷ packed n (drop 8 bits)

-- the bytes of the bits
abbrev pub pack : List Bool → List ℕ
pack bits = packed (byte_count (length bits)) bits

-- a bit of the bytes, by its place among all their bits
abbrev pub bit_in : List ℕ → ℕ → Bool
bit_in bytes i = nat_eq (slice_index bytes (i / 8) / 2 ^ (i % 8) % 2) 1

-- so many bits of the bytes
abbrev pub unpack : ℕ → List ℕ → List Bool
unpack count bytes = map (bit_in bytes) (range_with_len 0 count)

-- of so many bits the last byte has a bit besides them that is 1
abbrev pub padding_set : ℕ → List ℕ → Bool
padding_set count bytes = not (nat_eq (count % 8) 0) && nat_le (2 ^ (count % 8)) (slice_index bytes (byte_count count - 1))
