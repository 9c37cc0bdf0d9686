-- Bits that are packed into bytes, and bits that are read from them.
use Rattle.std.proofs.Common.{ℕ, zero, suc, ◌+◌, ◌-◌, ◌*◌, ◌/◌, ◌%◌, ◌^◌, ◌≡◌, ◌<◌, ◌≤◌, Bool, true, false, eqb, leb, List, [], ◌∷◌, ◌++◌, length, take, drop, map, get_or, refl, sym, ap, ◌∙◌, subst, arith, inl, inr}
use Rattle.std.specs.Prelude.{not, ◌&&◌}
use Rattle.std.specs.List.{range_with_len}
use Rattle.std.proofs.lemmas.List.{length-take, length-drop, get_or-drop, get_or-take, get_or_past, take_all, take_more, take-append-drop, drop-drop}
use Rattle.std.proofs.lemmas.List.FromFn.{fill_by_all, length-map-range_with_len, get_or-map-range_with_len}
use Rattle.std.proofs.lemmas.Bool.{cases_lt}
use Rattle.std.proofs.lemmas.Bool.Decides.{nat_tests}
use Rattle.std.proofs.Math.Nat as nat
use Rattle.oc_values.specs.Packing.{bit, number_of_bits, byte_count, packed, pack, bit_in, unpack, padding_set}

-- each is a byte
abbrev pub IsBytes : List ℕ → Type 0
IsBytes bytes = (i : ℕ) → get_or bytes i 0 < 256

pub IsBytes-drop : (n : ℕ) (bytes : List ℕ) → IsBytes bytes → IsBytes (drop n bytes)
IsBytes-drop n bytes h i = rw get_or-drop (h (n + i))

pub IsBytes-take : (n : ℕ) (bytes : List ℕ) → IsBytes bytes → IsBytes (take n bytes)
IsBytes-take n bytes h i =
    elim (cases_lt i n) [
      | inl lt ↦ rw (get_or-take n bytes i 0 lt) (h i)
      | inr le ↦ rw (get_or_past (take n bytes) i 0 (omega (arith, length-take n bytes))) (omega arith)
    ]

bit_least : (b : Bool) → bit b ≤ 1
bit_least true = omega arith
bit_least false = omega arith

bit_tested : (t : Bool) (r : ℕ) → r < 2 → t ≡ eqb r 1 → bit t ≡ r
bit_tested true r lt e = grind (arith, nat_tests)
bit_tested false r lt e = grind (arith, nat_tests)

-- a test of a number's lowest bit
bit-parity : (n : ℕ) → bit (eqb (n % 2) 1) ≡ n % 2
bit-parity n = bit_tested (eqb (n % 2) 1) (n % 2) (omega arith) refl

pub number_of_bits-append : (xs ys : List Bool) → number_of_bits (xs ++ ys) ≡ number_of_bits xs + 2 ^ length xs * number_of_bits ys
number_of_bits-append [] ys = grind arith
number_of_bits-append (x ∷ xs) ys =
    let more = number_of_bits-append xs ys in
    let p : 2 ^ suc (length xs) ≡ 2 * 2 ^ length xs = grind arith in
    ap (λ (n : ℕ). bit x + 2 * n) more ∙ rw p (grind arith)

-- one more bit of a number
pub number_more : (bits : List Bool) (i : ℕ) → i < length bits → number_of_bits (take (i + 1) bits) ≡ number_of_bits (take i bits) + 2 ^ i * bit (get_or bits i false)
number_more bits i lt =
    let size : length (take i bits) ≡ i = omega (arith, length-take i bits) in
    ap number_of_bits (take_more bits i false lt) ∙ number_of_bits-append (take i bits) (get_or bits i false ∷ [])
    ∙ ap (λ (k : ℕ). number_of_bits (take i bits) + 2 ^ k * (bit (get_or bits i false) + 2 * 0)) size ∙ grind arith

pub number_below : (bits : List Bool) → number_of_bits bits < 2 ^ length bits
number_below [] = omega arith
number_below (b ∷ bits) =
    let p : 2 ^ suc (length bits) ≡ 2 * 2 ^ length bits = grind arith in
    let r = number_below bits in
    let one = bit_least b in
    rw p (omega arith)

-- eight bits of a list, the missing ones 0
number_of_bits-take_8 : (bits : List Bool) → number_of_bits (take 8 bits)
    ≡ bit (get_or bits 0 false) + 2 * bit (get_or bits 1 false) + 4 * bit (get_or bits 2 false) + 8 * bit (get_or bits 3 false)
    + 16 * bit (get_or bits 4 false) + 32 * bit (get_or bits 5 false) + 64 * bit (get_or bits 6 false) + 128 * bit (get_or bits 7 false)
number_of_bits-take_8 [] = omega arith
number_of_bits-take_8 (a ∷ []) = omega arith
number_of_bits-take_8 (a ∷ b ∷ []) = omega arith
number_of_bits-take_8 (a ∷ b ∷ c ∷ []) = omega arith
number_of_bits-take_8 (a ∷ b ∷ c ∷ d ∷ []) = omega arith
number_of_bits-take_8 (a ∷ b ∷ c ∷ d ∷ e ∷ []) = omega arith
number_of_bits-take_8 (a ∷ b ∷ c ∷ d ∷ e ∷ f ∷ []) = omega arith
number_of_bits-take_8 (a ∷ b ∷ c ∷ d ∷ e ∷ f ∷ g ∷ []) = omega arith
number_of_bits-take_8 (a ∷ b ∷ c ∷ d ∷ e ∷ f ∷ g ∷ h ∷ bits) = omega arith

-- a byte is the sum of its bits
byte_is : (b : ℕ) → b < 256 → b % 2 + 2 * (b / 2 % 2) + 4 * (b / 4 % 2) + 8 * (b / 8 % 2) + 16 * (b / 16 % 2) + 32 * (b / 32 % 2) + 64 * (b / 64 % 2) + 128 * (b / 128 % 2) ≡ b
byte_is b lt = omega arith

module _ (b : ℕ) (bytes : List ℕ) (bits : List Bool) (same : (i : ℕ) → i < 8 * length (b ∷ bytes) → get_or bits i false ≡ bit_in (b ∷ bytes) i) where
  at_first : (i r : ℕ) → i < 8 → b / 2 ^ i % 2 ≡ r → bit (get_or bits i false) ≡ r
  at_first i r lt e =
      let whole : i / 8 ≡ 0 = omega arith in
      let rest : i % 8 ≡ i = omega arith in
      let here : bit_in (b ∷ bytes) i ≡ eqb (b / 2 ^ i % 2) 1 = rw (whole, rest) refl in
      ap bit (same i (omega arith) ∙ here) ∙ bit-parity (b / 2 ^ i) ∙ e

  pub first_byte : b < 256 → number_of_bits (take 8 bits) ≡ b
  first_byte lt =
      number_of_bits-take_8 bits
      ∙ rw (
        at_first 0 (b % 2) (omega arith) (omega arith),
        at_first 1 (b / 2 % 2) (omega arith) refl,
        at_first 2 (b / 4 % 2) (omega arith) refl,
        at_first 3 (b / 8 % 2) (omega arith) refl,
        at_first 4 (b / 16 % 2) (omega arith) refl,
        at_first 5 (b / 32 % 2) (omega arith) refl,
        at_first 6 (b / 64 % 2) (omega arith) refl,
        at_first 7 (b / 128 % 2) (omega arith) refl,
      ) (byte_is b lt)

  pub other_bytes : (i : ℕ) → i < 8 * length bytes → get_or (drop 8 bits) i false ≡ bit_in bytes i
  other_bytes i lt =
      let whole : (8 + i) / 8 ≡ suc (i / 8) = omega arith in
      let rest : (8 + i) % 8 ≡ i % 8 = omega arith in
      get_or-drop 8 bits i false ∙ same (8 + i) (omega arith) ∙ rw (whole, rest) refl

IsBytes-rest : (b : ℕ) (bytes : List ℕ) → IsBytes (b ∷ bytes) → IsBytes bytes
IsBytes-rest b bytes h i = h (suc i)

-- bits that are those of the bytes have these bytes
pub packed_again : (bytes : List ℕ) (bits : List Bool) → IsBytes bytes → ((i : ℕ) → i < 8 * length bytes → get_or bits i false ≡ bit_in bytes i) → packed (length bytes) bits ≡ bytes
unfolding packed
packed_again [] bits fits same = refl
packed_again (b ∷ bytes) bits fits same =
    let head : number_of_bits (take 8 bits) ≡ b = first_byte b bytes bits same (fits 0) in
    let rest : packed (length bytes) (drop 8 bits) ≡ bytes = packed_again bytes (drop 8 bits) (IsBytes-rest b bytes fits) (other_bytes b bytes bits same) in
    cc

-- behind the last bit stands none
no_bit_behind : (bytes : List ℕ) (n i : ℕ) → (eqb (n % 8) 0 ≡ false → get_or bytes (byte_count n - 1) 0 < 2 ^ (n % 8)) → n ≤ i → i < 8 * byte_count n → bit_in bytes i ≡ false
no_bit_behind bytes n i padded le lt =
    let some : 0 < n % 8 = omega arith in
    let at : i / 8 ≡ byte_count n - 1 = omega arith in
    let behind : n % 8 ≤ i % 8 = omega arith in
    let rest : eqb (n % 8) 0 ≡ false = grind (arith, nat_tests) in
    let small = padded rest in
    let power = nat.pow-le-pow_right {n = 2} (omega arith) behind in
    let none : get_or bytes (byte_count n - 1) 0 / 2 ^ (i % 8) ≡ 0 = nat.div-eq_of_lt (omega (arith, small, power)) in
    rw (at, none) refl

-- the bits that were read of bytes are packed into these bytes
pub pack_again : (bytes : List ℕ) (n : ℕ) → IsBytes bytes → length bytes ≡ byte_count n
    → (eqb (n % 8) 0 ≡ false → get_or bytes (byte_count n - 1) 0 < 2 ^ (n % 8))
    → pack (map (bit_in bytes) (range_with_len 0 n)) ≡ bytes
pack_again bytes n fits size padded =
    let count : byte_count (length (map (bit_in bytes) (range_with_len 0 n))) ≡ length bytes = ap byte_count (length-map-range_with_len (bit_in bytes) 0 n) ∙ sym size in
    ap (λ (k : ℕ). packed k (map (bit_in bytes) (range_with_len 0 n))) count
    ∙ packed_again bytes (map (bit_in bytes) (range_with_len 0 n)) fits (λ i lt.
    elim (cases_lt i n) [
      | inl below ↦ get_or-map-range_with_len (bit_in bytes) 0 n i i false below (omega arith)
      | inr above ↦ get_or_past (map (bit_in bytes) (range_with_len 0 n)) i false (omega (arith, length-map-range_with_len (bit_in bytes) 0 n)) ∙ sym (no_bit_behind bytes n i padded above (omega (arith, size, lt)))
    ])

-- ---- packing in steps of eight

pub pack_more : (bits : List Bool) → 8 < length bits → pack bits ≡ number_of_bits (take 8 bits) ∷ pack (drop 8 bits)
unfolding packed
pack_more bits lt =
    let count : byte_count (length bits) ≡ suc (byte_count (length (drop 8 bits))) = omega (arith, length-drop 8 bits) in
    ap (λ (k : ℕ). packed k bits) count

pub pack_last : (bits : List Bool) → length bits ≤ 8 → 0 < length bits → pack bits ≡ number_of_bits bits ∷ []
unfolding packed
pack_last bits le some =
    let count : byte_count (length bits) ≡ 1 = omega arith in
    ap (λ (k : ℕ). packed k bits) count ∙ ap (λ (t : List Bool). number_of_bits t ∷ []) (take_all 8 bits le)

pub pack_none : (bits : List Bool) → length bits ≡ 0 → pack bits ≡ []
unfolding packed
pack_none bits e = let count : byte_count (length bits) ≡ 0 = omega arith in ap (λ (k : ℕ). packed k bits) count

length-packed : (n : ℕ) (bits : List Bool) → length (packed n bits) ≡ n
unfolding packed
length-packed zero bits = refl
length-packed (suc n) bits = ap suc (length-packed n (drop 8 bits))

pub length-pack : (bits : List Bool) → length (pack bits) ≡ byte_count (length bits)
length-pack bits = length-packed (byte_count (length bits)) bits

-- ---- bits with the same bytes are the same

bits_by_parity : (a b : Bool) (x y : ℕ) → bit a + 2 * x ≡ bit b + 2 * y → (a ≡ b) × (x ≡ y)
bits_by_parity true true x y e = (refl, omega arith)
bits_by_parity false false x y e = (refl, omega arith)
bits_by_parity true false x y e = absurd (omega arith)
bits_by_parity false true x y e = absurd (omega arith)

numbers_same : (xs ys : List Bool) → length xs ≡ length ys → number_of_bits xs ≡ number_of_bits ys → xs ≡ ys
numbers_same [] [] size e = refl
numbers_same [] (y ∷ ys) size e = absurd (omega arith)
numbers_same (x ∷ xs) [] size e = absurd (omega arith)
numbers_same (x ∷ xs) (y ∷ ys) size e =
    let p = bits_by_parity x y (number_of_bits xs) (number_of_bits ys) e in
    let head : x ≡ y = p.0 in
    let rest : xs ≡ ys = numbers_same xs ys (omega arith) p.1 in
    cc

no_bits : (xs : List Bool) → length xs ≡ 0 → xs ≡ []
no_bits [] e = refl
no_bits (x ∷ xs) e = absurd (omega arith)

packed_same : (n : ℕ) (xs ys : List Bool) → length xs ≡ length ys → length xs ≤ 8 * n → packed n xs ≡ packed n ys → xs ≡ ys
unfolding packed
packed_same zero xs ys size few e = no_bits xs (omega arith) ∙ sym (no_bits ys (omega arith))
packed_same (suc n) xs ys size few e =
    let heads : number_of_bits (take 8 xs) ≡ number_of_bits (take 8 ys) = cc in
    let tails : packed n (drop 8 xs) ≡ packed n (drop 8 ys) = cc in
    let front : take 8 xs ≡ take 8 ys = numbers_same (take 8 xs) (take 8 ys) (omega (arith, length-take 8 xs, length-take 8 ys)) heads in
    let rest : drop 8 xs ≡ drop 8 ys = packed_same n (drop 8 xs) (drop 8 ys) (omega (arith, length-drop 8 xs, length-drop 8 ys)) (omega (arith, length-drop 8 xs)) tails in
    sym (take-append-drop 8 xs) ∙ ap (λ (t : List Bool). t ++ drop 8 xs) front ∙ ap (λ (t : List Bool). take 8 ys ++ t) rest ∙ take-append-drop 8 ys

pub pack_same : (xs ys : List Bool) → length xs ≡ length ys → pack xs ≡ pack ys → xs ≡ ys
pack_same xs ys size e =
    packed_same (byte_count (length xs)) xs ys size (omega arith) (e ∙ ap (λ (k : ℕ). packed (byte_count k) ys) (sym size))

-- ---- no bit stands behind the last of packed bits

packed_at : (n k : ℕ) (bits : List Bool) → k < n → get_or (packed n bits) k 0 ≡ number_of_bits (take 8 (drop (8 * k) bits))
unfolding packed
packed_at zero k bits lt = absurd (omega arith)
packed_at (suc n) zero bits lt = refl
packed_at (suc n) (suc k) bits lt =
    let e : 8 * suc k ≡ 8 + 8 * k = omega arith in
    packed_at n k (drop 8 bits) (omega arith) ∙ ap (λ (t : List Bool). number_of_bits (take 8 t)) (drop-drop (8 * k) 8 bits ∙ ap (λ (m : ℕ). drop m bits) (sym e))

pub pack_padded : (bits : List Bool) → eqb (length bits % 8) 0 ≡ false → get_or (pack bits) (byte_count (length bits) - 1) 0 < 2 ^ (length bits % 8)
pack_padded bits h =
    let n : ℕ = length bits in
    let k : ℕ = byte_count n - 1 in
    let some : 0 < n % 8 = grind (arith, nat_tests) in
    let last = packed_at (byte_count n) k bits (omega arith) in
    let rest : List Bool = take 8 (drop (8 * k) bits) in
    let size : length rest ≡ n % 8 = omega (arith, length-take 8 (drop (8 * k) bits), length-drop (8 * k) bits) in
    let below = number_below rest in
    rw (last, ← size) below

-- ---- bytes and their bits

and_false : (a b : Bool) → (a && b) ≡ false → a ≡ true → b ≡ false
and_false true b e h = e
and_false false b e h = absurd cc

padding_none : (a b : Bool) → (a ≡ false → b ≡ false) → (not a && b) ≡ false
padding_none true b h = refl
padding_none false b h = h refl

-- the test finds no bit behind the last
not_padded : (n : ℕ) (bytes : List ℕ) → padding_set n bytes ≡ false → eqb (n % 8) 0 ≡ false → get_or bytes (byte_count n - 1) 0 < 2 ^ (n % 8)
not_padded n bytes e h = let t : leb (2 ^ (n % 8)) (get_or bytes (byte_count n - 1) 0) ≡ false = and_false _ _ e (ap not h) in grind (arith, nat_tests)

-- it finds none in packed bits
padded : (n : ℕ) (bytes : List ℕ) → (eqb (n % 8) 0 ≡ false → get_or bytes (byte_count n - 1) 0 < 2 ^ (n % 8)) → padding_set n bytes ≡ false
padded n bytes h = padding_none (eqb (n % 8) 0) (leb (2 ^ (n % 8)) (get_or bytes (byte_count n - 1) 0)) (λ e. let p = h e in grind (arith, nat_tests))

-- bits depend on their bytes alone
bits_of_front : (k n : ℕ) (bytes : List ℕ) → n ≤ 8 * k → unpack n (take k bytes) ≡ unpack n bytes
bits_of_front k n bytes le =
    fill_by_all (bit_in bytes) (unpack n (take k bytes)) n false (length-map-range_with_len (bit_in (take k bytes)) 0 n) (λ i lt.
    get_or-map-range_with_len (bit_in (take k bytes)) 0 n i i false lt (omega arith) ∙ ap (λ (b : ℕ). eqb (b / 2 ^ (i % 8) % 2) 1) (get_or-take k bytes (i / 8) 0 (omega arith)))

pub pack-unpack : (n : ℕ) (bytes : List ℕ) → IsBytes bytes → byte_count n ≤ length bytes → padding_set n bytes ≡ false → pack (unpack n bytes) ≡ take (byte_count n) bytes
pack-unpack n bytes fits long none =
    let k : ℕ = byte_count n in
    let front : List ℕ = take k bytes in
    let size : length front ≡ byte_count n = omega (arith, long, length-take k bytes) in
    let behind : eqb (n % 8) 0 ≡ false → get_or front (byte_count n - 1) 0 < 2 ^ (n % 8) = λ e.
    let some : 0 < byte_count n = grind (arith, nat_tests) in
    let same : get_or front (byte_count n - 1) 0 ≡ get_or bytes (byte_count n - 1) 0 = get_or-take k bytes (byte_count n - 1) 0 (omega (arith, some)) in
    rw same (not_padded n bytes none e) in
    ap pack (sym (bits_of_front k n bytes (omega arith))) ∙ pack_again front n (IsBytes-take k bytes fits) size behind

-- bytes that begin with packed bits have no padding bit
pub padding_none_of : (n : ℕ) (bytes : List ℕ) (bits : List Bool) → length bits ≡ n → take (byte_count n) bytes ≡ pack bits → padding_set n bytes ≡ false
padding_none_of n bytes bits size e =
    padded n bytes (λ h.
    let some : 0 < byte_count n = grind (arith, nat_tests) in
    let last = pack_padded bits (ap (λ (k : ℕ). eqb (k % 8) 0) size ∙ h) in
    let moved : get_or (pack bits) (byte_count n - 1) 0 < 2 ^ (n % 8) = subst (λ (k : ℕ). get_or (pack bits) (byte_count k - 1) 0 < 2 ^ (k % 8)) size last in
    let found : get_or bytes (byte_count n - 1) 0 ≡ get_or (pack bits) (byte_count n - 1) 0 =
    sym (get_or-take (byte_count n) bytes (byte_count n - 1) 0 (omega (arith, some))) ∙ ap (λ (t : List ℕ). get_or t (byte_count n - 1) 0) e in
    rw found moved)

pub unpack-pack : (n : ℕ) (bytes : List ℕ) (bits : List Bool) → IsBytes bytes → byte_count n ≤ length bytes → length bits ≡ n → take (byte_count n) bytes ≡ pack bits → unpack n bytes ≡ bits
unpack-pack n bytes bits fits long size e =
    pack_same (unpack n bytes) bits (length-map-range_with_len (bit_in bytes) 0 n ∙ sym size)
    (pack-unpack n bytes fits long (padding_none_of n bytes bits size e) ∙ e)
