-- Numbers and their bytes, in either order.
use Rattle.std.proofs.Common.{◌≡◌, ℕ, zero, suc, ◌+◌, ◌*◌, ◌/◌, ◌%◌, ◌^◌, ◌≤◌, List, ◌∷◌, length, take, drop, get_or, refl, sym, ap, ◌∙◌, arith}
use Rattle.std.specs.Int.{byte_at, bytes_low_first, bytes_high_first}
use Rattle.std.proofs.Math.Nat.{pow-succ', div-div-eq-div-mul}
use Rattle.std.proofs.Math.Seq.{drop-cons}
use Rattle.std.proofs.lemmas.List.{length-take, get_or-take}
use Rattle.std.proofs.lemmas.Nat.{be_bytes_4}
use Rattle.byteorder.specs.Endian.{little_from, big_from}
use Rattle.oc_values.proofs.Packs.{IsBytes, IsBytes-take}

-- a higher byte of a number is a byte of what stands above its lowest
byte_at-suc : (j x : ℕ) → byte_at (suc j) x ≡ byte_at j (x / 256)
byte_at-suc zero x = refl
byte_at-suc (suc j) x =
    ap (λ (y : ℕ). y % 256) (ap (λ (p : ℕ). x / p) (pow-succ' 256 (suc j)) ∙ sym (div-div-eq-div-mul x 256 (256 ^ suc j)))

low_first-suc : (j k x : ℕ) → bytes_low_first (suc j) k x ≡ bytes_low_first j k (x / 256)
low_first-suc j zero x = refl
low_first-suc j (suc k) x = λ i. byte_at-suc j x i ∷ low_first-suc (suc j) k x i

-- the bytes of the number that bytes make, the lowest first
pub little_bytes-again : (n i : ℕ) (xs : List ℕ) → IsBytes xs → i + n ≤ length xs → bytes_low_first 0 n (little_from i n xs) ≡ take n (drop i xs)
little_bytes-again zero i xs fits long = refl
little_bytes-again (suc n) i xs fits long =
    let a : ℕ = get_or xs i 0 in
    let r : ℕ = little_from (suc i) n xs in
    let low : (a + 256 * r) % 256 ≡ a = omega (arith, fits i) in
    let high : (a + 256 * r) / 256 ≡ r = omega (arith, fits i) in
    let rest : bytes_low_first 1 n (a + 256 * r) ≡ take n (drop (suc i) xs) =
    low_first-suc 0 n (a + 256 * r) ∙ ap (bytes_low_first 0 n) high ∙ little_bytes-again n (suc i) xs fits (omega (arith, long)) in
    (λ k. low k ∷ rest k) ∙ ap (take (suc n)) (sym (drop-cons xs i 0 (omega (arith, long))))

-- the same of four bytes, the highest first
pub big_bytes-again : (xs : List ℕ) → IsBytes xs → 4 ≤ length xs → bytes_high_first 4 (big_from 0 4 xs) ≡ take 4 xs
big_bytes-again xs fits long =
    be_bytes_4 (take 4 xs) (big_from 0 4 xs) (omega (arith, long, length-take 4 xs)) (IsBytes-take 4 xs fits)
    (rw (get_or-take 4 xs 0 0 (omega arith), get_or-take 4 xs 1 0 (omega arith), get_or-take 4 xs 2 0 (omega arith), get_or-take 4 xs 3 0 (omega arith)) (omega arith))
