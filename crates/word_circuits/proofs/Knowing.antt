-- What known words stand for.
use Rattle.std.proofs.Common.{◌≡◌, ℕ, zero, suc, ◌+◌, ◌*◌, ◌/◌, ◌%◌, ◌^◌, ◌<◌, ◌==◌, Bool, pos, List, [], ◌∷◌, ◌++◌, length, refl, ap, ◌∙◌, sym, arith}
use Rattle.std.proofs.lemmas.Nat.{pow_pos, mod_below, mod-mul-add, div-add-mod'}
use Rattle.std.proofs.Math.Nat.{pow-succ'}
use Rattle.std.proofs.lemmas.Nat.Bits.{shr_and_one}
use Rattle.std.proofs.lemmas.List.{length_push}
use Rattle.gate_core.specs.Circuit.{Calls}
use Rattle.gate_core.specs.Laws.{Laws}
use Rattle.gate_core.specs.Relations.{All2}
use Rattle.gate_core.proofs.Pairs.{All2-push}
use Rattle.oc_values.specs.Integers.{wrap_bits}
use Rattle.word_circuits.specs.Integers.{bit, value, Means}
use Rattle.word_circuits.specs.Known.{known_bit, known_wires}
use Rattle.word_circuits.proofs.Values.{value-push}
use Rattle.word_circuits.proofs.Totals.{number_wraps}

-- the lowest bits of a number
abbrev known_bits : ℕ → ℕ → List Bool
known_bits n zero = []
known_bits n (suc w) = known_bits n w ++ known_bit n w ∷ []

length-known : (n w : ℕ) → length (known_bits n w) ≡ w
length-known n zero = refl
length-known n (suc w) = (let l = length_push (known_bits n w) (known_bit n w) in let e = length-known n w in omega (arith, l, e))

mod_twice : (n P q r b : ℕ) → (q * 2 + b) * P + r ≡ n → r < P → b < 2 → n % (2 * P) ≡ r + P * b
mod_twice n P q r zero e lt lb =
    let f : q * (2 * P) + r ≡ n = omega (arith, e) in
    let z : r ≡ r + P * 0 = omega arith in
    ap (λ k. k % (2 * P)) (sym f) ∙ mod-mul-add q (2 * P) r (omega (arith, lt)) ∙ z
mod_twice n P q r (suc zero) e lt lb =
    let f : q * (2 * P) + (r + P) ≡ n = omega (arith, e) in
    let z : r + P ≡ r + P * 1 = omega arith in
    ap (λ k. k % (2 * P)) (sym f) ∙ mod-mul-add q (2 * P) (r + P) (omega (arith, lt)) ∙ z
mod_twice n P q r (suc (suc b)) e lt lb = absurd (omega (arith, lb))

-- one bit more is what is left modulo twice as much
mod_more : (n k : ℕ) → n % 2 ^ suc k ≡ n % 2 ^ k + 2 ^ k * (n / 2 ^ k % 2)
mod_more n k =
    let P = 2 ^ k in
    let one = div-add-mod' n P in
    let two = div-add-mod' (n / P) 2 in
    ap (λ m. n % m) (pow-succ' 2 k)
    ∙ mod_twice n P (n / P / 2) (n % P) (n / P % 2) (ap (λ m. m * P + n % P) two ∙ one) (mod_below n P (pow_pos k)) (mod_below (n / P) 2 (omega arith))

bit_one : (b : ℕ) → b < 2 → bit (b == 1) ≡ b
bit_one zero h = refl
bit_one (suc zero) h = refl
bit_one (suc (suc b)) h = absurd (omega (arith, h))

bit-known : (n i : ℕ) → bit (known_bit n i) ≡ n / 2 ^ i % 2
bit-known n i = ap (λ k. bit (k == 1)) (shr_and_one n i) ∙ bit_one (n / 2 ^ i % 2) (mod_below (n / 2 ^ i) 2 (omega arith))

value-known : (n w : ℕ) → value (known_bits n w) ≡ n % 2 ^ w
value-known n zero = (let l = mod_below n 1 (omega arith) in omega (arith, l))
value-known n (suc w) =
    value-push (known_bits n w) (known_bit n w)
    ∙ ap (λ k. k + 2 ^ length (known_bits n w) * bit (known_bit n w)) (value-known n w)
    ∙ ap (λ k. n % 2 ^ w + 2 ^ k * bit (known_bit n w)) (length-known n w)
    ∙ ap (λ k. n % 2 ^ w + 2 ^ w * k) (bit-known n w) ∙ sym (mod_more n w)

known_stand : {S W : Type 0} (m : Calls S W) (stands : S → W → Bool → Type 0) → Laws m stands → (s : S) (n w : ℕ) → All2 (stands s) (known_wires m s n w) (known_bits n w)
known_stand m stands law s n zero = tt
known_stand m stands law s n (suc w) = All2-push (stands s) (known_wires m s n w) (known_bits n w) _ _ (known_stand m stands law s n w) (law.known_stands s (known_bit n w))

-- known wires stand for what is left of the number
pub known_means : {S W : Type 0} (m : Calls S W) (stands : S → W → Bool → Type 0) → Laws m stands → (s : S) (n w : ℕ) (signed : Bool)
    → Means (stands s) signed (known_wires m s n w) (wrap_bits signed w (pos n))
known_means m stands law s n w signed = (known_bits n w, known_stand m stands law s n w, number_wraps signed w (known_bits n w) (pos n) (length-known n w) (value-known n w))
