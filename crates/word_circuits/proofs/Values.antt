-- The number that bits spell.
use Rattle.std.proofs.Common.{◌≡◌, ℕ, zero, suc, ◌+◌, ◌*◌, ◌%◌, ◌^◌, ◌<◌, ◌≤◌, Bool, true, false, ◌&&◌, List, [], ◌∷◌, ◌++◌, length, get_or, take, replicate, refl, ap, ◌∙◌, sym, arith, subst}
use Rattle.std.proofs.Math.Nat.{pow-suc}
use Rattle.std.proofs.lemmas.List.{take_more, length-take-le}
use Rattle.std.proofs.lemmas.Nat.{mod-mul-add}
use Rattle.gate_core.specs.Circuit.{xor}
use Rattle.word_circuits.specs.Integers.{bit, value}

pub value-push : (xs : List Bool) (b : Bool) → value (xs ++ b ∷ []) ≡ value xs + 2 ^ length xs * bit b
value-push [] b = omega arith
value-push (x ∷ xs) b = rw pow-suc (omega (arith, value-push xs b))

pub value-more : (xs : List Bool) (i : ℕ) (d : Bool) → i < length xs → value (take (i + 1) xs) ≡ value (take i xs) + 2 ^ i * bit (get_or xs i d)
value-more xs i d lt =
    let l : length (take i xs) ≡ i = length-take-le i xs (omega (arith, lt)) in
    ap value (take_more xs i d lt) ∙ value-push (take i xs) (get_or xs i d) ∙ ap (λ n. value (take i xs) + 2 ^ n * bit (get_or xs i d)) l

pub value-append : (xs ys : List Bool) → value (xs ++ ys) ≡ value xs + 2 ^ length xs * value ys
value-append [] ys = omega arith
value-append (x ∷ xs) ys = rw pow-suc (omega (arith, value-append xs ys))

pub bit≤1 : (b : Bool) → bit b ≤ 1
bit≤1 false = omega arith
bit≤1 true = omega arith

pub value-lt : (xs : List Bool) → value xs < 2 ^ length xs
value-lt [] = omega arith
value-lt (x ∷ xs) = omega (arith, value-lt xs, pow-suc 2 (length xs), bit≤1 x)

pub value-below : (xs : List Bool) (w : ℕ) → length xs ≡ w → value xs < 2 ^ w
value-below xs w e = subst (λ k. value xs < 2 ^ k) e (value-lt xs)

-- the sum of three bits, and the carry
pub adder-bits : (x y c : Bool) → bit (xor (xor x c) y) + 2 * bit (xor c (xor x c && xor y c)) ≡ bit x + bit y + bit c
adder-bits false false false = refl
adder-bits false false true = refl
adder-bits false true false = refl
adder-bits false true true = refl
adder-bits true false false = refl
adder-bits true false true = refl
adder-bits true true false = refl
adder-bits true true true = refl

pub value-take_small : (n : ℕ) (xs : List Bool) → value xs < 2 ^ n → value (take n xs) ≡ value xs
value-take_small zero xs h = omega (arith, h)
value-take_small (suc n) [] h = refl
value-take_small (suc n) (x ∷ xs) h =
    let p : 2 ^ suc n ≡ 2 ^ n * 2 = pow-suc 2 n in
    omega (arith, value-take_small n xs (omega (arith, h, p)))

pub value-zeros : (n : ℕ) → value (replicate n false) ≡ 0
value-zeros zero = refl
value-zeros (suc n) = omega (arith, value-zeros n)

pub mod_small : (n m : ℕ) → n < m → n % m ≡ n
mod_small n m h = let k = mod-mul-add 0 m n h in let e : 0 * m + n ≡ n = omega arith in ap (λ v. v % m) (sym e) ∙ k

parity : (a b : Bool) (m n : ℕ) → bit a + 2 * m ≡ bit b + 2 * n → (a ≡ b) × (m ≡ n)
parity true true m n e = (refl, omega (arith, e))
parity true false m n e = absurd (omega (arith, e))
parity false true m n e = absurd (omega (arith, e))
parity false false m n e = (refl, omega (arith, e))

-- lists of one length that spell one number are one
pub value-injective : (xs ys : List Bool) → length xs ≡ length ys → value xs ≡ value ys → xs ≡ ys
value-injective [] [] l e = refl
value-injective [] (y ∷ ys) l e = absurd (omega (arith, l))
value-injective (x ∷ xs) [] l e = absurd (omega (arith, l))
value-injective (x ∷ xs) (y ∷ ys) l e =
    let p = parity x y (value xs) (value ys) e in
    let t : xs ≡ ys = value-injective xs ys (omega (arith, l)) p.1 in
    ap (λ b. b ∷ xs) p.0 ∙ ap (λ bs. y ∷ bs) t
