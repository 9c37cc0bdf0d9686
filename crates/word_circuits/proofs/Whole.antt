-- What is left of an integer in w bits.
use Rattle.std.proofs.Common.{◌≡◌, ℕ, zero, suc, ◌+◌, ◌*◌, ◌-◌, ◌/◌, ◌%◌, ◌^◌, ◌<◌, ◌≤◌, nat_lt, Bool, true, false, cond, ℤ, pos, negsuc, neg_ℤ, ◌+ℤ◌, ◌-ℤ◌, ◌*ℤ◌, refl, ap, sym, ◌∙◌, arith, ◌⊎◌, inl, inr}
use Rattle.std.specs.Int.{int_rem_euclid}
use Rattle.std.proofs.lemmas.Int.{ints, int_rem_euclid_is}
use Rattle.std.proofs.lemmas.Nat.{pow_pos, mod_below, mod-mul-add, div-add-mod', mul-le, mul-mod, mul-mod_first}
use Rattle.oc_values.specs.Integers.{residue, value_of_bits}
use Rattle.word_circuits.proofs.Values.{mod_small}

pub residue-below : (w : ℕ) (z : ℤ) → residue w z < 2 ^ w
residue-below w (pos n) = mod_below n (2 ^ w) (pow_pos w)
residue-below w (negsuc n) = let p : 0 < 2 ^ w = pow_pos w in omega arith

residue_euclid : (w : ℕ) (z : ℤ) → int_rem_euclid z (pos (2 ^ w)) ≡ pos (residue w z)
residue_euclid w (pos n) = refl
residue_euclid w (negsuc n) = refl

same_pos : (a b : ℕ) → pos a ≡ pos b → a ≡ b
same_pos a b e = cc

-- a number that some multiple of 2^w lifts to a natural one
pub residue_is : (w : ℕ) (z : ℤ) (k m : ℕ) → z +ℤ pos (k * 2 ^ w) ≡ pos m → residue w z ≡ m % 2 ^ w
residue_is w z k m e =
    same_pos (residue w z) (m % 2 ^ w) (sym (residue_euclid w z) ∙ int_rem_euclid_is z (pos (2 ^ w)) (2 ^ w) k m (pow_pos w) refl e)

-- and some multiple always does
pub record Lifts (w : ℕ) (z : ℤ) : Type 0 where
  pub times : ℕ
  pub number : ℕ
  pub is : z +ℤ pos (times * 2 ^ w) ≡ pos number
  pub left : residue w z ≡ number % 2 ^ w

lift_by : (n p q : ℕ) → q ≡ p + 1 → negsuc n +ℤ pos (suc n * q) ≡ pos (suc n * p)
lift_by n p q e = omega (arith, ints, ap (λ k. suc n * k) e)

pub lifts : (w : ℕ) (z : ℤ) → Lifts w z
lifts w (pos n) =
    let e : pos n +ℤ pos (0 * 2 ^ w) ≡ pos n = omega (arith, ints) in
    record { times = 0; number = n; is = e; left = refl }
lifts w (negsuc n) =
    let p : 0 < 2 ^ w = pow_pos w in
    let q : 2 ^ w ≡ 2 ^ w - 1 + 1 = omega arith in
    let e : negsuc n +ℤ pos (suc n * 2 ^ w) ≡ pos (suc n * (2 ^ w - 1)) = lift_by n (2 ^ w - 1) (2 ^ w) q in
    record { times = suc n; number = suc n * (2 ^ w - 1); is = e; left = residue_is w (negsuc n) (suc n) (suc n * (2 ^ w - 1)) e }

-- sums modulo P
pub mod_add : (a b P : ℕ) → 0 < P → (a + b) % P ≡ (a % P + b % P) % P
mod_add a b P h =
    let ea = div-add-mod' a P in
    let eb = div-add-mod' b P in
    let s = a % P + b % P in
    let es = div-add-mod' s P in
    let r : s % P < P = mod_below s P h in
    let e : (a / P + b / P + s / P) * P + s % P ≡ a + b = omega (arith, ea, eb, es) in
    ap (λ n. n % P) (sym e) ∙ mod-mul-add (a / P + b / P + s / P) P (s % P) r

sum_lifts : (x y : ℤ) (k l m n P : ℕ) → x +ℤ pos (k * P) ≡ pos m → y +ℤ pos (l * P) ≡ pos n → (x +ℤ y) +ℤ pos ((k + l) * P) ≡ pos (m + n)
sum_lifts x y k l m n P e f = omega (arith, ints, e, f)

pub residue-add : (w : ℕ) (x y : ℤ) → residue w (x +ℤ y) ≡ (residue w x + residue w y) % 2 ^ w
residue-add w x y =
    let a = lifts w x in
    let b = lifts w y in
    residue_is w (x +ℤ y) (a.times + b.times) (a.number + b.number) (sum_lifts x y a.times b.times a.number b.number (2 ^ w) a.is b.is)
    ∙ mod_add a.number b.number (2 ^ w) (pow_pos w)
    ∙ ap (λ n. (n + b.number % 2 ^ w) % 2 ^ w) (sym a.left) ∙ ap (λ n. (residue w x + n) % 2 ^ w) (sym b.left)

-- two numbers that add up to a multiple of P
pub mod_opposite : (a b k P : ℕ) → 0 < P → a + b ≡ k * P → a % P ≡ (P - b % P) % P
mod_opposite a b k P h e =
    let ea = div-add-mod' a P in
    let eb = div-add-mod' b P in
    let ra : a % P < P = mod_below a P h in
    let rb : b % P < P = mod_below b P h in
    opposite (a % P) (b % P) (a / P + b / P) k P ra rb (omega (arith, ea, eb, e))
  where
    opposite : (r s q k P : ℕ) → r < P → s < P → q * P + (r + s) ≡ k * P → r ≡ (P - s) % P
    opposite r zero q k P hr hs f =
        let z = mod-mul-add q P r hr in
        let m = mod-mul-add k P 0 (omega (arith, hr)) in
        let e1 : q * P + r ≡ k * P + 0 = omega (arith, f) in
        let one = mod-mul-add 1 P 0 (omega (arith, hr)) in
        let e2 : 1 * P + 0 ≡ P - 0 = omega arith in
        let r0 : r ≡ 0 = sym z ∙ ap (λ n. n % P) e1 ∙ m in
        r0 ∙ sym one ∙ ap (λ n. n % P) e2
    opposite r (suc s) q k P hr hs f =
        elim (less_or q k) as (λ _. r ≡ (P - suc s) % P) [
          | inl g ↦ absurd (let m : k * P ≤ q * P = scaled k q P g in omega (arith, f, m))
          | inr g ↦ elim (less_or2 q k g) as (λ _. r ≡ (P - suc s) % P) [
            | inl g2 ↦ let e : r ≡ P - suc s = (let m : k * P ≡ q * P + P = ap (λ n. n * P) g2 ∙ (let d : (q + 1) * P ≡ q * P + P = omega arith in d) in omega (arith, f, m)) in e ∙ sym (mod_small (P - suc s) P (omega (arith, hs)))
            | inr g2 ↦ absurd (let m : (q + 2) * P ≤ k * P = scaled (q + 2) k P g2 in omega (arith, f, m, hr, hs))
          ]
        ]
      where
        less_or : (q k : ℕ) → (k ≤ q) ⊎ (q + 1 ≤ k)
        less_or q zero = inl (omega arith)
        less_or zero (suc k) = inr (omega arith)
        less_or (suc q) (suc k) = elim (less_or q k) [ inl g ↦ inl (omega (arith, g)) | inr g ↦ inr (omega (arith, g)) ]

        less_or2 : (q k : ℕ) → q + 1 ≤ k → (k ≡ q + 1) ⊎ (q + 2 ≤ k)
        less_or2 q k g = elim (less_or (q + 1) k) [ inl h ↦ inl (omega (arith, g, h)) | inr h ↦ inr (omega (arith, h)) ]

        scaled : (a b P : ℕ) → a ≤ b → a * P ≤ b * P
        scaled a b P g = mul-le a P b P g (omega arith)

pub residue-neg : (w : ℕ) (z : ℤ) → residue w (neg_ℤ z) ≡ (2 ^ w - residue w z) % 2 ^ w
residue-neg w z =
    let a = lifts w z in
    let b = lifts w (neg_ℤ z) in
    let e : a.number + b.number ≡ (a.times + b.times) * 2 ^ w = opposites z a.times b.times a.number b.number (2 ^ w) a.is b.is in
    b.left ∙ mod_opposite b.number a.number (a.times + b.times) (2 ^ w) (pow_pos w) (omega (arith, e)) ∙ ap (λ n. (2 ^ w - n) % 2 ^ w) (sym a.left)
  where
    opposites : (z : ℤ) (k l m n P : ℕ) → z +ℤ pos (k * P) ≡ pos m → neg_ℤ z +ℤ pos (l * P) ≡ pos n → m + n ≡ (k + l) * P
    opposites z k l m n P e f = omega (arith, ints, e, f)

pub residue-sub : (w : ℕ) (x y : ℤ) → residue w (x -ℤ y) ≡ (residue w x + (2 ^ w - residue w y)) % 2 ^ w
residue-sub w x y =
    let r : residue w x < 2 ^ w = residue-below w x in
    let s = residue-add w x (neg_ℤ y) in
    let n = residue-neg w y in
    let b = residue-below w y in
    s ∙ ap (λ k. (residue w x + k) % 2 ^ w) n ∙ (let m = mod_add (residue w x) (2 ^ w - residue w y) (2 ^ w) (pow_pos w) in
    ap (λ k. (k + (2 ^ w - residue w y) % 2 ^ w) % 2 ^ w) (sym (mod_small (residue w x) (2 ^ w) r)) ∙ sym m)

mod_turn : (u v P : ℕ) → 0 < P → u < P → (P - (u * v) % P) % P ≡ ((P - u) % P * v) % P
mod_turn u v P h lt =
    let e : (P - u) * v + u * v ≡ v * P = (let s : P - u + u ≡ P = omega (arith, lt) in omega (arith, ap (λ k. k * v) s)) in
    sym (mod_opposite ((P - u) * v) (u * v) v P h e) ∙ sym (mul-mod_first (P - u) v P)

pub residue-mul : (w : ℕ) (x y : ℤ) → residue w (x *ℤ y) ≡ (residue w x * residue w y) % 2 ^ w
residue-mul w (pos a) (pos b) = mul-mod a b (2 ^ w)
residue-mul w (pos a) (negsuc b) =
    residue-neg w (pos (a * suc b)) ∙ ap (λ n. (2 ^ w - n) % 2 ^ w) (mul-mod a (suc b) (2 ^ w) ∙ ap (λ n. n % 2 ^ w) (turn (a % 2 ^ w) (suc b % 2 ^ w)))
    ∙ mod_turn (suc b % 2 ^ w) (a % 2 ^ w) (2 ^ w) (pow_pos w) (mod_below (suc b) (2 ^ w) (pow_pos w))
    ∙ ap (λ n. n % 2 ^ w) (turn ((2 ^ w - suc b % 2 ^ w) % 2 ^ w) (a % 2 ^ w))
    ∙ ap (λ n. (a % 2 ^ w * n) % 2 ^ w) (sym (residue-neg w (pos (suc b))))
  where
    turn : (a b : ℕ) → a * b ≡ b * a
    turn a b = omega arith
residue-mul w (negsuc a) (pos b) =
    residue-neg w (pos (suc a * b)) ∙ ap (λ n. (2 ^ w - n) % 2 ^ w) (mul-mod (suc a) b (2 ^ w))
    ∙ mod_turn (suc a % 2 ^ w) (b % 2 ^ w) (2 ^ w) (pow_pos w) (mod_below (suc a) (2 ^ w) (pow_pos w))
    ∙ ap (λ n. (n * (b % 2 ^ w)) % 2 ^ w) (sym (residue-neg w (pos (suc a))))
residue-mul w (negsuc a) (negsuc b) =
    let u = suc a % 2 ^ w in
    let v = suc b % 2 ^ w in
    let p = pow_pos w in
    let na : residue w (negsuc a) ≡ (2 ^ w - u) % 2 ^ w = residue-neg w (pos (suc a)) in
    let nb : residue w (negsuc b) ≡ (2 ^ w - v) % 2 ^ w = residue-neg w (pos (suc b)) in
    mul-mod (suc a) (suc b) (2 ^ w)
    ∙ both_turned u v (2 ^ w) p (mod_below (suc a) (2 ^ w) p) (mod_below (suc b) (2 ^ w) p)
    ∙ ap (λ n. (n * ((2 ^ w - v) % 2 ^ w)) % 2 ^ w) (sym na) ∙ ap (λ n. (residue w (negsuc a) * n) % 2 ^ w) (sym nb)
  where
    square : (P u v a b : ℕ) → a + u ≡ P → b + v ≡ P → a * b + (u + v) * P ≡ P * P + u * v
    square P u v a b e f = omega (arith, ap (λ k. a * k) f, ap (λ k. k * P) e, ap (λ k. k * v) e)

    both_turned : (u v P : ℕ) → 0 < P → u < P → v < P → (u * v) % P ≡ ((P - u) % P * ((P - v) % P)) % P
    both_turned u v P h hu hv =
        let a = P - u in
        let b = P - v in
        let f : a * b + (u + v) * P ≡ P * P + u * v = square P u v a b (omega (arith, hu)) (omega (arith, hv)) in
        let r = mod_below (u * v) P h in
        let s = mod_below (a * b) P h in
        let eu = div-add-mod' (u * v) P in
        let es = div-add-mod' (a * b) P in
        let e : ((a * b) / P + (u + v)) * P + (a * b) % P ≡ (P + (u * v) / P) * P + (u * v) % P = omega (arith, f, eu, es) in
        sym (mod-mul-add (P + (u * v) / P) P ((u * v) % P) r) ∙ ap (λ n. n % P) (sym e) ∙ mod-mul-add ((a * b) / P + (u + v)) P ((a * b) % P) s ∙ mul-mod a b P

-- the integer of w bits has the number that they spell
pub residue-value : (signed : Bool) (w n : ℕ) → n < 2 ^ w → residue w (value_of_bits signed w n) ≡ n
residue-value false w n h = mod_small n (2 ^ w) h
residue-value true w n h = go (nat_lt n (2 ^ (w - 1)))
  where
    lifted : (n P : ℕ) → n < P → (pos n -ℤ pos P) +ℤ pos (1 * P) ≡ pos n
    lifted n P h = omega (arith, ints)

    go : (b : Bool) → residue w (cond b (pos n) (pos n -ℤ pos (2 ^ w))) ≡ n
    go true = mod_small n (2 ^ w) h
    go false = residue_is w (pos n -ℤ pos (2 ^ w)) 1 n (lifted n (2 ^ w) h) ∙ mod_small n (2 ^ w) h
