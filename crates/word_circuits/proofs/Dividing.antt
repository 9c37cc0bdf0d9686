-- Division without a sign.
use Rattle.std.proofs.Common.{◌≡◌, ℕ, zero, suc, ◌+◌, ◌*◌, ◌/◌, ◌%◌, ◌-◌, ◌^◌, ◌<◌, ◌≤◌, Bool, true, false, cond, List, [], ◌∷◌, ◌++◌, length, get_or, take, drop, replicate, refl, ap, ◌∙◌, sym, arith, subst, ◌⊎◌, inl, inr}
use Rattle.std.proofs.Math.Nat.{pow-suc, pow-le-pow_right}
use Rattle.std.proofs.lemmas.List.{length_push, length-take-le, length-drop, drop_more, drop_all, length-replicate}
use Rattle.std.proofs.lemmas.Nat.{div-mul-add, mod-mul-add}
use Rattle.gate_core.specs.Circuit.{times}
use Rattle.gate_core.proofs.Relating.{truth, Costs}
use Rattle.gate_core.proofs.Playing.{truth-then, truth-times, Costs-then, Costs-times}
use Rattle.word_circuits.specs.Integers.{bit, value}
use Rattle.word_circuits.specs.Chains.{Carried, chain, flips}
use Rattle.word_circuits.specs.Choices.{choose}
use Rattle.word_circuits.specs.Divisions.{Divided, divide_bit, divide_step, divide_circuit}
use Rattle.word_circuits.proofs.Values.{value-push, value-below, bit≤1, value-take_small, value-zeros}
use Rattle.word_circuits.proofs.Adding.{Costs-chain, Costs-flips}
use Rattle.word_circuits.proofs.Turning.{truth-flips_all, Subtracted, Subtracted-chain}
use Rattle.word_circuits.proofs.Choosing.{truth-choose_second, Costs-choose}

-- the quotient so far and the rest, of the number X, for the divisor Y
pub record Parts (w i X Y : ℕ) (a : Divided Bool) : Type 0 where
  pub count : length a.quotient ≡ i
  pub len : length a.rest ≡ w
  pub whole : value a.quotient * Y + value a.rest ≡ X
  pub below : 0 < Y → value a.rest < Y
  pub by_zero : Y ≡ 0 → value a.quotient + 1 ≡ 2 ^ i

-- one bit more: s is the difference, c whether nothing is borrowed
Parts-more : (w i X Y : ℕ) (a : Divided Bool) (u c : Bool) (s : List Bool) → Parts w i X Y a
    → Y < 2 ^ w → bit u + 2 * X < 2 ^ w → length s ≡ w + 1
    → (c ≡ true → value s + Y ≡ bit u + 2 * value a.rest) → (c ≡ false → bit u + 2 * value a.rest < Y)
    → Parts w (suc i) (bit u + 2 * X) Y (record { quotient = c ∷ a.quotient; rest = take w (cond c s (u ∷ a.rest)) })
Parts-more w i X Y a u true s h ly lx ls when unless =
    let e : value s + Y ≡ bit u + 2 * value a.rest = when refl in
    let b = bit≤1 u in
    let small : value s < 2 ^ w = elim (zero_or Y) as (λ _. value s < 2 ^ w) [
      | inl z ↦ let q : value a.quotient * Y ≡ 0 = subst (λ k. value a.quotient * k ≡ 0) (sym z) (omega arith) in omega (arith, e, z, q, h.whole, lx)
      | inr p ↦ omega (arith, e, h.below p, b, ly)
    ] in
    let v : value (take w s) ≡ value s = value-take_small w s small in
    record {
      count = omega (arith, h.count);
      len = length-take-le w s (omega (arith, ls));
      whole = omega (arith, v, e, h.whole);
      below = λ p. omega (arith, v, e, h.below p, b);
      by_zero = λ z. let p : 2 ^ suc i ≡ 2 ^ i * 2 = pow-suc 2 i in omega (arith, h.by_zero z, p);
    }
  where
    zero_or : (n : ℕ) → (n ≡ 0) ⊎ (0 < n)
    zero_or zero = inl refl
    zero_or (suc n) = inr (omega arith)
Parts-more w i X Y a u false s h ly lx ls when unless =
    let e : bit u + 2 * value a.rest < Y = unless refl in
    let v : value (take w (u ∷ a.rest)) ≡ value (u ∷ a.rest) = value-take_small w (u ∷ a.rest) (omega (arith, e, ly)) in
    record {
      count = omega (arith, h.count);
      len = length-take-le w (u ∷ a.rest) (omega (arith, h.len));
      whole = omega (arith, v, h.whole);
      below = λ p. omega (arith, v, e);
      by_zero = λ z. absurd (omega (arith, e, z));
    }

-- the first i bits from the top
Parts-step : (x y ny : List Bool) (w i : ℕ) (a : Divided Bool) → length x ≡ w → length y ≡ w → length ny ≡ w + 1 → value ny + value y + 1 ≡ 2 ^ (w + 1)
    → i < w → Parts w i (value (drop (w - i) x)) (value y) a
    → Parts w (suc i) (value (drop (w - suc i) x)) (value y) (truth (divide_step w x ny true i a))
Parts-step x y ny w i a lx ly ln en lt h =
    let u = get_or x (w - 1 - i) true in
    let t = u ∷ a.rest in
    let b = truth (chain t ny true true (w + 1)) in
    let sub : Subtracted t y (w + 1) b = Subtracted-chain t y ny true (w + 1) (omega (arith, h.len)) ln en in
    let r : truth (choose b.carry b.sums t t true w) ≡ take w (cond b.carry b.sums t) = truth-choose_second b.carry b.sums t true w (omega (arith, sub.len)) (omega (arith, h.len)) in
    let place : w - 1 - i ≡ w - suc i = omega arith in
    let next : w - suc i + 1 ≡ w - i = omega (arith, lt) in
    let more : drop (w - suc i) x ≡ u ∷ drop (w - i) x =
    drop_more x (w - suc i) true (omega (arith, lx, lt)) ∙ ap (λ k. get_or x (w - suc i) true ∷ drop k x) next ∙ ap (λ k. get_or x k true ∷ drop (w - i) x) (sym place) in
    let lenX : length (drop (w - suc i) x) ≡ suc i = omega (arith, length-drop (w - suc i) x, lx, lt) in
    let top : value (drop (w - suc i) x) < 2 ^ w = pow_up (value (drop (w - suc i) x)) (suc i) w (omega (arith, lt)) (value-below (drop (w - suc i) x) (suc i) lenX) in
    let val : value (drop (w - suc i) x) ≡ bit u + 2 * value (drop (w - i) x) = ap value more in
    let yl : value y < 2 ^ w = value-below y w ly in
    let done = Parts-more w i (value (drop (w - i) x)) (value y) a u b.carry b.sums h yl (omega (arith, top, val)) sub.len sub.when sub.unless in
    let pair : truth (divide_bit u ny true a.rest w) ≡ (b.carry, take w (cond b.carry b.sums t)) =
    truth-then (chain t ny true true (w + 1)) _ ∙ truth-then (choose b.carry b.sums t t true w) _ ∙ ap (λ (l : List Bool). let p : Bool × List Bool = (b.carry, l) in p) r in
    let whole : truth (divide_step w x ny true i a) ≡ record { quotient = b.carry ∷ a.quotient; rest = take w (cond b.carry b.sums t) } =
    truth-then (divide_bit u ny true a.rest w) _ ∙ ap (λ (p : Bool × List Bool). let v : Divided Bool = record { quotient = p.0 ∷ a.quotient; rest = p.1 } in v) pair in
    subst (λ v. Parts w (suc i) (value (drop (w - suc i) x)) (value y) v) (sym whole)
    (subst (λ n. Parts w (suc i) n (value y) (record { quotient = b.carry ∷ a.quotient; rest = take w (cond b.carry b.sums t) })) (sym val) done)
  where
    pow_up : (n i j : ℕ) → i ≤ j → n < 2 ^ i → n < 2 ^ j
    pow_up n i j le h = let q : 2 ^ i ≤ 2 ^ j = pow-le-pow_right {n = 2} (omega arith) le in omega (arith, h, q)

pub truth-divide : (x y : List Bool) (w : ℕ) → length x ≡ w → length y ≡ w → Parts w w (value x) (value y) (truth (divide_circuit w x y))
truth-divide x y w lx ly =
    let z = y ++ false ∷ [] in
    let lz : length z ≡ w + 1 = omega (arith, length_push y false, ly) in
    let vz : value z ≡ value y = (let p = value-push y false in omega (arith, p)) in
    let ny = truth (flips z true (w + 1)) in
    let t = truth-flips_all z true (w + 1) lz in
    let total : value ny + value y + 1 ≡ 2 ^ (w + 1) = omega (arith, t.1, vz) in
    let start : Divided Bool = record { quotient = []; rest = replicate w false } in
    let first : Parts w 0 (value (drop (w - 0) x)) (value y) start =
    record {
      count = refl;
      len = length-replicate w false;
      whole = let e : drop (w - 0) x ≡ [] = drop_all (w - 0) x (omega (arith, lx)) in omega (arith, ap value e, value-zeros w);
      below = λ p. omega (arith, value-zeros w, p);
      by_zero = λ p. refl;
    } in
    let loop = truth-times (λ i a. Parts w i (value (drop (w - i) x)) (value y) a) (divide_step w x ny true) start w first
    (λ i a lt h. Parts-step x y ny w i a lx ly t.0 total lt h) in
    let none : w - w ≡ 0 = omega arith in
    let done = subst (λ k. Parts w w (value (drop k x)) (value y) (truth (times w (divide_step w x ny true) start))) none loop in
    subst (Parts w w (value x) (value y)) (sym (truth-then (flips z true (w + 1)) (λ m. times w (divide_step w x m true) start))) done

-- the quotient of two numbers, all ones by 0, and the remainder
abbrev pub quotient_of : ℕ → ℕ → ℕ → ℕ
quotient_of w a zero = 2 ^ w - 1
quotient_of w a (suc b) = a / suc b

abbrev pub remainder_of : ℕ → ℕ → ℕ
remainder_of a zero = a
remainder_of a (suc b) = a % suc b

pub record Divides (w X Y : ℕ) (a : Divided Bool) : Type 0 where
  pub quotient_len : length a.quotient ≡ w
  pub rest_len : length a.rest ≡ w
  pub quotient : value a.quotient ≡ quotient_of w X Y
  pub rest : value a.rest ≡ remainder_of X Y

pub Divides-parts : (w X Y : ℕ) (a : Divided Bool) → Parts w w X Y a → Divides w X Y a
Divides-parts w X zero a h = record {
  quotient_len = h.count;
  rest_len = h.len;
  quotient = let e = h.by_zero refl in omega (arith, e);
  rest = let e = h.whole in omega (arith, e);
}
Divides-parts w X (suc Y) a h =
    let lt : value a.rest < suc Y = h.below (omega arith) in
    record {
      quotient_len = h.count;
      rest_len = h.len;
      quotient = sym (div-mul-add (value a.quotient) (suc Y) (value a.rest) lt) ∙ ap (λ n. n / suc Y) h.whole;
      rest = sym (mod-mul-add (value a.quotient) (suc Y) (value a.rest) lt) ∙ ap (λ n. n % suc Y) h.whole;
    }

pub truth-divides : (x y : List Bool) (w : ℕ) → length x ≡ w → length y ≡ w → Divides w (value x) (value y) (truth (divide_circuit w x y))
truth-divides x y w lx ly = Divides-parts w (value x) (value y) _ (truth-divide x y w lx ly)

-- the lists of a division have the width
abbrev pub Wide : {W : Type 0} → ℕ → ℕ → Divided W → Type 0
Wide i w a = (length a.quotient ≡ i) × (length a.rest ≡ w)

pub Costs-divide_bit : {W : Type 0} (u : W) (ny : List W) (one : W) (rest : List W) (w : ℕ)
    → Costs (λ (p : W × List W). length p.1 ≡ w) (2 * w + 1) (divide_bit u ny one rest w)
Costs-divide_bit {W} u ny one rest w =
    Costs-then (λ (b : Carried W). length b.sums ≡ w + 1) (λ (p : W × List W). length p.1 ≡ w) (w + 1) w (2 * w + 1) (chain (u ∷ rest) ny one one (w + 1)) _ (omega arith)
    (Costs-chain (u ∷ rest) ny one one (w + 1))
    (λ b e. Costs-then (λ (ws : List W). length ws ≡ w) (λ (p : W × List W). length p.1 ≡ w) w 0 w (choose b.carry b.sums (u ∷ rest) (u ∷ rest) one w) _ (omega arith)
    (Costs-choose b.carry b.sums (u ∷ rest) (u ∷ rest) one w) (λ r k. (refl, k)))

pub Costs-divide_steps : {W : Type 0} (x ny : List W) (one : W) (start : List W) (w i : ℕ) → length start ≡ w
    → Costs (Wide i w) (i * (2 * w + 1)) (times i (divide_step w x ny one) (record { quotient = []; rest = start }))
Costs-divide_steps {W} x ny one start w i ls =
    Costs-times (λ k (a : Divided W). Wide k w a) (λ k. k * (2 * w + 1)) (divide_step w x ny one) _ i (2 * w + 1)
    (omega arith) (λ k. omega arith) (refl, ls)
    (λ k a lt h. Costs-then (λ (p : W × List W). length p.1 ≡ w) (Wide (suc k) w) (2 * w + 1) 0 (2 * w + 1)
    (divide_bit (get_or x (w - 1 - k) one) ny one a.rest w) _ (omega arith) (Costs-divide_bit _ ny one a.rest w) (λ p e. (refl, (omega (arith, h.0), e))))

pub Costs-divide : {W : Type 0} (w : ℕ) (x y : List W) → Costs (Wide w w) (w * (2 * w + 1)) (divide_circuit w x y)
Costs-divide {W} w x y = λ low high.
    Costs-then (λ (ws : List W). length ws ≡ w + 1) (Wide w w) 0 (w * (2 * w + 1)) (w * (2 * w + 1))
    (flips (y ++ low ∷ []) high (w + 1)) _ (omega arith) (Costs-flips (y ++ low ∷ []) high (w + 1))
    (λ ny e. Costs-divide_steps x ny high (replicate w low) w w (length-replicate w low))
