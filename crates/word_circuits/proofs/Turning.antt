-- Turned bits, and differences.
use Rattle.std.proofs.Common.{◌≡◌, ℕ, suc, ◌+◌, ◌*◌, ◌-◌, ◌%◌, ◌^◌, ◌<◌, ◌≤◌, Bool, true, false, not, List, [], ◌∷◌, ◌++◌, length, get_or, take, replicate, refl, ap, ◌∙◌, arith}
use Rattle.std.proofs.Math.Nat.{pow-suc}
use Rattle.std.proofs.lemmas.List.{length_push, take_all, length-replicate}
use Rattle.gate_core.proofs.Relating.{truth}
use Rattle.gate_core.specs.Circuit.Circuit.{give, flip}
use Rattle.gate_core.proofs.Playing.{truth-then, truth-row}
use Rattle.word_circuits.specs.Integers.{bit, value}
use Rattle.word_circuits.specs.Chains.{Carried, chain, sums, flips, subtract_circuit, negate_circuit}
use Rattle.word_circuits.proofs.Values.{value-push, value-more, value-below, value-zeros}
use Rattle.word_circuits.proofs.Adding.{Added-chain, Sums, Sums-mod, truth-sums}

-- the first n bits of x, turned
pub record Turned (x : List Bool) (n : ℕ) (ws : List Bool) : Type 0 where
  pub len : length ws ≡ n
  pub total : value ws + value (take n x) + 1 ≡ 2 ^ n

bit-not : (b : Bool) → bit (not b) + bit b ≡ 1
bit-not true = refl
bit-not false = refl

pub truth-flips : (x : List Bool) (d : Bool) (n : ℕ) → n ≤ length x → Turned x n (truth (flips x d n))
truth-flips x d n h = truth-row (Turned x) (λ i. flip (get_or x i d) (λ w. give w)) n (record { len = refl; total = omega arith })
    (λ i ws lt p. record {
      len = omega (arith, length_push ws (not (get_or x i d)), p.len);
      total =
          let u = get_or x i d in
          let e : suc i ≡ i + 1 = omega arith in
          let v : value (ws ++ not u ∷ []) ≡ value ws + 2 ^ i * bit (not u) = value-push ws (not u) ∙ ap (λ k. value ws + 2 ^ k * bit (not u)) p.len in
          rw (pow-suc, e) (omega (arith, v, value-more x i d (omega (arith, lt, h)), p.total, ap (λ k. 2 ^ i * k) (bit-not u)));
    })

-- all the bits of x, turned
pub truth-flips_all : (x : List Bool) (d : Bool) (w : ℕ) → length x ≡ w → (length (truth (flips x d w)) ≡ w) × (value (truth (flips x d w)) + value x + 1 ≡ 2 ^ w)
truth-flips_all x d w lx =
    let t : Turned x w (truth (flips x d w)) = truth-flips x d w (omega (arith, lx)) in
    let all : take w x ≡ x = take_all w x (omega (arith, lx)) in
    (t.len, rw all at t.total)

pub truth-subtract : (x y : List Bool) (w : ℕ) → 0 < w → length x ≡ w → length y ≡ w
    → (length (truth (subtract_circuit w x y)) ≡ w) × (value (truth (subtract_circuit w x y)) ≡ (value x + (2 ^ w - value y)) % 2 ^ w)
truth-subtract x y w pos lx ly =
    let ny = truth (flips y true w) in
    let t = truth-flips_all y true w ly in
    let s : Sums w (value x + value ny + 1) (truth (sums w x ny true)) = truth-sums x ny true w pos lx t.0 in
    let whole : truth (subtract_circuit w x y) ≡ truth (sums w x ny true) = truth-then (flips y true w) (λ ny. sums w x ny true) in
    let total : value x + value ny + 1 ≡ value x + (2 ^ w - value y) = omega (arith, t.1) in
    (ap length whole ∙ s.len, ap value whole ∙ Sums-mod w _ _ s ∙ ap (λ n. n % 2 ^ w) total)

pub truth-negate : (x : List Bool) (w : ℕ) → 0 < w → length x ≡ w
    → (length (truth (negate_circuit w x)) ≡ w) × (value (truth (negate_circuit w x)) ≡ (2 ^ w - value x) % 2 ^ w)
truth-negate x w pos lx =
    let z = replicate w false in
    let h = truth-subtract z x w pos (length-replicate w false) lx in
    let e : value z + (2 ^ w - value x) ≡ 2 ^ w - value x = (let v = value-zeros w in omega (arith, v)) in
    (h.0, h.1 ∙ ap (λ n. n % 2 ^ w) e)

-- a difference, and whether nothing is borrowed
pub borrowed : (v X Y p : ℕ) (c : Bool) → v + p * bit c + Y ≡ X + p → v < p → X < p → (c ≡ true → v + Y ≡ X) × (c ≡ false → X < Y)
borrowed v X Y p true e h k = (λ q. omega (arith, e), λ q. absurd (cc))
borrowed v X Y p false e h k = (λ q. absurd (cc), λ q. omega (arith, e, h))

pub record Subtracted (x y : List Bool) (n : ℕ) (a : Carried Bool) : Type 0 where
  pub len : length a.sums ≡ n
  pub when : a.carry ≡ true → value a.sums + value y ≡ value x
  pub unless : a.carry ≡ false → value x < value y

-- where ny is y turned
pub Subtracted-chain : (x y ny : List Bool) (d : Bool) (n : ℕ) → length x ≡ n → length ny ≡ n → value ny + value y + 1 ≡ 2 ^ n
    → Subtracted x y n (truth (chain x ny d true n))
Subtracted-chain x y ny d n lx ly e =
    let a = truth (chain x ny d true n) in
    let h = Added-chain x ny true d n (omega (arith, lx)) (omega (arith, ly)) in
    let ex : take n x ≡ x = take_all n x (omega (arith, lx)) in
    let ey : take n ny ≡ ny = take_all n ny (omega (arith, ly)) in
    let total : value a.sums + 2 ^ n * bit a.carry ≡ value x + value ny + 1 = rw (ex, ey) at h.total in
    let v : value a.sums < 2 ^ n = value-below a.sums n h.len in
    let w : value x < 2 ^ n = value-below x n lx in
    let b = borrowed (value a.sums) (value x) (value y) (2 ^ n) a.carry (omega (arith, total, e)) v w in
    record { len = h.len; when = b.0; unless = b.1 }
