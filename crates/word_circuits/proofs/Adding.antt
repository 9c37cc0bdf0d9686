-- A chain of carries adds.
use Rattle.std.proofs.Common.{◌≡◌, ℕ, suc, ◌+◌, ◌*◌, ◌-◌, ◌%◌, ◌^◌, ◌<◌, ◌≤◌, Bool, List, [], ◌∷◌, ◌++◌, length, get_or, take, refl, ap, ◌∙◌, sym, arith, subst}
use Rattle.std.proofs.Math.Nat.{pow-suc}
use Rattle.std.proofs.lemmas.List.{length_push, take_all}
use Rattle.std.proofs.lemmas.Nat.{mod-mul-add}
use Rattle.gate_core.specs.Circuit.{xor}
use Rattle.gate_core.proofs.Relating.{truth, Costs}
use Rattle.gate_core.specs.Circuit.Circuit.{give, flip}
use Rattle.gate_core.proofs.Playing.{truth-then, truth-times, Costs-then, Costs-times, Costs-row}
use Rattle.word_circuits.specs.Integers.{bit, value}
use Rattle.word_circuits.specs.Chains.{Carried, chain_step, chain, last_sum, sums, add_circuit, flips, subtract_circuit}
use Rattle.word_circuits.proofs.Values.{value-push, value-more, adder-bits, value-below}

-- what is known after n places
pub record Added (x y : List Bool) (c : Bool) (n : ℕ) (a : Carried Bool) : Type 0 where
  pub len : length a.sums ≡ n
  pub total : value a.sums + 2 ^ n * bit a.carry ≡ value (take n x) + value (take n y) + bit c

pub Added-step : (x y : List Bool) (c d : Bool) (n : ℕ) (a : Carried Bool) → n < length x → n < length y
    → Added x y c n a → Added x y c (suc n) (truth (chain_step x y d n a))
Added-step x y c d n a lx ly h =
    let u = get_or x n d in
    let v = get_or y n d in
    let s = xor (xor u a.carry) v in
    record {
      len = omega (arith, length_push a.sums s, h.len);
      total =
          let p : value (a.sums ++ s ∷ []) ≡ value a.sums + 2 ^ n * bit s = value-push a.sums s ∙ ap (λ k. value a.sums + 2 ^ k * bit s) h.len in
          let e : suc n ≡ n + 1 = omega arith in
          rw (pow-suc, e) (omega (arith, p, h.total, value-more x n d lx, value-more y n d ly, ap (λ k. 2 ^ n * k) (adder-bits u v a.carry)));
    }

pub Added-chain : (x y : List Bool) (c d : Bool) (n : ℕ) → n ≤ length x → n ≤ length y → Added x y c n (truth (chain x y d c n))
Added-chain x y c d n lx ly =
    truth-times (Added x y c) (chain_step x y d) (record { sums = []; carry = c }) n (record { len = refl; total = omega arith })
    (λ i a lt h. Added-step x y c d i a (omega (arith, lt, lx)) (omega (arith, lt, ly)) h)

-- a sum, with the carry that isn't made
pub record Sums (w total : ℕ) (s : List Bool) : Type 0 where
  pub len : length s ≡ w
  pub carry : Bool
  pub is : value s + 2 ^ w * bit carry ≡ total

pub truth-sums : (x y : List Bool) (c : Bool) (w : ℕ) → 0 < w → length x ≡ w → length y ≡ w → Sums w (value x + value y + bit c) (truth (sums w x y c))
truth-sums x y c w pos lx ly =
    let n = w - 1 in
    let a = truth (chain x y c c n) in
    let h : Added x y c n a = Added-chain x y c c n (omega (arith, lx)) (omega (arith, ly)) in
    let b = truth (chain_step x y c n a) in
    let next : Added x y c (suc n) b = Added-step x y c c n a (omega (arith, pos, lx)) (omega (arith, pos, ly)) h in
    let e : suc n ≡ w = omega (arith, pos) in
    let whole : Added x y c w b = subst (λ k. Added x y c k b) e next in
    let ex : take w x ≡ x = take_all w x (omega (arith, lx)) in
    let ey : take w y ≡ y = take_all w y (omega (arith, ly)) in
    let total : value b.sums + 2 ^ w * bit b.carry ≡ value x + value y + bit c = rw (ex, ey) at whole.total in
    let r : truth (sums w x y c) ≡ b.sums = truth-then (chain x y c c n) (last_sum x y c n) in
    subst (Sums w (value x + value y + bit c)) (sym r) (record { len = whole.len; carry = b.carry; is = total })

pub Sums-mod : (w total : ℕ) (s : List Bool) → Sums w total s → value s ≡ total % 2 ^ w
Sums-mod w total s h =
    let v : value s < 2 ^ w = value-below s w h.len in
    let e : bit h.carry * 2 ^ w + value s ≡ total = omega (arith, h.is) in
    sym (mod-mul-add (bit h.carry) (2 ^ w) (value s) v) ∙ ap (λ n. n % 2 ^ w) e

-- each place makes one AND
pub Costs-chain : {W : Type 0} (x y : List W) (d c : W) (n : ℕ) → Costs (λ (b : Carried W). length b.sums ≡ n) n (chain x y d c n)
Costs-chain {W} x y d c n =
    Costs-times (λ i (b : Carried W). length b.sums ≡ i) (λ i. i) (chain_step x y d) (record { sums = []; carry = c }) n 1 refl (λ i. omega arith) refl
    (λ i a lt h. λ p q. (0, refl, λ both s e. (refl, omega (arith, length_push a.sums s, h))))

pub Costs-sums : {W : Type 0} (w : ℕ) (x y : List W) (c : W) → 0 < w → Costs (λ (l : List W). length l ≡ w) (w - 1) (sums w x y c)
Costs-sums {W} w x y c pos =
    Costs-then (λ (b : Carried W). length b.sums ≡ w - 1) (λ (l : List W). length l ≡ w) (w - 1) 0 (w - 1) (chain x y c c (w - 1)) (last_sum x y c (w - 1)) (omega arith)
    (Costs-chain x y c c (w - 1)) (λ a e p s. (refl, omega (arith, length_push a.sums s, e, pos)))

pub Costs-add : {W : Type 0} (w : ℕ) (x y : List W) → 0 < w → Costs (λ (l : List W). length l ≡ w) (w - 1) (add_circuit w x y)
Costs-add w x y pos = λ c. Costs-sums w x y c pos

pub Costs-flips : {W : Type 0} (x : List W) (d : W) (n : ℕ) → Costs (λ (l : List W). length l ≡ n) 0 (flips x d n)
Costs-flips {W} x d n =
    subst (λ k. Costs (λ (l : List W). length l ≡ n) k (flips x d n)) (let e : n * 0 ≡ 0 = omega arith in e)
    (Costs-row (λ i. flip (get_or x i d) (λ w. give w)) n 0 (λ i lt v. (refl, tt)))

pub Costs-subtract : {W : Type 0} (w : ℕ) (x y : List W) → 0 < w → Costs (λ (l : List W). length l ≡ w) (w - 1) (subtract_circuit w x y)
Costs-subtract {W} w x y pos = λ c.
    Costs-then (λ (l : List W). length l ≡ w) (λ (l : List W). length l ≡ w) 0 (w - 1) (w - 1) (flips y c w) (λ ny. sums w x ny c) (omega arith)
    (Costs-flips y c w) (λ ny e. Costs-sums w x ny c pos)
