-- Products.
use Rattle.std.proofs.Common.{◌≡◌, ℕ, zero, suc, ◌+◌, ◌*◌, ◌-◌, ◌%◌, ◌^◌, ◌<◌, ◌≤◌, Bool, true, false, ◌&&◌, ◌*ℤ◌, List, [], ◌∷◌, ◌++◌, length, get_or, take, drop, refl, ap, ◌∙◌, sym, arith, subst, inr}
use Rattle.std.proofs.lemmas.List.{length_push, take_all, length-append, length-take-le, length-drop}
use Rattle.std.proofs.lemmas.Nat.{pow-add, mod-mul-add}
use Rattle.gate_core.specs.Circuit.{Circuit, Calls, Plays, then, times}
use Rattle.gate_core.proofs.Relating.{truth, Same, Costs}
use Rattle.gate_core.specs.Circuit.Circuit.{give, meet}
use Rattle.gate_core.specs.Relations.{All2}
use Rattle.gate_core.proofs.Playing.{truth-then, truth-times, truth-row, Costs-then, Plays-then}
use Rattle.gate_core.proofs.Pairs.{Same-then, Same-times, Same-row, All2-up, All2-at, All2-take, All2-drop, All2-append}
use Rattle.oc_values.specs.Integers.{residue, wrap_bits}
use Rattle.word_circuits.specs.Integers.{number, bit, value}
use Rattle.word_circuits.specs.Chains.{add_circuit}
use Rattle.word_circuits.specs.Products.{part, multiply_row, multiply_step, multiply_circuit}
use Rattle.word_circuits.specs.Fragments.{circuit}
use Rattle.word_circuits.specs.Fragments.Operation.{op_multiply}
use Rattle.word_circuits.proofs.Values.{value-push, value-more, value-below, value-append}
use Rattle.word_circuits.proofs.Whole.{residue-mul}
use Rattle.word_circuits.proofs.Adding.{Sums, truth-sums, Costs-add}
use Rattle.word_circuits.proofs.AddingPairs.{Same-add}
use Rattle.word_circuits.proofs.Choosing.{Costs-ands}
use Rattle.word_circuits.proofs.Shifting.{value-split}
use Rattle.word_circuits.proofs.Calling.{Uniform, Counted, apart}
use Rattle.word_circuits.proofs.Totals.{number_wraps, residue-number}

-- the number of the first n places, where b
pub record Parted (x : List Bool) (b : Bool) (n : ℕ) (ws : List Bool) : Type 0 where
  pub len : length ws ≡ n
  pub total : value ws ≡ value (take n x) * bit b

bit-and : (a b : Bool) → bit (a && b) ≡ bit a * bit b
bit-and true true = refl
bit-and true false = refl
bit-and false true = refl
bit-and false false = refl

pub truth-part : (x : List Bool) (b d : Bool) (n : ℕ) → n ≤ length x → Parted x b n (truth (part x b d n))
truth-part x b d n h = truth-row (Parted x b) (λ i. meet (get_or x i d) b (λ w. give w)) n (record { len = refl; total = omega arith })
    (λ i ws lt p. record {
      len = omega (arith, length_push ws (get_or x i d && b), p.len);
      total =
          let u = get_or x i d in
          let e : suc i ≡ i + 1 = omega arith in
          let v : value (ws ++ (u && b) ∷ []) ≡ value ws + 2 ^ i * bit (u && b) = value-push ws (u && b) ∙ ap (λ k. value ws + 2 ^ k * bit (u && b)) p.len in
          rw e (omega (arith, v, p.total, ap (λ k. k * bit b) (value-more x i d (omega (arith, lt, h))), ap (λ k. 2 ^ i * k) (bit-and u b)));
    })

-- what is spelled, and how many times 2^w is lost
pub record Congruent (w total : ℕ) (s : List Bool) : Type 0 where
  pub len : length s ≡ w
  pub times : ℕ
  pub is : value s + 2 ^ w * times ≡ total

pub Congruent-mod : (w total : ℕ) (s : List Bool) → Congruent w total s → value s ≡ total % 2 ^ w
Congruent-mod w total s h =
    let v : value s < 2 ^ w = value-below s w h.len in
    let e : h.times * 2 ^ w + value s ≡ total = omega (arith, h.is) in
    sym (mod-mul-add h.times (2 ^ w) (value s) v) ∙ ap (λ n. n % 2 ^ w) e

-- the arithmetic of one row more
row_sum : (P Q lo hi s c r q T H b X Y : ℕ) → s + Q * c ≡ hi + r → r ≡ T * b → X ≡ T + Q * H → lo + P * hi + P * Q * q ≡ X * Y
    → lo + P * s + P * Q * (c + q + H * b) ≡ X * (Y + P * b)
row_sum P Q lo hi s c r q T H b X Y es er ex h =
    omega (arith, h, ap (λ k. P * k) es, ap (λ k. P * k) er, ap (λ k. k * (P * b)) ex)

Congruent-step : (x y : List Bool) (d : Bool) (w j : ℕ) (p : List Bool) → length x ≡ w → length y ≡ w → suc j < w
    → Congruent w (value x * value (take (j + 1) y)) p → Congruent w (value x * value (take (suc j + 1) y)) (truth (multiply_step w x y d j p))
Congruent-step x y d w j p lx ly lt h =
    let i = j + 1 in
    let n = w - i in
    let u = get_or y i d in
    let hn : n ≤ length x = omega (arith, lx) in
    let r = truth (part x u d n) in
    let parts : Parted x u n r = truth-part x u d n hn in
    let ld : length (drop i p) ≡ n = omega (arith, length-drop i p, h.len) in
    let s = truth (add_circuit n (drop i p) r) in
    let some : 0 < n = omega (arith, lt) in
    let added : Sums n (value (drop i p) + value r + 0) s = truth-sums (drop i p) r false n some ld parts.len in
    let is : value s + 2 ^ n * bit added.carry ≡ value (drop i p) + value r = omega (arith, added.is) in
    let hi : i ≤ length p = omega (arith, h.len, lt) in
    let lt2 : length (take i p) ≡ i = length-take-le i p hi in
    let split : value p ≡ value (take i p) + 2 ^ i * value (drop i p) = value-split p i hi in
    let splitx : value x ≡ value (take n x) + 2 ^ n * value (drop n x) = value-split x n hn in
    let new : value (take i p ++ s) ≡ value (take i p) + 2 ^ i * value s =
    value-append (take i p) s ∙ ap (λ k. value (take i p) + 2 ^ k * value s) lt2 in
    let pw : 2 ^ w ≡ 2 ^ i * 2 ^ n = (let e : w ≡ i + n = omega (arith, lt) in ap (λ k. 2 ^ k) e) ∙ pow-add 2 i n in
    let before : value (take i p) + 2 ^ i * value (drop i p) + 2 ^ i * 2 ^ n * h.times ≡ value x * value (take i y) =
    subst (λ k. value (take i p) + 2 ^ i * value (drop i p) + k * h.times ≡ value x * value (take i y)) pw (subst (λ k. k + 2 ^ w * h.times ≡ value x * value (take i y)) split h.is) in
    let after = row_sum (2 ^ i) (2 ^ n) (value (take i p)) (value (drop i p)) (value s) (bit added.carry) (value r) h.times (value (take n x)) (value (drop n x)) (bit u) (value x) (value (take i y))
    is parts.total splitx before in
    let more : value (take (suc j + 1) y) ≡ value (take i y) + 2 ^ i * bit u =
    (let e : suc j + 1 ≡ i + 1 = omega arith in ap (λ k. value (take k y)) e) ∙ value-more y i d (omega (arith, ly, lt)) in
    let all : truth (multiply_step w x y d j p) ≡ take i p ++ s =
    truth-then (part x u d n) _ ∙ truth-then (add_circuit n (drop i p) r) _ in
    subst (Congruent w (value x * value (take (suc j + 1) y))) (sym all)
    (record {
      len = omega (arith, length-append (take i p) s, lt2, added.len, lt);
      times = bit added.carry + h.times + value (drop n x) * bit u;
      is = rw (new, more, pw) after;
    })

pub truth-multiply : (x y : List Bool) (d : Bool) (w : ℕ) → 0 < w → length x ≡ w → length y ≡ w
    → Congruent w (value x * value y) (truth (multiply_circuit w x y d))
truth-multiply x y d w some lx ly =
    let p = truth (part x (get_or y 0 d) d w) in
    let h : Parted x (get_or y 0 d) w p = truth-part x (get_or y 0 d) d w (omega (arith, lx)) in
    let ex : take w x ≡ x = take_all w x (omega (arith, lx)) in
    let first_bit : value (take (0 + 1) y) ≡ value (take 0 y) + 2 ^ 0 * bit (get_or y 0 d) = value-more y 0 d (omega (arith, some, ly)) in
    let only : value (take (0 + 1) y) ≡ bit (get_or y 0 d) = omega (arith, first_bit) in
    let ph : value p ≡ value x * bit (get_or y 0 d) = rw ex at h.total in
    let first : Congruent w (value x * value (take (0 + 1) y)) p = record { len = h.len; times = 0; is = rw only (omega (arith, ph)) } in
    let loop = truth-times (λ j q. Congruent w (value x * value (take (j + 1) y)) q) (multiply_step w x y d) p (w - 1) first
    (λ j q lt k. Congruent-step x y d w j q lx ly (omega (arith, lt, some)) k) in
    let ey : take (w - 1 + 1) y ≡ y = take_all (w - 1 + 1) y (omega (arith, ly)) in
    let whole : truth (multiply_circuit w x y d) ≡ truth (times (w - 1) (multiply_step w x y d) p) = truth-then (part x (get_or y 0 d) d w) _ in
    subst (Congruent w (value x * value y)) (sym whole) (subst (λ l. Congruent w (value x * value l) (truth (times (w - 1) (multiply_step w x y d) p))) ey loop)

pub integer-multiply : (d signed : Bool) (w : ℕ) → 0 < w → (p q : List Bool) → length p ≡ w → length q ≡ w
    → number signed (truth (circuit op_multiply w d (p ++ q))) ≡ wrap_bits signed w (number signed p *ℤ number signed q)
integer-multiply d signed w some p q lp lq =
    let h = truth-multiply p q d w some lp lq in
    let a = residue-number signed w p lp in
    let b = residue-number signed w q lq in
    ap (λ (c : Circuit Bool (List Bool)). number signed (truth c)) (apart (λ x y. multiply_circuit w x y d) p q w lp)
    ∙ number_wraps signed w (truth (multiply_circuit w p q d)) (number signed p *ℤ number signed q) h.len
    (Congruent-mod w _ _ h ∙ ap (λ n. (n * value q) % 2 ^ w) (sym a) ∙ ap (λ n. (residue w (number signed p) * n) % 2 ^ w) (sym b) ∙ sym (residue-mul w (number signed p) (number signed q)))

pub Costs-part : {W : Type 0} (x : List W) (b d : W) (n : ℕ) → Costs (λ (ws : List W). length ws ≡ n) n (part x b d n)
Costs-part x b d n = Costs-ands (λ i. meet (get_or x i d) b (λ w. give w)) n (λ i. (0, refl, λ w. (refl, tt)))

-- the ANDs of the rows: row j makes 2 * (w - (j + 1)) - 1
abbrev pub rows_cost : ℕ → ℕ → ℕ
rows_cost w zero = 0
rows_cost w (suc j) = rows_cost w j + (2 * (w - (j + 1)) - 1)

pub Costs-multiply_row : {W : Type 0} (x p : List W) (b d : W) (w i : ℕ) → length p ≡ w → i < w
    → Costs (λ (l : List W). length l ≡ w) (2 * (w - i) - 1) (multiply_row w x b d i p)
Costs-multiply_row {W} x p b d w i lp lt =
    let n = w - i in
    let lt2 : length (take i p) ≡ i = length-take-le i p (omega (arith, lp, lt)) in
    Costs-then (λ (r : List W). length r ≡ n) (λ (l : List W). length l ≡ w) n (n - 1) (2 * n - 1) (part x b d n) _ (omega (arith, lt))
    (Costs-part x b d n)
    (λ r e. Costs-then (λ (l : List W). length l ≡ n) (λ (l : List W). length l ≡ w) (n - 1) 0 (n - 1) (add_circuit n (drop i p) r) _ (omega arith)
    (Costs-add n (drop i p) r (omega (arith, lt)))
    (λ s q. (refl, omega (arith, length-append (take i p) s, lt2, q, lt))))

pub Costs-rows : {W : Type 0} (x y : List W) (d : W) (p : List W) (w j : ℕ) → j ≤ w - 1 → length p ≡ w
    → Costs (λ (l : List W). length l ≡ w) (rows_cost w j) (times j (multiply_step w x y d) p)
Costs-rows {W} x y d p w zero le lp = (refl, lp)
Costs-rows {W} x y d p w (suc j) le lp =
    Costs-then (λ (l : List W). length l ≡ w) (λ (l : List W). length l ≡ w) (rows_cost w j) (2 * (w - (j + 1)) - 1) (rows_cost w (suc j))
    (times j (multiply_step w x y d) p) (multiply_step w x y d j) refl (Costs-rows x y d p w j (omega (arith, le)) lp)
    (λ l e. Costs-multiply_row x l (get_or y (j + 1) d) d w (j + 1) e (omega (arith, le)))

-- twice the sum of w - 1, w - 2 and so on, less one for each
rows_sum : (w j : ℕ) → j < w → rows_cost w j + j * (j + 1) + j ≡ 2 * w * j
rows_sum w zero lt = omega arith
rows_sum w (suc j) lt =
    let before = rows_sum w j (omega (arith, lt)) in
    let k : 2 * (w - (j + 1)) - 1 + 2 * (j + 1) + 1 ≡ 2 * w = omega (arith, lt) in
    omega (arith, before, k)

rows_all : (w : ℕ) → 0 < w → w * w - w + 1 ≡ w + rows_cost w (w - 1)
rows_all zero h = absurd (omega (arith, h))
rows_all (suc v) h =
    let e : suc v - 1 ≡ v = omega arith in
    let k = rows_sum (suc v) v (omega arith) in
    rw e (omega (arith, k))

pub Costs-multiply : {W : Type 0} (w : ℕ) (x y : List W) (d : W) → 0 < w → Costs (λ (l : List W). length l ≡ w) (w * w - w + 1) (multiply_circuit w x y d)
Costs-multiply {W} w x y d some =
    let count : w * w - w + 1 ≡ w + rows_cost w (w - 1) = rows_all w some in
    Costs-then (λ (l : List W). length l ≡ w) (λ (l : List W). length l ≡ w) w (rows_cost w (w - 1)) (w * w - w + 1) (part x (get_or y 0 d) d w) _ count
    (Costs-part x (get_or y 0 d) d w) (λ p e. Costs-rows x y d p w (w - 1) (omega arith) e)

module _ {V W : Type 0} where
  pub Same-part : (R : V → W → Type 0) (x : List V) (x' : List W) (b d : V) (b' d' : W) (n : ℕ) → All2 R x x' → R b b' → R d d' → Same R All2 (part x b d n) (part x' b' d' n)
  Same-part R x x' b d b' d' n hx hb hd =
      Same-row R (λ i. meet (get_or x i d) b (λ w. give w)) (λ i. meet (get_or x' i d') b' (λ w. give w)) n
      (λ i P up. (up _ _ (All2-at R x x' d d' i hd hx), up b b' hb, λ w w'. inr (refl, refl)))

  Same-multiply_row : (R : V → W → Type 0) (n : ℕ) (x : List V) (x' : List W) (b d : V) (b' d' : W) (i : ℕ) (p : List V) (p' : List W) → All2 R x x' → R b b' → R d d' → All2 R p p'
      → Same R All2 (multiply_row n x b d i p) (multiply_row n x' b' d' i p')
  Same-multiply_row R n x x' b d b' d' i p p' hx hb hd hp =
      Same-then All2 All2 R (part x b d (n - i)) (part x' b' d' (n - i)) _ _ (Same-part R x x' b d b' d' (n - i) hx hb hd)
      (λ U on r r' hr. Same-then All2 All2 U (add_circuit (n - i) (drop i p) r) (add_circuit (n - i) (drop i p') r') _ _
      (Same-add U (n - i) _ _ _ _ (All2-drop U i p p' (All2-up R U p p' on hp)) hr)
      (λ Z last s s' hs. All2-append Z (take i p) (take i p') s s' (All2-take Z i p p' (All2-up R Z p p' (λ v w e. last v w (on v w e)) hp)) hs))

  pub Same-multiply : (R : V → W → Type 0) (n : ℕ) (x y : List V) (x' y' : List W) (d : V) (d' : W) → All2 R x x' → All2 R y y' → R d d'
      → Same R All2 (multiply_circuit n x y d) (multiply_circuit n x' y' d')
  Same-multiply R n x y x' y' d d' hx hy hd =
      Same-then All2 All2 R (part x (get_or y 0 d) d n) (part x' (get_or y' 0 d') d' n) _ _
      (Same-part R x x' _ d _ d' n hx (All2-at R y y' d d' 0 hd hy) hd)
      (λ P up p p' hp. Same-times All2 P (multiply_step n x y d) (multiply_step n x' y' d') p p' (n - 1)
      (λ j T more q q' hq.
      let up' : (v : V) (w : W) → R v w → T v w = λ v w e. more v w (up v w e) in
      Same-multiply_row T n x x' _ d _ d' (j + 1) q q' (All2-up R T x x' up' hx) (up' _ _ (All2-at R y y' d d' (j + 1) hd hy)) (up' d d' hd) hq)
      hp)

pub Uniform-multiply : (w : ℕ) → Uniform op_multiply w
Uniform-multiply w V W R d e xs ys h k = Same-multiply R w _ _ _ _ d e (All2-take R w xs ys k) (All2-drop R w xs ys k) h

pub Counted-multiply : (w : ℕ) → 0 < w → Counted op_multiply w
Counted-multiply w some W d xs e = Costs-multiply w (take w xs) (drop w xs) d some

module _ {S W : Type 0} (m : Calls S W) where
  pub Plays-multiply_row : (w : ℕ) (x : List W) (b d : W) (i : ℕ) (p back parts front high r s0 all : List W) (s v t : S)
      → back ≡ drop i p → parts ≡ r → front ≡ take i p → high ≡ s0 → length back ≡ w - i
      → Plays m (part x b d (w - i)) s r v → Plays m (add_circuit (length back) back parts) v s0 t → all ≡ front ++ high
      → Plays m (multiply_row w x b d i p) s all t
  Plays-multiply_row w x b d i p back parts front high r s0 all s v t eb ep ef eh lb h k e =
      let k1 = subst (λ n. Plays m (add_circuit n back parts) v s0 t) lb k in
      let k2 = subst (λ l. Plays m (add_circuit (w - i) l parts) v s0 t) eb k1 in
      let k3 = subst (λ l. Plays m (add_circuit (w - i) (drop i p) l) v s0 t) ep k2 in
      let last : take i p ++ s0 ≡ all = rw (← ef, ← eh) (sym e) in
      Plays-then m (part x b d (w - i)) (λ r. then (add_circuit (w - i) (drop i p) r) (λ s. give (take i p ++ s))) s v t r all h
      (Plays-then m (add_circuit (w - i) (drop i p) r) (λ s. give (take i p ++ s)) v t t s0 all k3 (last, refl))

  pub Plays-multiply : (w : ℕ) (x y : List W) (d b : W) (n : ℕ) (p r : List W) (s v t : S)
      → b ≡ get_or y 0 d → n ≡ w - 1 → Plays m (part x b d w) s p v → Plays m (times n (multiply_step w x y d) p) v r t
      → Plays m (multiply_circuit w x y d) s r t
  Plays-multiply w x y d b n p r s v t eb en h k =
      Plays-then m (part x (get_or y 0 d) d w) (times (w - 1) (multiply_step w x y d)) s v t p r
      (subst (λ l. Plays m (part x l d w) s p v) eb h) (subst (λ l. Plays m (times l (multiply_step w x y d) p) v r t) en k)
