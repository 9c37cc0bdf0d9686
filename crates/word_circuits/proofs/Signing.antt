-- Conditional negation, and division with a sign.
use Rattle.std.proofs.Common.{◌≡◌, ℕ, zero, suc, ◌+◌, ◌*◌, ◌/◌, ◌%◌, ◌-◌, ◌^◌, ◌<◌, ◌≤◌, Bool, true, false, ◌&&◌, not, cond, ℤ, pos, negsuc, neg_ℤ, ◌-ℤ◌, List, [], ◌∷◌, ◌++◌, length, get_or, take, refl, ap, ◌∙◌, sym, arith, subst}
use Rattle.std.proofs.Math.Nat.{pow-suc, div-le_self}
use Rattle.std.proofs.lemmas.Int.{ints}
use Rattle.std.proofs.lemmas.List.{length_push, take_all}
use Rattle.std.proofs.lemmas.Nat.{mod-mul-add, pow_pos}
use Rattle.gate_core.specs.Circuit.{Circuit, times, xor}
use Rattle.gate_core.proofs.Relating.{truth, Costs}
use Rattle.gate_core.specs.Circuit.Circuit.{give, join}
use Rattle.gate_core.proofs.Playing.{truth-then, truth-times, Costs-then, Costs-times}
use Rattle.oc_values.specs.Integers.{residue, value_of_bits, wrap_bits, quotient, remainder}
use Rattle.word_circuits.specs.Integers.{number, bit, value}
use Rattle.word_circuits.specs.Chains.{Carried}
use Rattle.word_circuits.specs.Divisions.{Divided, divide_circuit, negate_step, cond_negate, divide_sizes, quotient_circuit, remainder_circuit}
use Rattle.word_circuits.specs.Fragments.{circuit}
use Rattle.word_circuits.specs.Fragments.Operation.{op_quotient, op_remainder}
use Rattle.word_circuits.proofs.Values.{value-push, value-more, value-below, mod_small}
use Rattle.word_circuits.proofs.Whole.{residue-neg}
use Rattle.word_circuits.proofs.Comparing.{topped}
use Rattle.word_circuits.proofs.Dividing.{Divides, truth-divides, quotient_of, remainder_of, Wide, Costs-divide}
use Rattle.word_circuits.proofs.Calling.{apart}
use Rattle.word_circuits.proofs.Totals.{number_wraps, signed_from_top}

-- what is known after n places: the low places of x, or of 2^n less them
pub record Negated (x : List Bool) (b : Bool) (n : ℕ) (a : Carried Bool) : Type 0 where
  pub len : length a.sums ≡ n
  pub kept : b ≡ false → (value a.sums ≡ value (take n x)) × (a.carry ≡ false)
  pub turned : b ≡ true → value a.sums + 2 ^ n * bit a.carry + value (take n x) ≡ 2 ^ n

half : (u c : Bool) → bit (xor (not u) c) + 2 * bit (not u && c) + bit u ≡ 1 + bit c
half true true = refl
half true false = refl
half false true = refl
half false false = refl

xor-false : (u : Bool) → xor u false ≡ u
xor-false true = refl
xor-false false = refl

xor-true : (u : Bool) → xor u true ≡ not u
xor-true true = refl
xor-true false = refl

and-false : (u : Bool) → (u && false) ≡ false
and-false true = refl
and-false false = refl

Negated-step : (x : List Bool) (b d : Bool) (n : ℕ) (a : Carried Bool) → n < length x → Negated x b n a → Negated x b (suc n) (truth (negate_step x b d n a))
Negated-step x b d n a lt h =
    let u = get_or x n d in
    let y = xor u b in
    let s = xor y a.carry in
    let e : suc n ≡ n + 1 = omega arith in
    let v : value (a.sums ++ s ∷ []) ≡ value a.sums + 2 ^ n * bit s = value-push a.sums s ∙ ap (λ k. value a.sums + 2 ^ k * bit s) h.len in
    let more = value-more x n d lt in
    record {
      len = omega (arith, length_push a.sums s, h.len);
      kept = λ f.
          let k = h.kept f in
          let es : s ≡ u = ap (λ c. xor y c) k.1 ∙ xor-false y ∙ ap (λ c. xor u c) f ∙ xor-false u in
          (rw e (omega (arith, v, more, k.0, ap (λ c. 2 ^ n * bit c) es)), ap (λ c. y && c) k.1 ∙ and-false y);
      turned = λ f.
          let k = h.turned f in
          let ey : y ≡ not u = ap (λ c. xor u c) f ∙ xor-true u in
          let adds : bit s + 2 * bit (y && a.carry) + bit u ≡ 1 + bit a.carry = subst (λ z. bit (xor z a.carry) + 2 * bit (z && a.carry) + bit u ≡ 1 + bit a.carry) (sym ey) (half u a.carry) in
          rw (pow-suc, e) (omega (arith, v, more, k, ap (λ c. 2 ^ n * c) adds));
    }

-- the number, negated modulo the width where b
abbrev pub turned_by : ℕ → Bool → ℕ → ℕ
turned_by w b n = cond b ((2 ^ w - n) % 2 ^ w) n

pub truth-cond_negate : (x : List Bool) (b d : Bool) (w : ℕ) → 0 < w → length x ≡ w
    → (length (truth (cond_negate w b x d)) ≡ w) × (value (truth (cond_negate w b x d)) ≡ turned_by w b (value x))
truth-cond_negate x b d w some lx =
    let n = w - 1 in
    let start : Carried Bool = record { sums = []; carry = b } in
    let a = truth (times n (negate_step x b d) start) in
    let first : Negated x b 0 start = record { len = refl; kept = λ f. (refl, f); turned = λ f. ap (λ c. 0 + 2 ^ 0 * bit c + 0) f } in
    let h : Negated x b n a = truth-times (Negated x b) (negate_step x b d) start n first (λ i a lt k. Negated-step x b d i a (omega (arith, lt, lx)) k) in
    let next = truth (negate_step x b d n a) in
    let e : suc n ≡ w = omega (arith, some) in
    let k : Negated x b w next = subst (λ k. Negated x b k next) e (Negated-step x b d n a (omega (arith, some, lx)) h) in
    let ex : take w x ≡ x = take_all w x (omega (arith, lx)) in
    let r : truth (cond_negate w b x d) ≡ next.sums = truth-then (times n (negate_step x b d) start) _ in
    let small : value next.sums < 2 ^ w = value-below next.sums w k.len in
    let kept : b ≡ false → value next.sums ≡ value x = λ f. (k.kept f).0 ∙ ap value ex in
    let turned : b ≡ true → value next.sums ≡ (2 ^ w - value x) % 2 ^ w = λ f.
    let t : value next.sums + 2 ^ w * bit next.carry + value x ≡ 2 ^ w = rw ex at (k.turned f) in
    let q : bit next.carry * 2 ^ w + value next.sums ≡ 2 ^ w - value x = omega (arith, t) in
    sym (mod-mul-add (bit next.carry) (2 ^ w) (value next.sums) small) ∙ ap (λ n. n % 2 ^ w) q
    in
    (ap length r ∙ k.len, ap value r ∙ either b (value next.sums) kept turned)
  where
    either : (b : Bool) (v : ℕ) → (b ≡ false → v ≡ value x) → (b ≡ true → v ≡ (2 ^ w - value x) % 2 ^ w) → v ≡ turned_by w b (value x)
    either true v k t = t refl
    either false v k t = k refl

-- how large an integer is, of which w bits spell n and t is the top one
abbrev pub size : ℕ → Bool → ℕ → ℕ
size w t n = cond t (2 ^ w - n) n

-- and the integer
abbrev pub signed_by : ℕ → Bool → ℕ → ℤ
signed_by w t n = cond t (pos n -ℤ pos (2 ^ w)) (pos n)

pub number-signed : (x : List Bool) (d : Bool) (w : ℕ) → 0 < w → length x ≡ w → number true x ≡ signed_by w (get_or x (w - 1) d) (value x)
number-signed x d w some lx =
    let top = topped x d w some lx in
    ap (λ n. value_of_bits true n (value x)) lx ∙ signed_from_top (value x) (2 ^ (w - 1)) (2 ^ w) (value (take (w - 1) x)) (get_or x (w - 1) d) top.whole top.below

-- a top bit says that the number isn't 0
pub top_some : (x : List Bool) (d : Bool) (w : ℕ) → 0 < w → length x ≡ w → get_or x (w - 1) d ≡ true → 0 < value x
top_some x d w some lx e =
    let top = topped x d w some lx in
    let p = pow_pos (w - 1) in
    let t : value x ≡ value (take (w - 1) x) + 2 ^ (w - 1) * 1 = top.whole ∙ ap (λ b. value (take (w - 1) x) + 2 ^ (w - 1) * bit b) e in
    omega (arith, t, p)

-- a conditional negation by the top bit gives the size
truth-size : (x : List Bool) (d : Bool) (w : ℕ) → 0 < w → length x ≡ w
    → (length (truth (cond_negate w (get_or x (w - 1) d) x d)) ≡ w) × (value (truth (cond_negate w (get_or x (w - 1) d) x d)) ≡ size w (get_or x (w - 1) d) (value x))
truth-size x d w some lx =
    let h = truth-cond_negate x (get_or x (w - 1) d) d w some lx in
    (h.0, h.1 ∙ go (get_or x (w - 1) d) (top_some x d w some lx))
  where
    go : (t : Bool) → (t ≡ true → 0 < value x) → turned_by w t (value x) ≡ size w t (value x)
    go true p = let q = p refl in let v = value-below x w lx in mod_small (2 ^ w - value x) (2 ^ w) (omega (arith, q, v))
    go false p = refl

-- the division of the sizes
pub record Sized (w X Y : ℕ) (s t : Bool) (a : Divided Bool) : Type 0 where
  pub quotient_len : length a.quotient ≡ w
  pub rest_len : length a.rest ≡ w
  pub quotient : value a.quotient ≡ quotient_of w (size w s X) (size w t Y)
  pub rest : value a.rest ≡ remainder_of (size w s X) (size w t Y)

pub truth-divide_sizes : (x y : List Bool) (d : Bool) (w : ℕ) → 0 < w → length x ≡ w → length y ≡ w
    → Sized w (value x) (value y) (get_or x (w - 1) d) (get_or y (w - 1) d) (truth (divide_sizes w x y d))
truth-divide_sizes x y d w some lx ly =
    let s = get_or x (w - 1) d in
    let t = get_or y (w - 1) d in
    let a = truth (cond_negate w s x d) in
    let b = truth (cond_negate w t y d) in
    let ha = truth-size x d w some lx in
    let hb = truth-size y d w some ly in
    let q = truth (divide_circuit w a b) in
    let h : Divides w (value a) (value b) q = truth-divides a b w ha.0 hb.0 in
    let whole : truth (divide_sizes w x y d) ≡ q = truth-then (cond_negate w s x d) _ ∙ truth-then (cond_negate w t y d) _ in
    subst (Sized w (value x) (value y) s t) (sym whole)
    (record {
      quotient_len = h.quotient_len;
      rest_len = h.rest_len;
      quotient = h.quotient ∙ ap (λ n. quotient_of w n (value b)) ha.1 ∙ ap (λ n. quotient_of w (size w s (value x)) n) hb.1;
      rest = h.rest ∙ ap (λ n. remainder_of n (value b)) ha.1 ∙ ap (λ n. remainder_of (size w s (value x)) n) hb.1;
    })

-- a size as what is left of an integer with that sign
residue-pos : (w q : ℕ) → q < 2 ^ w → q ≡ residue w (pos q)
residue-pos w q h = sym (mod_small q (2 ^ w) h)

residue-minus : (w q : ℕ) → q < 2 ^ w → (2 ^ w - q) % 2 ^ w ≡ residue w (neg_ℤ (pos q))
residue-minus w q h = ap (λ n. (2 ^ w - n) % 2 ^ w) (residue-pos w q h) ∙ sym (residue-neg w (pos q))

below_zero : (n P : ℕ) → n < P → pos n -ℤ pos P ≡ negsuc (P - suc n)
below_zero n P h = omega (arith, ints)

-- sizes below 0, as successors
size_suc : (n P : ℕ) → n < P → P - n ≡ suc (P - suc n)
size_suc n P h = omega arith

-- s and t are the top bits of the words that spell a and b
pub signed-quotient : (w a b : ℕ) (s t : Bool) → a < 2 ^ w → b < 2 ^ w → (s ≡ true → 0 < a) → (t ≡ true → 0 < b)
    → turned_by w (xor s t) (quotient_of w (size w s a) (size w t b)) ≡ residue w (quotient true (signed_by w s a) (signed_by w t b))
signed-quotient w a zero false false ha hb hs ht =
    let m = mod_small 0 (2 ^ w) (pow_pos w) in omega (arith, m)
signed-quotient w a zero true false ha hb hs ht =
    let p : 0 < 2 ^ w = pow_pos w in
    let e : 2 ^ w - (2 ^ w - 1) ≡ 1 = omega (arith, p) in
    rw (below_zero a (2 ^ w) ha) (ap (λ n. n % 2 ^ w) e)
signed-quotient w a (suc b) false false ha hb hs ht =
    residue-pos w (a / suc b) (let q = div-le_self a (suc b) in omega (arith, ha, q))
signed-quotient w a (suc b) true false ha hb hs ht =
    let k = 2 ^ w - suc a in
    let q = div-le_self (suc k) (suc b) in
    let p = hs refl in
    rw (below_zero a (2 ^ w) ha, size_suc a (2 ^ w) ha) (residue-minus w (suc k / suc b) (omega (arith, q, p, ha)))
signed-quotient w a b false true ha hb hs ht =
    let k = 2 ^ w - suc b in
    let q = div-le_self a (suc k) in
    rw (below_zero b (2 ^ w) hb, size_suc b (2 ^ w) hb) (residue-minus w (a / suc k) (omega (arith, q, ha)))
signed-quotient w a b true true ha hb hs ht =
    let k = 2 ^ w - suc a in
    let l = 2 ^ w - suc b in
    let q = div-le_self (suc k) (suc l) in
    let p = hs refl in
    rw (below_zero a (2 ^ w) ha, below_zero b (2 ^ w) hb, size_suc a (2 ^ w) ha, size_suc b (2 ^ w) hb) (residue-pos w (suc k / suc l) (omega (arith, q, p, ha)))

mod_le : (n m : ℕ) → n % suc m ≤ n
mod_le n m = let e = mod-most n m in e
  where
    mod-most : (n m : ℕ) → n % suc m ≤ n
    mod-most n m = omega arith

pub signed-remainder : (w a b : ℕ) (s t : Bool) → a < 2 ^ w → b < 2 ^ w → (s ≡ true → 0 < a) → (t ≡ true → 0 < b)
    → turned_by w s (remainder_of (size w s a) (size w t b)) ≡ residue w (remainder (signed_by w s a) (signed_by w t b))
signed-remainder w a zero false false ha hb hs ht = residue-pos w a ha
signed-remainder w a zero true false ha hb hs ht =
    let k = 2 ^ w - suc a in
    let p = hs refl in
    rw (below_zero a (2 ^ w) ha, size_suc a (2 ^ w) ha) (residue-minus w (suc k) (omega (arith, p, ha)))
signed-remainder w a (suc b) false false ha hb hs ht =
    residue-pos w (a % suc b) (let q = mod_le a b in omega (arith, ha, q))
signed-remainder w a (suc b) true false ha hb hs ht =
    let k = 2 ^ w - suc a in
    let q = mod_le (suc k) b in
    let p = hs refl in
    rw (below_zero a (2 ^ w) ha, size_suc a (2 ^ w) ha) (residue-minus w (suc k % suc b) (omega (arith, q, p, ha)))
signed-remainder w a b false true ha hb hs ht =
    let k = 2 ^ w - suc b in
    let q = mod_le a k in
    rw (below_zero b (2 ^ w) hb, size_suc b (2 ^ w) hb) (residue-pos w (a % suc k) (omega (arith, q, ha)))
signed-remainder w a b true true ha hb hs ht =
    let k = 2 ^ w - suc a in
    let l = 2 ^ w - suc b in
    let q = mod_le (suc k) l in
    let p = hs refl in
    rw (below_zero a (2 ^ w) ha, below_zero b (2 ^ w) hb, size_suc a (2 ^ w) ha, size_suc b (2 ^ w) hb) (residue-minus w (suc k % suc l) (omega (arith, q, p, ha)))

-- without a sign
plain-quotient : (w a b : ℕ) → a < 2 ^ w → quotient_of w a b ≡ residue w (quotient false (pos a) (pos b))
plain-quotient w a zero h = let m = mod_small 0 (2 ^ w) (pow_pos w) in omega (arith, m)
plain-quotient w a (suc b) h = residue-pos w (a / suc b) (let q = div-le_self a (suc b) in omega (arith, h, q))

plain-remainder : (w a b : ℕ) → a < 2 ^ w → remainder_of a b ≡ residue w (remainder (pos a) (pos b))
plain-remainder w a zero h = residue-pos w a h
plain-remainder w a (suc b) h = residue-pos w (a % suc b) (let q = mod_le a b in omega (arith, h, q))

pub integer-quotient : (d signed : Bool) (w : ℕ) → 0 < w → (p q : List Bool) → length p ≡ w → length q ≡ w
    → number signed (truth (circuit (op_quotient signed) w d (p ++ q))) ≡ wrap_bits signed w (quotient signed (number signed p) (number signed q))
integer-quotient d false w some p q lp lq =
    let h = truth-divides p q w lp lq in
    let r = truth (divide_circuit w p q) in
    let whole : truth (quotient_circuit false w p q d) ≡ r.quotient = truth-then (divide_circuit w p q) (λ a. give a.quotient) in
    ap (λ (c : Circuit Bool (List Bool)). number false (truth c)) (apart (λ x y. quotient_circuit false w x y d) p q w lp)
    ∙ ap (number false) whole
    ∙ number_wraps false w r.quotient (quotient false (number false p) (number false q)) h.quotient_len (h.quotient ∙ plain-quotient w (value p) (value q) (value-below p w lp))
integer-quotient d true w some p q lp lq =
    let s = get_or p (w - 1) d in
    let t = get_or q (w - 1) d in
    let h = truth-divide_sizes p q d w some lp lq in
    let r = truth (divide_sizes w p q d) in
    let n = truth-cond_negate r.quotient (xor s t) d w some h.quotient_len in
    let whole : truth (quotient_circuit true w p q d) ≡ truth (cond_negate w (xor s t) r.quotient d) = truth-then (divide_sizes w p q d) (λ a. join s t (λ z. cond_negate w z a.quotient d)) in
    ap (λ (c : Circuit Bool (List Bool)). number true (truth c)) (apart (λ x y. quotient_circuit true w x y d) p q w lp)
    ∙ ap (number true) whole
    ∙ number_wraps true w (truth (cond_negate w (xor s t) r.quotient d)) (quotient true (number true p) (number true q)) n.0
    (n.1 ∙ ap (λ k. turned_by w (xor s t) k) h.quotient
    ∙ signed-quotient w (value p) (value q) s t (value-below p w lp) (value-below q w lq) (top_some p d w some lp) (top_some q d w some lq)
    ∙ ap (λ k. residue w (quotient true k (signed_by w t (value q)))) (sym (number-signed p d w some lp)) ∙ ap (λ k. residue w (quotient true (number true p) k)) (sym (number-signed q d w some lq)))

pub integer-remainder : (d signed : Bool) (w : ℕ) → 0 < w → (p q : List Bool) → length p ≡ w → length q ≡ w
    → number signed (truth (circuit (op_remainder signed) w d (p ++ q))) ≡ wrap_bits signed w (remainder (number signed p) (number signed q))
integer-remainder d false w some p q lp lq =
    let h = truth-divides p q w lp lq in
    let r = truth (divide_circuit w p q) in
    let whole : truth (remainder_circuit false w p q d) ≡ r.rest = truth-then (divide_circuit w p q) (λ a. give a.rest) in
    ap (λ (c : Circuit Bool (List Bool)). number false (truth c)) (apart (λ x y. remainder_circuit false w x y d) p q w lp)
    ∙ ap (number false) whole
    ∙ number_wraps false w r.rest (remainder (number false p) (number false q)) h.rest_len (h.rest ∙ plain-remainder w (value p) (value q) (value-below p w lp))
integer-remainder d true w some p q lp lq =
    let s = get_or p (w - 1) d in
    let t = get_or q (w - 1) d in
    let h = truth-divide_sizes p q d w some lp lq in
    let r = truth (divide_sizes w p q d) in
    let n = truth-cond_negate r.rest s d w some h.rest_len in
    let whole : truth (remainder_circuit true w p q d) ≡ truth (cond_negate w s r.rest d) = truth-then (divide_sizes w p q d) (λ a. cond_negate w s a.rest d) in
    ap (λ (c : Circuit Bool (List Bool)). number true (truth c)) (apart (λ x y. remainder_circuit true w x y d) p q w lp)
    ∙ ap (number true) whole
    ∙ number_wraps true w (truth (cond_negate w s r.rest d)) (remainder (number true p) (number true q)) n.0
    (n.1 ∙ ap (λ k. turned_by w s k) h.rest
    ∙ signed-remainder w (value p) (value q) s t (value-below p w lp) (value-below q w lq) (top_some p d w some lp) (top_some q d w some lq)
    ∙ ap (λ k. residue w (remainder k (signed_by w t (value q)))) (sym (number-signed p d w some lp)) ∙ ap (λ k. residue w (remainder (number true p) k)) (sym (number-signed q d w some lq)))

-- the ANDs of a conditional negation
pub Costs-negate_steps : {W : Type 0} (x : List W) (b d : W) (n : ℕ) → Costs (λ (a : Carried W). length a.sums ≡ n) n (times n (negate_step x b d) (record { sums = []; carry = b }))
Costs-negate_steps {W} x b d n =
    Costs-times (λ i (a : Carried W). length a.sums ≡ i) (λ i. i) (negate_step x b d) (record { sums = []; carry = b }) n 1 refl (λ i. omega arith) refl
    (λ i a lt h. λ y s. (0, refl, λ c. (refl, omega (arith, length_push a.sums s, h))))

pub Costs-cond_negate : {W : Type 0} (w : ℕ) (b : W) (x : List W) (d : W) → 0 < w → Costs (λ (l : List W). length l ≡ w) (w - 1) (cond_negate w b x d)
Costs-cond_negate {W} w b x d some =
    Costs-then (λ (a : Carried W). length a.sums ≡ w - 1) (λ (l : List W). length l ≡ w) (w - 1) 0 (w - 1) (times (w - 1) (negate_step x b d) (record { sums = []; carry = b })) _ (omega arith)
    (Costs-negate_steps x b d (w - 1)) (λ a e y s. (refl, omega (arith, length_push a.sums s, e, some)))

pub Costs-divide_sizes : {W : Type 0} (w : ℕ) (x y : List W) (d : W) → 0 < w → Costs (Wide w w) (2 * (w - 1) + w * (2 * w + 1)) (divide_sizes w x y d)
Costs-divide_sizes {W} w x y d some =
    Costs-then (λ (l : List W). length l ≡ w) (Wide w w) (w - 1) (w - 1 + w * (2 * w + 1)) (2 * (w - 1) + w * (2 * w + 1)) (cond_negate w (get_or x (w - 1) d) x d) _ (omega arith)
    (Costs-cond_negate w _ x d some)
    (λ a la. Costs-then (λ (l : List W). length l ≡ w) (Wide w w) (w - 1) (w * (2 * w + 1)) (w - 1 + w * (2 * w + 1)) (cond_negate w (get_or y (w - 1) d) y d) _ (omega arith)
    (Costs-cond_negate w _ y d some) (λ b lb. Costs-divide w a b))

pub Costs-quotient : {W : Type 0} (w : ℕ) (x y : List W) (d : W) → Costs (λ (l : List W). length l ≡ w) (w * (2 * w + 1)) (quotient_circuit false w x y d)
Costs-quotient {W} w x y d =
    Costs-then (Wide w w) (λ (l : List W). length l ≡ w) (w * (2 * w + 1)) 0 (w * (2 * w + 1)) (divide_circuit w x y) _ (omega arith) (Costs-divide w x y) (λ a h. (refl, h.0))

pub Costs-remainder : {W : Type 0} (w : ℕ) (x y : List W) (d : W) → Costs (λ (l : List W). length l ≡ w) (w * (2 * w + 1)) (remainder_circuit false w x y d)
Costs-remainder {W} w x y d =
    Costs-then (Wide w w) (λ (l : List W). length l ≡ w) (w * (2 * w + 1)) 0 (w * (2 * w + 1)) (divide_circuit w x y) _ (omega arith) (Costs-divide w x y) (λ a h. (refl, h.1))

pub Costs-signed_quotient : {W : Type 0} (w : ℕ) (x y : List W) (d : W) → 0 < w → Costs (λ (l : List W). length l ≡ w) (w * (2 * w + 1) + 3 * (w - 1)) (quotient_circuit true w x y d)
Costs-signed_quotient {W} w x y d some =
    Costs-then (Wide w w) (λ (l : List W). length l ≡ w) (2 * (w - 1) + w * (2 * w + 1)) (w - 1) (w * (2 * w + 1) + 3 * (w - 1)) (divide_sizes w x y d) _ (omega arith)
    (Costs-divide_sizes w x y d some) (λ a h s. Costs-cond_negate w s a.quotient d some)

pub Costs-signed_remainder : {W : Type 0} (w : ℕ) (x y : List W) (d : W) → 0 < w → Costs (λ (l : List W). length l ≡ w) (w * (2 * w + 1) + 3 * (w - 1)) (remainder_circuit true w x y d)
Costs-signed_remainder {W} w x y d some =
    Costs-then (Wide w w) (λ (l : List W). length l ≡ w) (2 * (w - 1) + w * (2 * w + 1)) (w - 1) (w * (2 * w + 1) + 3 * (w - 1)) (divide_sizes w x y d) _ (omega arith)
    (Costs-divide_sizes w x y d some) (λ a h. Costs-cond_negate w _ a.rest d some)
