-- Orders, equality, and the conversion to a truth value.
use Rattle.std.proofs.Common.{◌≡◌, ℕ, zero, suc, ◌+◌, ◌*◌, ◌-◌, ◌^◌, ◌<◌, ◌≤◌, Bool, true, false, ◌&&◌, not, List, [], ◌∷◌, ◌++◌, length, get_or, take, replicate, refl, ap, ◌∙◌, sym, arith, subst, ◌⊎◌, inl, inr}
use Rattle.std.proofs.Math.Nat.{pow-suc}
use Rattle.std.proofs.lemmas.List.{length_push, take_all, length-replicate, length-take-le, ext_get_or, get_or-replicate}
use Rattle.gate_core.specs.Circuit.{Circuit, then, times, xor}
use Rattle.gate_core.proofs.Relating.{truth, Costs}
use Rattle.gate_core.specs.Circuit.Circuit.{give, meet}
use Rattle.gate_core.proofs.Playing.{truth-then, truth-times, Costs-then, Costs-times}
use Rattle.word_circuits.specs.Integers.{bit, value}
use Rattle.word_circuits.specs.Chains.{Carried, chain, flips, biased, less_circuit, conjunction, alike, equal_circuit, other, to_bool_circuit}
use Rattle.word_circuits.proofs.Values.{value-push, value-more, value-below, value-zeros, value-injective}
use Rattle.word_circuits.proofs.Adding.{Costs-chain, Costs-flips}
use Rattle.word_circuits.proofs.Turning.{truth-flips_all, Subtracted, Subtracted-chain}

-- the top bit of x, and what the others spell
pub record Topped (x : List Bool) (w : ℕ) (t : Bool) (low : ℕ) : Type 0 where
  pub whole : value x ≡ low + 2 ^ (w - 1) * bit t
  pub below : low < 2 ^ (w - 1)
  pub double : 2 ^ w ≡ 2 ^ (w - 1) * 2

pub topped : (x : List Bool) (d : Bool) (w : ℕ) → 0 < w → length x ≡ w → Topped x w (get_or x (w - 1) d) (value (take (w - 1) x))
topped x d w pos lx =
    let e : w - 1 + 1 ≡ w = omega (arith, pos) in
    let f : suc (w - 1) ≡ w = omega (arith, pos) in
    let all : take w x ≡ x = take_all w x (omega (arith, lx)) in
    let l : length (take (w - 1) x) ≡ w - 1 = length-take-le (w - 1) x (omega (arith, lx)) in
    record {
      whole = ap value (sym all) ∙ ap (λ n. value (take n x)) (sym e) ∙ value-more x (w - 1) d (omega (arith, pos, lx));
      below = value-below (take (w - 1) x) (w - 1) l;
      double = ap (λ n. 2 ^ n) (sym f) ∙ pow-suc 2 (w - 1);
    }

-- what a word spells once its top bit is turned
pub record Moved (w : ℕ) (x : List Bool) (t : Bool) (r : List Bool) : Type 0 where
  pub len : length r ≡ w
  pub is : value r + 2 ^ w * bit t ≡ value x + 2 ^ (w - 1)

pub truth-biased : (x : List Bool) (d : Bool) (w : ℕ) → 0 < w → length x ≡ w → Moved w x (get_or x (w - 1) d) (truth (biased true w x d))
truth-biased x d w pos lx =
    let t = get_or x (w - 1) d in
    let h = topped x d w pos lx in
    let l : length (take (w - 1) x) ≡ w - 1 = length-take-le (w - 1) x (omega (arith, lx)) in
    let r = take (w - 1) x ++ not t ∷ [] in
    let v : value r ≡ value (take (w - 1) x) + 2 ^ (w - 1) * bit (not t) = value-push (take (w - 1) x) (not t) ∙ ap (λ k. value (take (w - 1) x) + 2 ^ k * bit (not t)) l in
    record {
      len = omega (arith, length_push (take (w - 1) x) (not t), l, pos);
      is = turn t (value r) (value (take (w - 1) x)) (value x) (2 ^ (w - 1)) (2 ^ w) v h.whole h.double;
    }
  where
    turn : (b : Bool) (r low x p q : ℕ) → r ≡ low + p * bit (not b) → x ≡ low + p * bit b → q ≡ p * 2 → r + q * bit b ≡ x + p
    turn true r low x p q e f g = omega (arith, e, f, g)
    turn false r low x p q e f g = omega (arith, e, f, g)

not_true : (b : Bool) → not b ≡ true → b ≡ false
not_true true e = absurd (cc)
not_true false e = refl

not_false : (b : Bool) → not b ≡ false → b ≡ true
not_false true e = refl
not_false false e = absurd (cc)

-- whether one number is below another
pub record Orders (X Y : ℕ) (l : Bool) : Type 0 where
  pub if_true : l ≡ true → X < Y
  pub if_false : l ≡ false → Y ≤ X

-- the order of what stands after the top bits were turned
pub truth-less : (signed : Bool) (x y : List Bool) (w : ℕ) → length (truth (biased signed w x true)) ≡ w → length (truth (biased signed w y true)) ≡ w
    → (l : Bool) × (truth (less_circuit signed w x y) ≡ l ∷ []) × Orders (value (truth (biased signed w x true))) (value (truth (biased signed w y true))) l
truth-less signed x y w lu lv =
    let u = truth (biased signed w x true) in
    let v = truth (biased signed w y true) in
    let nv = truth (flips v true w) in
    let t = truth-flips_all v true w lv in
    let a = truth (chain u nv true true w) in
    let s : Subtracted u v w a = Subtracted-chain u v nv true w lu t.0 t.1 in
    let whole : truth (less_circuit signed w x y) ≡ not a.carry ∷ [] =
    truth-then (biased signed w x true) _ ∙ truth-then (biased signed w y true) _ ∙ truth-then (flips v true w) _ ∙ truth-then (chain u nv true true w) _ in
    (not a.carry, whole, record { if_true = λ e. s.unless (not_true a.carry e); if_false = λ e. omega (arith, s.when (not_false a.carry e)) })

-- all of the first n
pub record All (z : ℕ → Bool) (n : ℕ) (t : Bool) : Type 0 where
  pub if_true : t ≡ true → (i : ℕ) → i < n → z i ≡ true
  pub if_all : ((i : ℕ) → i < n → z i ≡ true) → t ≡ true

both : (a b : Bool) → (a && b) ≡ true → (a ≡ true) × (b ≡ true)
both true true e = (refl, refl)
both true false e = absurd (cc)
both false true e = absurd (cc)
both false false e = absurd (cc)

All-step : (z : ℕ → Bool) (n : ℕ) (t : Bool) → All z n t → All z (suc n) (t && z n)
All-step z n t h = record {
  if_true = λ e i lt. let q = both t (z n) e in last i n lt (λ l. h.if_true q.0 i l) q.1;
  if_all = λ k. let q : t ≡ true = h.if_all (λ i lt. k i (omega (arith, lt))) in ap (λ b. b && z n) q ∙ k n (omega arith);
}
  where
    last : (i n : ℕ) → i < suc n → (i < n → z i ≡ true) → z n ≡ true → z i ≡ true
    last zero zero lt below here = here
    last zero (suc n) lt below here = below (omega arith)
    last (suc i) zero lt below here = absurd (omega (arith, lt))
    last (suc i) (suc n) lt below here = more (order i n (omega (arith, lt)))
      where
        order : (i n : ℕ) → i < suc n → (i < n) ⊎ (i ≡ n)
        order zero zero lt = inr refl
        order zero (suc n) lt = inl (omega arith)
        order (suc i) zero lt = absurd (omega (arith, lt))
        order (suc i) (suc n) lt = elim (order i n (omega (arith, lt))) [ inl h ↦ inl (omega (arith, h)) | inr h ↦ inr (ap suc h) ]

        more : (i < n) ⊎ (i ≡ n) → z (suc i) ≡ true
        more (inl h) = below (omega (arith, h))
        more (inr h) = subst (λ k. z (suc k) ≡ true) (sym h) here

pub truth-conjunction : (f : ℕ → Circuit Bool Bool) (w : ℕ) → 0 < w → All (λ i. truth (f i)) w (truth (conjunction f w))
truth-conjunction f w pos =
    let z : ℕ → Bool = λ i. truth (f i) in
    let step = λ (i : ℕ) (t : Bool). then (f (i + 1)) (λ z. meet t z (λ u. give u)) in
    let first : All z 1 (z 0) = record { if_true = λ e i lt. (let q : i ≡ 0 = omega (arith, lt) in ap z q ∙ e); if_all = λ k. k 0 (omega arith) } in
    let loop : All z (suc (w - 1)) (truth (times (w - 1) step (z 0))) =
    truth-times (λ i t. All z (suc i) t) step (z 0) (w - 1) first
    (λ i t lt h. subst (All z (suc (suc i))) (sym (truth-then (f (i + 1)) (λ z. meet t z (λ u. give u)) ∙ ap (λ (k : ℕ). t && truth (f k)) (let e : i + 1 ≡ suc i = omega arith in e))) (All-step z (suc i) t h)) in
    let e : suc (w - 1) ≡ w = omega (arith, pos) in
    subst (All z w) (sym (truth-then (f 0) (times (w - 1) step))) (subst (λ n. All z n (truth (times (w - 1) step (z 0)))) e loop)

alike_true : (a b : Bool) → not (xor a b) ≡ true → a ≡ b
alike_true true true e = refl
alike_true true false e = absurd (cc)
alike_true false true e = absurd (cc)
alike_true false false e = refl

alike_same : (a b : Bool) → a ≡ b → not (xor a b) ≡ true
alike_same true true e = refl
alike_same true false e = absurd (cc)
alike_same false true e = absurd (cc)
alike_same false false e = refl

-- whether a test is true exactly where p holds
pub record Tells (p : Type 0) (t : Bool) : Type 0 where
  pub if_true : t ≡ true → p
  pub if_so : p → t ≡ true

pub truth-equal : (x y : List Bool) (d : Bool) (w : ℕ) → 0 < w → length x ≡ w → length y ≡ w
    → (t : Bool) × (truth (equal_circuit w x y d) ≡ t ∷ []) × Tells (value x ≡ value y) t
truth-equal x y d w pos lx ly =
    let t = truth (conjunction (alike x y d) w) in
    let h = truth-conjunction (alike x y d) w pos in (
      t,
      truth-then (conjunction (alike x y d) w) _,
      record {
        if_true = λ e. ap value (ext_get_or d x y (lx ∙ sym ly) (λ i lt. alike_true _ _ (h.if_true e i (omega (arith, lt, lx)))));
        if_so = λ e. h.if_all (λ i lt. alike_same _ _ (ap (λ l. get_or l i d) (value-injective x y (lx ∙ sym ly) e)));
      },
    )

pub truth-to_bool : (x : List Bool) (d : Bool) (w : ℕ) → 0 < w → length x ≡ w
    → (t : Bool) × (truth (to_bool_circuit w x d) ≡ not t ∷ []) × Tells (value x ≡ 0) t
truth-to_bool x d w pos lx =
    let t = truth (conjunction (other x d) w) in
    let h = truth-conjunction (other x d) w pos in
    let z = replicate w false in
    let lz : length z ≡ w = length-replicate w false in (
      t,
      truth-then (conjunction (other x d) w) _,
      record {
        if_true = λ e. ap value (ext_get_or d x z (lx ∙ sym lz) (λ i lt. let q : i < w = omega (arith, lt, lx) in not_true _ (h.if_true e i q) ∙ sym (get_or-replicate w i false d q))) ∙ value-zeros w;
        if_so = λ e. h.if_all (λ i lt. ap not (ap (λ l. get_or l i d) (value-injective x z (lx ∙ sym lz) (e ∙ sym (value-zeros w))) ∙ get_or-replicate w i false d lt));
      },
    )

pub Costs-biased : {W : Type 0} (signed : Bool) (w : ℕ) (x : List W) (d : W) → 0 < w → length x ≡ w → Costs (λ (l : List W). length l ≡ w) 0 (biased signed w x d)
Costs-biased true w x d pos lx = λ t. (refl, (let l = length-take-le (w - 1) x (omega (arith, lx)) in omega (arith, length_push (take (w - 1) x) t, l, pos)))
Costs-biased false w x d pos lx = (refl, lx)

pub Costs-less : {W : Type 0} (signed : Bool) (w : ℕ) (x y : List W) → 0 < w → length x ≡ w → length y ≡ w → Costs (λ (l : List W). length l ≡ 1) w (less_circuit signed w x y)
Costs-less {W} signed w x y pos lx ly = λ high.
    Costs-then (λ (l : List W). length l ≡ w) (λ (l : List W). length l ≡ 1) 0 w w (biased signed w x high) _ (omega arith) (Costs-biased signed w x high pos lx)
    (λ u lu. Costs-then (λ (l : List W). length l ≡ w) (λ (l : List W). length l ≡ 1) 0 w w (biased signed w y high) _ (omega arith) (Costs-biased signed w y high pos ly)
    (λ v lv. Costs-then (λ (l : List W). length l ≡ w) (λ (l : List W). length l ≡ 1) 0 w w (flips v high w) _ (omega arith) (Costs-flips v high w)
    (λ nv ln. Costs-then (λ (b : Carried W). length b.sums ≡ w) (λ (l : List W). length l ≡ 1) w 0 w (chain u nv high high w) _ (omega arith) (Costs-chain u nv high high w)
    (λ a e l. (refl, refl)))))

-- the ANDs after the first of all
pub Costs-rest : {W : Type 0} (f : ℕ → Circuit W W) (n : ℕ) (z : W) → ((i : ℕ) → Costs (λ (v : W). Unit {0}) 0 (f i))
    → Costs (λ (v : W). Unit {0}) n (times n (λ i t. then (f (i + 1)) (λ z. meet t z (λ u. give u))) z)
Costs-rest {W} f n z each =
    Costs-times (λ i (v : W). Unit {0}) (λ i. i) (λ i t. then (f (i + 1)) (λ z. meet t z (λ u. give u))) z n 1 refl (λ i. omega arith) tt
    (λ i t lt p. Costs-then (λ (v : W). Unit {0}) (λ (v : W). Unit {0}) 0 1 1 (f (i + 1)) _ (omega arith) (each (i + 1)) (λ z q. (0, refl, λ r. (refl, tt))))

pub Costs-conjunction : {W : Type 0} (f : ℕ → Circuit W W) (w : ℕ) → ((i : ℕ) → Costs (λ (v : W). Unit {0}) 0 (f i)) → Costs (λ (v : W). Unit {0}) (w - 1) (conjunction f w)
Costs-conjunction {W} f w each =
    Costs-then (λ (v : W). Unit {0}) (λ (v : W). Unit {0}) 0 (w - 1) (w - 1) (f 0) _ (omega arith) (each 0) (λ z u. Costs-rest f (w - 1) z each)

pub Costs-equal : {W : Type 0} (w : ℕ) (x y : List W) (d : W) → Costs (λ (l : List W). length l ≡ 1) (w - 1) (equal_circuit w x y d)
Costs-equal {W} w x y d =
    Costs-then (λ (v : W). Unit {0}) (λ (l : List W). length l ≡ 1) (w - 1) 0 (w - 1) (conjunction (alike x y d) w) _ (omega arith)
    (Costs-conjunction (alike x y d) w (λ i p z. (refl, tt))) (λ t u. (refl, refl))

pub Costs-to_bool : {W : Type 0} (w : ℕ) (x : List W) (d : W) → Costs (λ (l : List W). length l ≡ 1) (w - 1) (to_bool_circuit w x d)
Costs-to_bool {W} w x d =
    Costs-then (λ (v : W). Unit {0}) (λ (l : List W). length l ≡ 1) (w - 1) 0 (w - 1) (conjunction (other x d) w) _ (omega arith)
    (Costs-conjunction (other x d) w (λ i z. (refl, tt))) (λ t u r. (refl, refl))
