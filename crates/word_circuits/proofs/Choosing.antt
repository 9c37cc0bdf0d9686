-- Operations bit by bit, and choices.
use Rattle.std.proofs.Common.{◌≡◌, ℕ, suc, ◌+◌, ◌*◌, ◌^◌, ◌<◌, ◌≤◌, Bool, true, false, ◌&&◌, not, cond, bit_and, bit_or, bit_xor, List, [], ◌∷◌, ◌++◌, length, get_or, take, refl, ap, ◌∙◌, sym, arith, subst}
use Rattle.std.proofs.lemmas.List.{length_push, take_more, take_all, length-take-le}
use Rattle.std.proofs.lemmas.Nat.{and_block, or_block, xor_block}
use Rattle.gate_core.specs.Circuit.{Circuit, row, xor}
use Rattle.gate_core.proofs.Relating.{truth, Costs}
use Rattle.gate_core.specs.Circuit.Circuit.{give, join, meet}
use Rattle.gate_core.proofs.Playing.{truth-row, Costs-row}
use Rattle.word_circuits.specs.Integers.{bit, value}
use Rattle.word_circuits.specs.Choices.{meet_circuit, either_bit, either_circuit, differ_circuit, choose_bit, choose}
use Rattle.word_circuits.proofs.Values.{value-push, value-more, value-below}

-- what is known of the first n places of an operation on bits
pub record Bitwise (op : ℕ → ℕ → ℕ) (x y : List Bool) (n : ℕ) (ws : List Bool) : Type 0 where
  pub len : length ws ≡ n
  pub is : value ws ≡ op (value (take n x)) (value (take n y))

-- an operation on numbers that works on each bit by itself
pub record Blocks (op : ℕ → ℕ → ℕ) (f : Bool → Bool → Bool) : Type 0 where
  pub none : op 0 0 ≡ 0
  pub block : (k a b r s : ℕ) → r < 2 ^ k → s < 2 ^ k → op (a * 2 ^ k + r) (b * 2 ^ k + s) ≡ op a b * 2 ^ k + op r s
  pub bits : (u v : Bool) → op (bit u) (bit v) ≡ bit (f u v)

pub truth-bitwise : (op : ℕ → ℕ → ℕ) (f : Bool → Bool → Bool) → Blocks op f → (x y : List Bool) (d : Bool) (g : ℕ → Circuit Bool Bool)
    → ((i : ℕ) → truth (g i) ≡ f (get_or x i d) (get_or y i d)) → (n : ℕ) → n ≤ length x → n ≤ length y → Bitwise op x y n (truth (row n g))
truth-bitwise op f law x y d g each n hx hy = truth-row (Bitwise op x y) g n (record { len = refl; is = sym law.none })
    (λ i ws lt h.
    let u = get_or x i d in
    let v = get_or y i d in
    let lx : i < length x = omega (arith, lt, hx) in
    let ly : i < length y = omega (arith, lt, hy) in
    let e : suc i ≡ i + 1 = omega arith in
    let vx : value (take i x) < 2 ^ i = value-below (take i x) i (length-take-le i x (omega (arith, lx))) in
    let vy : value (take i y) < 2 ^ i = value-below (take i y) i (length-take-le i y (omega (arith, ly))) in
    let mx : value (take (i + 1) x) ≡ bit u * 2 ^ i + value (take i x) = (let m = value-more x i d lx in omega (arith, m)) in
    let my : value (take (i + 1) y) ≡ bit v * 2 ^ i + value (take i y) = (let m = value-more y i d ly in omega (arith, m)) in
    let p : value (ws ++ truth (g i) ∷ []) ≡ value ws + 2 ^ i * bit (truth (g i)) = value-push ws (truth (g i)) ∙ ap (λ k. value ws + 2 ^ k * bit (truth (g i))) h.len in
    let b : bit (truth (g i)) ≡ op (bit u) (bit v) = ap bit (each i) ∙ sym (law.bits u v) in
    record {
      len = omega (arith, length_push ws (truth (g i)), h.len);
      is = rw (e, mx, my, law.block i (bit u) (bit v) (value (take i x)) (value (take i y)) vx vy) (omega (arith, p, h.is, ap (λ k. 2 ^ i * k) b));
    })

pub truth-bitwise_all : (op : ℕ → ℕ → ℕ) (f : Bool → Bool → Bool) → Blocks op f → (x y : List Bool) (d : Bool) (g : ℕ → Circuit Bool Bool)
    → ((i : ℕ) → truth (g i) ≡ f (get_or x i d) (get_or y i d)) → (w : ℕ) → length x ≡ w → length y ≡ w
    → (length (truth (row w g)) ≡ w) × (value (truth (row w g)) ≡ op (value x) (value y))
truth-bitwise_all op f law x y d g each w lx ly =
    let h = truth-bitwise op f law x y d g each w (omega (arith, lx)) (omega (arith, ly)) in
    let ex : take w x ≡ x = take_all w x (omega (arith, lx)) in
    let ey : take w y ≡ y = take_all w y (omega (arith, ly)) in
    (h.len, rw (ex, ey) at h.is)

pub Blocks-and : Blocks bit_and (λ u v. u && v)
Blocks-and = record { none = refl; block = and_block; bits = table }
  where
    table : (u v : Bool) → bit_and (bit u) (bit v) ≡ bit (u && v)
    table true true = refl
    table true false = refl
    table false true = refl
    table false false = refl

pub Blocks-or : Blocks bit_or (λ u v. not (not u && not v))
Blocks-or = record { none = refl; block = or_block; bits = table }
  where
    table : (u v : Bool) → bit_or (bit u) (bit v) ≡ bit (not (not u && not v))
    table true true = refl
    table true false = refl
    table false true = refl
    table false false = refl

pub Blocks-xor : Blocks bit_xor (λ u v. xor u v)
Blocks-xor = record { none = refl; block = xor_block; bits = table }
  where
    table : (u v : Bool) → bit_xor (bit u) (bit v) ≡ bit (xor u v)
    table true true = refl
    table true false = refl
    table false true = refl
    table false false = refl

-- one of two bits: the one that is kept, turned where they differ
choice-bit : (e x y : Bool) → xor y (e && xor x y) ≡ cond e x y
choice-bit true true true = refl
choice-bit true true false = refl
choice-bit true false true = refl
choice-bit true false false = refl
choice-bit false true true = refl
choice-bit false true false = refl
choice-bit false false true = refl
choice-bit false false false = refl

turn-bit : (e x y : Bool) → xor x (e && xor x y) ≡ cond e y x
turn-bit true true true = refl
turn-bit true true false = refl
turn-bit true false true = refl
turn-bit true false false = refl
turn-bit false true true = refl
turn-bit false true false = refl
turn-bit false false true = refl
turn-bit false false false = refl

cond-at : (e : Bool) (x y : List Bool) (i : ℕ) (d : Bool) → cond e (get_or x i d) (get_or y i d) ≡ get_or (cond e x y) i d
cond-at true x y i d = refl
cond-at false x y i d = refl

cond-length : (e : Bool) (x y : List Bool) (n : ℕ) → n ≤ length x → n ≤ length y → n ≤ length (cond e x y)
cond-length true x y n h k = h
cond-length false x y n h k = k

-- a row that gives the places of a list gives its front
pub truth-front : (z : List Bool) (d : Bool) (g : ℕ → Circuit Bool Bool) (n : ℕ) → ((i : ℕ) → truth (g i) ≡ get_or z i d) → n ≤ length z → truth (row n g) ≡ take n z
truth-front z d g n each h = truth-row (λ i ws. ws ≡ take i z) g n refl
    (λ i ws lt p. let e : suc i ≡ i + 1 = omega arith in rw (e, take_more z i d (omega (arith, lt, h)), ← p, ← each i) refl)

pub truth-choose_second : (e : Bool) (x y : List Bool) (d : Bool) (n : ℕ) → n ≤ length x → n ≤ length y → truth (choose e x y y d n) ≡ take n (cond e x y)
truth-choose_second e x y d n h k =
    truth-front (cond e x y) d (λ i. choose_bit e (get_or x i d) (get_or y i d) (get_or y i d)) n
    (λ i. choice-bit e (get_or x i d) (get_or y i d) ∙ cond-at e x y i d) (cond-length e x y n h k)

pub truth-choose_first : (e : Bool) (x y : List Bool) (d : Bool) (n : ℕ) → n ≤ length x → n ≤ length y → truth (choose e x y x d n) ≡ take n (cond e y x)
truth-choose_first e x y d n h k =
    truth-front (cond e y x) d (λ i. choose_bit e (get_or x i d) (get_or y i d) (get_or x i d)) n
    (λ i. turn-bit e (get_or x i d) (get_or y i d) ∙ cond-at e y x i d) (cond-length e y x n k h)

-- rows of one AND a place, and of none
pub Costs-ands : {W : Type 0} (f : ℕ → Circuit W W) (n : ℕ) → ((i : ℕ) → Costs (λ (w : W). Unit {0}) 1 (f i)) → Costs (λ (ws : List W). length ws ≡ n) n (row n f)
Costs-ands {W} f n each =
    subst (λ k. Costs (λ (ws : List W). length ws ≡ n) k (row n f)) (let e : n * 1 ≡ n = omega arith in e) (Costs-row f n 1 (λ i lt. each i))

pub Costs-free : {W : Type 0} (f : ℕ → Circuit W W) (n : ℕ) → ((i : ℕ) → Costs (λ (w : W). Unit {0}) 0 (f i)) → Costs (λ (ws : List W). length ws ≡ n) 0 (row n f)
Costs-free {W} f n each =
    subst (λ k. Costs (λ (ws : List W). length ws ≡ n) k (row n f)) (let e : n * 0 ≡ 0 = omega arith in e) (Costs-row f n 0 (λ i lt. each i))

pub Costs-choose : {W : Type 0} (e : W) (x y z : List W) (d : W) (n : ℕ) → Costs (λ (ws : List W). length ws ≡ n) n (choose e x y z d n)
Costs-choose e x y z d n = Costs-ands (λ i. choose_bit e (get_or x i d) (get_or y i d) (get_or z i d)) n (λ i p. (0, refl, λ q w. (refl, tt)))

pub Costs-meet : {W : Type 0} (x y : List W) (d : W) (n : ℕ) → Costs (λ (ws : List W). length ws ≡ n) n (meet_circuit n x y d)
Costs-meet x y d n = Costs-ands (λ i. meet (get_or x i d) (get_or y i d) (λ r. give r)) n (λ i. (0, refl, λ w. (refl, tt)))

pub Costs-either : {W : Type 0} (x y : List W) (d : W) (n : ℕ) → Costs (λ (ws : List W). length ws ≡ n) n (either_circuit n x y d)
Costs-either x y d n = Costs-ands (λ i. either_bit (get_or x i d) (get_or y i d)) n (λ i p q. (0, refl, λ w v. (refl, tt)))

pub Costs-differ : {W : Type 0} (x y : List W) (d : W) (n : ℕ) → Costs (λ (ws : List W). length ws ≡ n) 0 (differ_circuit n x y d)
Costs-differ x y d n = Costs-free (λ i. join (get_or x i d) (get_or y i d) (λ r. give r)) n (λ i w. (refl, tt))
