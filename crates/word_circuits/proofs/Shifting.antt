-- Shifts and words of another width.
use Rattle.std.proofs.Common.{◌≡◌, ℕ, zero, suc, ◌+◌, ◌*◌, ◌-◌, ◌/◌, ◌%◌, ◌^◌, ◌<◌, ◌≤◌, ◌==◌, ◌||◌, IsTrue, Bool, true, false, cond, ℤ, pos, negsuc, ◌-ℤ◌, ◌+ℤ◌, ◌*ℤ◌, List, ◌++◌, length, get_or, take, drop, replicate, refl, ap, ◌∙◌, sym, arith, subst, ◌⊎◌, inl, inr}
use Rattle.std.specs.Int.{int_div_euclid}
use Rattle.std.proofs.Math.Nat.{pow-suc, pow-le-pow_right, div-le_self}
use Rattle.std.proofs.lemmas.Int.{ints}
use Rattle.std.proofs.lemmas.Bool.{lt-ltb, le-ltb, eqb-true}
use Rattle.std.proofs.lemmas.List.{take-append-drop, take_all, length-take-le, length-drop, length-replicate, append-nil}
use Rattle.std.proofs.lemmas.Nat.{pow_pos, pow-add, div-mul-add, mod-mul-add, mul-mod_first, mul-mod_second, shr-shr, shl_below, mod-pow-add, mod_low, mod_below}
use Rattle.gate_core.specs.Circuit.{Calls, Plays, times}
use Rattle.gate_core.proofs.Relating.{truth}
use Rattle.gate_core.proofs.Playing.{truth-times}
use Rattle.word_circuits.specs.Widths.{is_width, log2}
use Rattle.oc_values.specs.Integers.{residue, value_of_bits, wrap_bits, shift_amount}
use Rattle.word_circuits.specs.Integers.{number, bit, value, shift}
use Rattle.word_circuits.specs.Choices.{moved_in, moved, choose, shift_known_circuit, shift_step, shift_word_circuit, resize_circuit}
use Rattle.word_circuits.proofs.Values.{value-append, value-more, value-below, value-zeros, mod_small}
use Rattle.word_circuits.proofs.Whole.{residue_is, lifts, residue-mul}
use Rattle.word_circuits.proofs.Comparing.{Topped, topped}
use Rattle.word_circuits.proofs.Choosing.{truth-choose_first}
use Rattle.word_circuits.proofs.ChoosingPairs.{length-moved, length-resized}
use Rattle.word_circuits.proofs.Totals.{number_wraps, residue-number, signed_from_top}

-- the five widths one by one
pub by_width : (P : ℕ → Type 0) → P 1 → P 8 → P 16 → P 32 → P 64 → (n : ℕ) → IsTrue (is_width n) → P n
by_width P p1 p8 p16 p32 p64 n h = go (n == 1) (n == 8) (n == 16) (n == 32) (n == 64) refl refl refl refl refl h
  where
    go : (a b c d e : Bool) → (n == 1) ≡ a → (n == 8) ≡ b → (n == 16) ≡ c → (n == 32) ≡ d → (n == 64) ≡ e → IsTrue (a || b || c || d || e) → P n
    go true b c d e ea eb ec ed ee t = subst P (sym (eqb-true n 1 ea)) p1
    go false true c d e ea eb ec ed ee t = subst P (sym (eqb-true n 8 eb)) p8
    go false false true d e ea eb ec ed ee t = subst P (sym (eqb-true n 16 ec)) p16
    go false false false true e ea eb ec ed ee t = subst P (sym (eqb-true n 32 ed)) p32
    go false false false false true ea eb ec ed ee t = subst P (sym (eqb-true n 64 ee)) p64
    go false false false false false ea eb ec ed ee t = absurd (cc)

pub log2-is : (w : ℕ) → IsTrue (is_width w) → 2 ^ log2 w ≡ w
log2-is w h = by_width (λ n. 2 ^ log2 n ≡ n) refl refl refl refl refl w h

pub log2-small : (w : ℕ) → IsTrue (is_width w) → log2 w ≤ 6
log2-small w h = by_width (λ n. log2 n ≤ 6) (omega arith) (omega arith) (omega arith) (omega arith) (omega arith) w h

below_pow : (k : ℕ) → k < 2 ^ k
below_pow zero = omega arith
below_pow (suc k) = let p : 2 ^ suc k ≡ 2 ^ k * 2 = pow-suc 2 k in omega (arith, below_pow k, p)

-- a place of a shift's amount is a place of the word, and moves it by no more than its width
pub place_within : (w k : ℕ) → IsTrue (is_width w) → k < log2 w → (2 ^ k ≤ w) × (k < w)
place_within w k h lt =
    let e = log2-is w h in
    let p : 2 ^ k ≤ 2 ^ log2 w = pow-le-pow_right {n = 2} (omega arith) (omega (arith, lt)) in
    (omega (arith, e, p), omega (arith, e, p, below_pow k))

-- what a word spells, cut in two
pub value-split : (x : List Bool) (n : ℕ) → n ≤ length x → value x ≡ value (take n x) + 2 ^ n * value (drop n x)
value-split x n h =
    let l : length (take n x) ≡ n = length-take-le n x h in
    ap value (sym (take-append-drop n x)) ∙ value-append (take n x) (drop n x) ∙ ap (λ k. value (take n x) + 2 ^ k * value (drop n x)) l

pub value-take : (x : List Bool) (n : ℕ) → n ≤ length x → value (take n x) ≡ value x % 2 ^ n
value-take x n h =
    let s = value-split x n h in
    let lt : value (take n x) < 2 ^ n = value-below (take n x) n (length-take-le n x h) in
    let e : value (drop n x) * 2 ^ n + value (take n x) ≡ value x = omega (arith, s) in
    sym (mod-mul-add (value (drop n x)) (2 ^ n) (value (take n x)) lt) ∙ ap (λ k. k % 2 ^ n) e

pub value-drop : (x : List Bool) (n : ℕ) → n ≤ length x → value (drop n x) ≡ value x / 2 ^ n
value-drop x n h =
    let s = value-split x n h in
    let lt : value (take n x) < 2 ^ n = value-below (take n x) n (length-take-le n x h) in
    let e : value (drop n x) * 2 ^ n + value (take n x) ≡ value x = omega (arith, s) in
    sym (div-mul-add (value (drop n x)) (2 ^ n) (value (take n x)) lt) ∙ ap (λ k. k / 2 ^ n) e

value-ones : (n : ℕ) → value (replicate n true) + 1 ≡ 2 ^ n
value-ones zero = refl
value-ones (suc n) = let p : 2 ^ suc n ≡ 2 ^ n * 2 = pow-suc 2 n in omega (arith, value-ones n, p)

value-moved_left : (x : List Bool) (w c : ℕ) → length x ≡ w → c ≤ w → value (moved true w c false x) ≡ (value x * 2 ^ c) % 2 ^ w
value-moved_left x w c lx h =
    let n = w - c in
    let hn : n ≤ length x = omega (arith, lx) in
    let t = value (take n x) in
    let d = value (drop n x) in
    let lt : t < 2 ^ n = value-below (take n x) n (length-take-le n x hn) in
    let r : value (moved true w c false x) ≡ t * 2 ^ c =
    value-append (replicate c false) (take n x) ∙ ap (λ k. value (replicate c false) + 2 ^ k * t) (length-replicate c false) ∙ (let z = value-zeros c in omega (arith, z)) in
    let e : n + c ≡ w = omega (arith, h) in
    let pw : 2 ^ w ≡ 2 ^ n * 2 ^ c = ap (λ k. 2 ^ k) (sym e) ∙ pow-add 2 n c in
    let small : t * 2 ^ c < 2 ^ w = subst (λ k. t * 2 ^ c < 2 ^ k) e (shl_below t n c lt) in
    let whole : d * 2 ^ w + t * 2 ^ c ≡ value x * 2 ^ c = scaled (value x) t d (2 ^ n) (2 ^ c) (2 ^ w) (value-split x n hn) pw in
    r ∙ sym (mod-mul-add d (2 ^ w) (t * 2 ^ c) small) ∙ ap (λ k. k % 2 ^ w) whole
  where
    scaled : (v t d N C P : ℕ) → v ≡ t + N * d → P ≡ N * C → d * P + t * C ≡ v * C
    scaled v t d N C P e f = omega (arith, ap (λ k. k * C) e, ap (λ k. d * k) f)

-- to the right, with what is moved in
value-moved_right : (x : List Bool) (w c : ℕ) (f : Bool) → length x ≡ w → c ≤ w → value (moved false w c f x) ≡ value x / 2 ^ c + 2 ^ (w - c) * value (replicate c f)
value-moved_right x w c f lx h =
    let l : length (drop c x) ≡ w - c = omega (arith, length-drop c x, lx) in
    value-append (drop c x) (replicate c f) ∙ ap (λ k. value (drop c x) + 2 ^ k * value (replicate c f)) l
    ∙ ap (λ k. k + 2 ^ (w - c) * value (replicate c f)) (value-drop x c (omega (arith, lx, h)))

number-unsigned : (x : List Bool) (w c : ℕ) → length x ≡ w → c ≤ w → value (moved false w c false x) ≡ value x / 2 ^ c
number-unsigned x w c lx h =
    value-moved_right x w c false lx h ∙ ap (λ k. value x / 2 ^ c + 2 ^ (w - c) * k) (value-zeros c) ∙ (let e : value x / 2 ^ c + 2 ^ (w - c) * 0 ≡ value x / 2 ^ c = omega arith in e)

-- a place counted from the end
place_from_end : (a b k r : ℕ) → r < k → (a + 1 + b) * k - 1 - (a * k + r) ≡ b * k + (k - 1 - r)
place_from_end a b k r h = omega arith

below_zero : (n P : ℕ) → n < P → pos n -ℤ pos P ≡ negsuc (P - 1 - n)
below_zero n P h = omega (arith, ints)

-- the parts of a word below 0 and of what it becomes
record Low (V P Q B D L : ℕ) : Type 0 where
  is : V ≡ D * B + L
  part : L < B
  high : D < Q
  all : P ≡ Q * B

low_div : (V P Q B D L : ℕ) → Low V P Q B D L → (P - 1 - V) / B ≡ Q - 1 - D
low_div V P Q B D L h =
    let rows : Q ≡ D + 1 + (Q - 1 - D) = (let q = h.high in omega arith) in
    let split : P - 1 - V ≡ (Q - 1 - D) * B + (B - 1 - L) =
    ap (λ m. P - 1 - m) h.is ∙ ap (λ m. m - 1 - (D * B + L)) (h.all ∙ ap (λ m. m * B) rows) ∙ place_from_end D (Q - 1 - D) B L h.part in
    let r : B - 1 - L < B = (let q = h.part in omega arith) in
    ap (λ n. n / B) split ∙ div-mul-add (Q - 1 - D) B (B - 1 - L) r

pub number-moved_right : (signed : Bool) (x : List Bool) (w c : ℕ) → 0 < w → length x ≡ w → c ≤ w
    → number signed (moved false w c (moved_in false signed w x false) x) ≡ int_div_euclid (number signed x) (pos (2 ^ c))
number-moved_right false x w c some lx h = ap pos (number-unsigned x w c lx h)
number-moved_right true x w c some lx h =
    let t = get_or x (w - 1) false in
    let top = topped x false w some lx in
    let nx : number true x ≡ cond t (pos (value x) -ℤ pos (2 ^ w)) (pos (value x)) =
    ap (λ n. value_of_bits true n (value x)) lx ∙ signed_from_top (value x) (2 ^ (w - 1)) (2 ^ w) (value (take (w - 1) x)) t top.whole top.below in
    ap (λ n. value_of_bits true n (value (moved false w c t x))) (length-moved false w c t x lx h)
    ∙ go t (value (take (w - 1) x)) top ∙ ap (λ z. int_div_euclid z (pos (2 ^ c))) (sym nx)
  where
    high_enough : (w c V D r : ℕ) → 0 < w → c ≤ w → D ≡ V / 2 ^ c → 2 ^ (w - 1) ≤ V → 2 ^ w ≡ 2 ^ (w - 1) * 2 → r + 2 ^ (w - c) ≡ D + 2 ^ w → 2 ^ (w - 1) ≤ r
    high_enough w zero V D r some h ed hv hp e =
        let one : V / 2 ^ 0 ≡ V = (let q = div-mul-add V 1 0 (omega arith) in let m : V * 1 + 0 ≡ V = omega arith in ap (λ n. n / 1) (sym m) ∙ q) in
        let w0 : w - 0 ≡ w = omega arith in
        let e2 : r + 2 ^ w ≡ D + 2 ^ w = subst (λ n. r + 2 ^ n ≡ D + 2 ^ w) w0 e in
        omega (arith, e2, ed, one, hv)
    high_enough w (suc c) V D r some h ed hv hp e =
        let p : 2 ^ (w - suc c) ≤ 2 ^ (w - 1) = pow-le-pow_right {n = 2} (omega arith) (omega arith) in
        omega (arith, p, e, hp)

    go : (t : Bool) (low : ℕ) → Topped x w t low → value_of_bits true w (value (moved false w c t x)) ≡ int_div_euclid (cond t (pos (value x) -ℤ pos (2 ^ w)) (pos (value x))) (pos (2 ^ c))
    go false low top =
        let r = number-unsigned x w c lx h in
        let le : value x / 2 ^ c ≤ value x = div-le_self (value x) (2 ^ c) in
        let lt : value (moved false w c false x) < 2 ^ (w - 1) = (let a = top.whole in let b = top.below in omega (arith, r, le, a, b)) in
        rw (lt-ltb (value (moved false w c false x)) (2 ^ (w - 1)) lt) (ap pos r)
    go true low top =
        let V = value x in
        let D = value (drop c x) in
        let L = value (take c x) in
        let Q = 2 ^ (w - c) in
        let r = value (moved false w c true x) in
        let hx : c ≤ length x = omega (arith, lx, h) in
        let ed : D ≡ V / 2 ^ c = value-drop x c hx in
        let e1 : w - c + c ≡ w = omega (arith, h) in
        let pw : 2 ^ w ≡ Q * 2 ^ c = ap (λ k. 2 ^ k) (sym e1) ∙ pow-add 2 (w - c) c in
        let lowparts : Low V (2 ^ w) Q (2 ^ c) D L = record {
          is = (let s = value-split x c hx in omega (arith, s));
          part = value-below (take c x) c (length-take-le c x hx);
          high = value-below (drop c x) (w - c) (omega (arith, length-drop c x, lx));
          all = pw;
        } in
        let ones = value-ones c in
        let er : r + Q ≡ D + 2 ^ w = filled r D Q (2 ^ c) (value (replicate c true)) (2 ^ w) (value-moved_right x w c true lx h ∙ ap (λ k. k + Q * value (replicate c true)) (sym ed)) ones pw in
        let hv : 2 ^ (w - 1) ≤ V = (let a = top.whole in omega (arith, a)) in
        let hr : 2 ^ (w - 1) ≤ r = high_enough w c V D r some h ed hv top.double er in
        let hd : D < Q = lowparts.high in
        let rb : r < 2 ^ w = omega (arith, er, hd) in
        let vb : V < 2 ^ w = value-below x w lx in
        let same : 2 ^ w - 1 - r ≡ Q - 1 - D = omega (arith, er, hd) in
        rw (le-ltb r (2 ^ (w - 1)) hr)
        (below_zero r (2 ^ w) rb ∙ ap (λ (n : ℕ). negsuc n) (same ∙ sym (low_div V (2 ^ w) Q (2 ^ c) D L lowparts)) ∙ ap (λ z. int_div_euclid z (pos (2 ^ c))) (sym (below_zero V (2 ^ w) vb)))
      where
        filled : (r D Q B o P : ℕ) → r ≡ D + Q * o → o + 1 ≡ B → P ≡ Q * B → r + Q ≡ D + P
        filled r D Q B o P e f g = omega (arith, e, g, ap (λ k. Q * k) f)

-- one shift after another
euclid-euclid : (z : ℤ) (j k : ℕ) → int_div_euclid (int_div_euclid z (pos (2 ^ j))) (pos (2 ^ k)) ≡ int_div_euclid z (pos (2 ^ (j + k)))
euclid-euclid (pos n) j k = ap pos (shr-shr n j k)
euclid-euclid (negsuc n) j k = ap (λ (m : ℕ). negsuc m) (shr-shr n j k)

-- x shifted by k places
pub record Shifted (left signed : Bool) (w : ℕ) (x : List Bool) (k : ℕ) (r : List Bool) : Type 0 where
  pub len : length r ≡ w
  pub to_left : left ≡ true → value r ≡ (value x * 2 ^ k) % 2 ^ w
  pub to_right : left ≡ false → number signed r ≡ int_div_euclid (number signed x) (pos (2 ^ k))

no_shift : (z : ℤ) → int_div_euclid z (pos (2 ^ 0)) ≡ z
no_shift (pos n) = ap pos (let q = div-mul-add n 1 0 (omega arith) in let m : n * 1 + 0 ≡ n = omega arith in ap (λ n. n / 1) (sym m) ∙ q)
no_shift (negsuc n) = ap (λ (m : ℕ). negsuc m) (let q = div-mul-add n 1 0 (omega arith) in let m : n * 1 + 0 ≡ n = omega arith in ap (λ n. n / 1) (sym m) ∙ q)

pub Shifted-start : (left signed : Bool) (w : ℕ) (x : List Bool) → length x ≡ w → Shifted left signed w x 0 x
Shifted-start left signed w x lx = record {
  len = lx;
  to_left = λ e. (let m : value x * 2 ^ 0 ≡ value x = omega arith in sym (ap (λ n. n % 2 ^ w) m ∙ mod_small (value x) (2 ^ w) (value-below x w lx)));
  to_right = λ e. sym (no_shift (number signed x));
}

pub Shifted-more : (left signed : Bool) (w : ℕ) (x : List Bool) (j c : ℕ) (r : List Bool) → 0 < w → c ≤ w → Shifted left signed w x j r
    → Shifted left signed w x (j + c) (moved left w c (moved_in left signed w r false) r)
Shifted-more true signed w x j c r some h s = record {
  len = length-moved true w c false r s.len h;
  to_left = λ e.
      value-moved_left r w c s.len h ∙ ap (λ n. (n * 2 ^ c) % 2 ^ w) (s.to_left refl) ∙ mul-mod_first (value x * 2 ^ j) (2 ^ c) (2 ^ w)
      ∙ ap (λ n. n % 2 ^ w) ((let m : value x * 2 ^ j * 2 ^ c ≡ value x * (2 ^ j * 2 ^ c) = omega arith in m) ∙ ap (λ n. value x * n) (sym (pow-add 2 j c)));
  to_right = λ e. absurd (cc);
}
Shifted-more false signed w x j c r some h s = record {
  len = length-moved false w c (moved_in false signed w r false) r s.len h;
  to_left = λ e. absurd (cc);
  to_right = λ e. number-moved_right signed r w c some s.len h ∙ ap (λ z. int_div_euclid z (pos (2 ^ c))) (s.to_right refl) ∙ euclid-euclid (number signed x) j c;
}

-- bits of w places stand for their own integer, wrapped
pub wrap-number : (signed : Bool) (w : ℕ) (r : List Bool) → length r ≡ w → wrap_bits signed w (number signed r) ≡ number signed r
wrap-number signed w r l = sym (number_wraps signed w r (number signed r) l (sym (residue-number signed w r l)))

pub Shifted-integer : (left signed : Bool) (w : ℕ) (x : List Bool) (k : ℕ) (r : List Bool) → length x ≡ w → Shifted left signed w x k r
    → number signed r ≡ wrap_bits signed w (shift left (number signed x) k)
Shifted-integer true signed w x k r lx s =
    number_wraps signed w r (number signed x *ℤ pos (2 ^ k)) s.len
    (s.to_left refl ∙ sym (mul-mod_second (value x) (2 ^ k) (2 ^ w)) ∙ ap (λ n. (n * (2 ^ k % 2 ^ w)) % 2 ^ w) (sym (residue-number signed w x lx)) ∙ sym (residue-mul w (number signed x) (pos (2 ^ k))))
Shifted-integer false signed w x k r lx s = sym (wrap-number signed w r s.len) ∙ ap (wrap_bits signed w) (s.to_right refl)

-- a shift where the bit is true
Shifted-choice : (e left signed : Bool) (w : ℕ) (x : List Bool) (j k : ℕ) (r m : List Bool) → Shifted left signed w x j r → Shifted left signed w x (j + 2 ^ k) m
    → Shifted left signed w x (j + 2 ^ k * bit e) (cond e m r)
Shifted-choice true left signed w x j k r m h s = let e : j + 2 ^ k ≡ j + 2 ^ k * 1 = omega arith in subst (λ n. Shifted left signed w x n m) e s
Shifted-choice false left signed w x j k r m h s = let e : j ≡ j + 2 ^ k * 0 = omega arith in subst (λ n. Shifted left signed w x n r) e h

cond-whole : (e : Bool) (w : ℕ) (m r : List Bool) → length m ≡ w → length r ≡ w → take w (cond e m r) ≡ cond e m r
cond-whole true w m r lm lr = take_all w m (omega (arith, lm))
cond-whole false w m r lm lr = take_all w r (omega (arith, lr))

pub truth-shift : (left signed : Bool) (w : ℕ) (x m : List Bool) → IsTrue (is_width w) → 0 < w → length x ≡ w → length m ≡ w
    → Shifted left signed w x (value (take (log2 w) m)) (truth (shift_word_circuit left signed w x m))
truth-shift left signed w x m wide some lx lm =
    truth-times (λ k r. Shifted left signed w x (value (take k m)) r) (shift_step left signed w m false) x (log2 w) (Shifted-start left signed w x lx)
    (λ k r lt s.
    let within = place_within w k wide lt in
    let e = get_or m k false in
    let other = moved left w (2 ^ k) (moved_in left signed w r false) r in
    let more = Shifted-more left signed w x (value (take k m)) (2 ^ k) r some within.0 s in
    let t : truth (choose e r other r false w) ≡ cond e other r = truth-choose_first e r other false w (omega (arith, s.len)) (omega (arith, more.len)) ∙ cond-whole e w other r more.len s.len in
    let n : value (take k m) + 2 ^ k * bit e ≡ value (take (suc k) m) = sym (value-more m k false (omega (arith, lm, within.1))) ∙ (let q : k + 1 ≡ suc k = omega arith in ap (λ j. value (take j m)) q) in
    subst (λ j. Shifted left signed w x j (truth (choose e r other r false w))) n
    (subst (Shifted left signed w x (value (take k m) + 2 ^ k * bit e)) (sym t) (Shifted-choice e left signed w x (value (take k m)) k r other s more)))

-- the residue at fewer places
mod-mod : (j k n : ℕ) → n % 2 ^ (j + k) % 2 ^ k ≡ n % 2 ^ k
mod-mod j k n = rw (mod-pow-add n j k) (mod_low _ k _ (mod_below n (2 ^ k) (pow_pos k)))

pub residue-residue : (j k : ℕ) (z : ℤ) → residue (j + k) z % 2 ^ k ≡ residue k z
residue-residue j k z =
    let a = lifts (j + k) z in
    let e : z +ℤ pos (a.times * 2 ^ j * 2 ^ k) ≡ pos a.number =
    (let p : a.times * 2 ^ (j + k) ≡ a.times * 2 ^ j * 2 ^ k = ap (λ n. a.times * n) (pow-add 2 j k) ∙ (let q : a.times * (2 ^ j * 2 ^ k) ≡ a.times * 2 ^ j * 2 ^ k = omega arith in q) in subst (λ n. z +ℤ pos n ≡ pos a.number) p a.is) in
    ap (λ n. n % 2 ^ k) a.left ∙ mod-mod j k a.number ∙ sym (residue_is k z (a.times * 2 ^ j) a.number e)

pub residue-low : (w v : ℕ) (z : ℤ) → v ≤ w → residue w z % 2 ^ v ≡ residue v z
residue-low w v z h = let e : w - v + v ≡ w = omega (arith, h) in subst (λ n. residue n z % 2 ^ v ≡ residue v z) e (residue-residue (w - v) v z)

amount_residue : (l w : ℕ) (z : ℤ) → 2 ^ l ≡ w → shift_amount w z ≡ residue l z
amount_residue l w (pos n) e = ap (λ k. n % k) (sym e)
amount_residue l w (negsuc n) e = ap (λ k. k - 1 - n % k) (sym e)

amount_value : (kind : Bool) (w : ℕ) (m : List Bool) → IsTrue (is_width w) → length m ≡ w → value (take (log2 w) m) ≡ shift_amount w (number kind m)
amount_value kind w m wide lm =
    let l = log2 w in
    let e = log2-is w wide in
    let b = below_pow l in
    let le : l ≤ w = omega (arith, e, b) in
    value-take m l (omega (arith, le, lm)) ∙ ap (λ n. n % 2 ^ l) (sym (residue-number kind w m lm)) ∙ residue-low w l (number kind m) le ∙ sym (amount_residue l w (number kind m) e)

pub integer-shift_word : (left signed kind : Bool) (w : ℕ) → IsTrue (is_width w) → 0 < w → (p q : List Bool) → length p ≡ w → length q ≡ w
    → number signed (truth (shift_word_circuit left signed w p q)) ≡ wrap_bits signed w (shift left (number signed p) (shift_amount w (number kind q)))
integer-shift_word left signed kind w wide some p q lp lq =
    Shifted-integer left signed w p (value (take (log2 w) q)) _ lp (truth-shift left signed w p q wide some lp lq)
    ∙ ap (λ k. wrap_bits signed w (shift left (number signed p) k)) (amount_value kind w q wide lq)

pub integer-shift_known : (left signed : Bool) (w amount : ℕ) → 0 < w → (p : List Bool) → length p ≡ w
    → number signed (truth (shift_known_circuit left signed w amount p)) ≡ wrap_bits signed w (shift left (number signed p) (amount % w))
integer-shift_known left signed w amount some p lp =
    let c = amount % w in
    let h : c < w = mod_below amount w some in
    let e : 0 + c ≡ c = omega arith in
    let r = moved left w c (moved_in left signed w p false) p in
    Shifted-integer left signed w p c r lp (subst (λ n. Shifted left signed w p n r) e (Shifted-more left signed w p 0 c p some (omega (arith, h)) (Shifted-start left signed w p lp)))

-- a word of another width
value-resized : (signed : Bool) (v w : ℕ) (x : List Bool) → 0 < w → length x ≡ w → value (take v x ++ replicate (v - w) (moved_in false signed w x false)) ≡ residue v (number signed x)
value-resized signed v w x some lx = go (leb_or v w)
  where
    leb_or : (v w : ℕ) → (v ≤ w) ⊎ (w ≤ v)
    leb_or zero w = inl (omega arith)
    leb_or (suc v) zero = inr (omega arith)
    leb_or (suc v) (suc w) = elim (leb_or v w) [ inl h ↦ inl (omega (arith, h)) | inr h ↦ inr (omega (arith, h)) ]

    grown : (f : Bool) → w ≤ v → value (take v x ++ replicate (v - w) f) ≡ value x + 2 ^ w * value (replicate (v - w) f)
    grown f h =
        ap (λ l. value (l ++ replicate (v - w) f)) (take_all v x (omega (arith, lx, h))) ∙ value-append x (replicate (v - w) f) ∙ ap (λ k. value x + 2 ^ k * value (replicate (v - w) f)) lx

    up : w ≤ v → 2 ^ v ≡ 2 ^ w * 2 ^ (v - w)
    up h = (let e : v ≡ w + (v - w) = omega (arith, h) in ap (λ k. 2 ^ k) e) ∙ pow-add 2 w (v - w)

    fits : w ≤ v → value x < 2 ^ v
    fits h = let a = value-below x w lx in let p : 2 ^ w ≤ 2 ^ v = pow-le-pow_right {n = 2} (omega arith) h in omega (arith, a, p)

    plain : w ≤ v → value (take v x ++ replicate (v - w) false) ≡ value x % 2 ^ v
    plain h = grown false h ∙ (let z = value-zeros (v - w) in let e : value x + 2 ^ w * value (replicate (v - w) false) ≡ value x = ap (λ k. value x + 2 ^ w * k) z ∙ (let q : value x + 2 ^ w * 0 ≡ value x = omega arith in q) in e) ∙ sym (mod_small (value x) (2 ^ v) (fits h))

    lifted : (n P Q r : ℕ) → n < P → P ≤ Q → r + P ≡ n + Q → (pos n -ℤ pos P) +ℤ pos (1 * Q) ≡ pos r
    lifted n P Q r h k e = omega (arith, ints, e)

    below : (t : Bool) (low : ℕ) → Topped x w t low → w ≤ v → value (take v x ++ replicate (v - w) t) ≡ residue v (cond t (pos (value x) -ℤ pos (2 ^ w)) (pos (value x)))
    below false low top h = plain h
    below true low top h =
        let r = value (take v x ++ replicate (v - w) true) in
        let ones = value-ones (v - w) in
        let a = value-below x w lx in
        let p : 2 ^ w ≤ 2 ^ v = pow-le-pow_right {n = 2} (omega arith) h in
        let e : r + 2 ^ w ≡ value x + 2 ^ v = filled r (value x) (2 ^ w) (2 ^ (v - w)) (value (replicate (v - w) true)) (2 ^ v) (grown true h) ones (up h) in
        let lt : r < 2 ^ v = omega (arith, e, a) in
        sym (residue_is v (pos (value x) -ℤ pos (2 ^ w)) 1 r (lifted (value x) (2 ^ w) (2 ^ v) r a p e) ∙ mod_small r (2 ^ v) lt)
      where
        filled : (r D Q B o P : ℕ) → r ≡ D + Q * o → o + 1 ≡ B → P ≡ Q * B → r + Q ≡ D + P
        filled r D Q B o P e f g = omega (arith, e, g, ap (λ k. Q * k) f)

    wider : (signed : Bool) → w ≤ v → value (take v x ++ replicate (v - w) (moved_in false signed w x false)) ≡ residue v (number signed x)
    wider false h = plain h
    wider true h =
        let t = get_or x (w - 1) false in
        let top = topped x false w some lx in
        below t (value (take (w - 1) x)) top h
        ∙ ap (residue v) (sym (ap (λ n. value_of_bits true n (value x)) lx ∙ signed_from_top (value x) (2 ^ (w - 1)) (2 ^ w) (value (take (w - 1) x)) t top.whole top.below))

    go : (v ≤ w) ⊎ (w ≤ v) → value (take v x ++ replicate (v - w) (moved_in false signed w x false)) ≡ residue v (number signed x)
    go (inl h) =
        let none : v - w ≡ 0 = omega (arith, h) in
        ap (λ k. value (take v x ++ replicate k (moved_in false signed w x false))) none ∙ ap value (append-nil (take v x)) ∙ value-take x v (omega (arith, lx, h))
        ∙ ap (λ n. n % 2 ^ v) (sym (residue-number signed w x lx)) ∙ residue-low w v (number signed x) h
    go (inr h) = wider signed h

pub integer-resize : (signed kind : Bool) (v w : ℕ) → 0 < w → (p : List Bool) → length p ≡ w
    → number kind (truth (resize_circuit signed v w p)) ≡ wrap_bits kind v (number signed p)
integer-resize signed kind v w some p lp =
    number_wraps kind v _ (number signed p) (length-resized v w (moved_in false signed w p false) p lp) (value-resized signed v w p some lp)

pub Plays-shift_known : {S W : Type 0} (m : Calls S W) (left signed : Bool) (w amount : ℕ) (u x : List W) (z f : W) (k : ℕ) (r0 r : List W) (s : S)
    → z ≡ m.known_wire s false → u ≡ x → length x ≡ w → f ≡ moved_in left signed (length u) u z → k ≡ amount % w → r0 ≡ moved left (length u) k f u → r ≡ r0
    → Plays m (shift_known_circuit left signed w amount x) s r s
Plays-shift_known m left signed w amount u x z f k r0 r s ez ex lx ef ek er e =
    let l : length u ≡ w = ap length ex ∙ lx in
    let a : r ≡ moved left w k f u = e ∙ er ∙ ap (λ n. moved left n k f u) l in
    let b : f ≡ moved_in left signed w x z = ef ∙ ap (λ n. moved_in left signed n u z) l ∙ ap (λ v. moved_in left signed w v z) ex in
    let c : r ≡ moved left w (amount % w) (moved_in left signed w x z) x = a ∙ ap (λ n. moved left w n f u) ek ∙ ap (λ g. moved left w (amount % w) g u) b ∙ ap (λ v. moved left w (amount % w) (moved_in left signed w x z) v) ex in
    (sym (c ∙ ap (λ y. moved left w (amount % w) (moved_in left signed w x y) x) ez), refl)

pub Plays-resize : {S W : Type 0} (m : Calls S W) (signed : Bool) (v w : ℕ) (u x : List W) (z f : W) (r0 r : List W) (s : S)
    → z ≡ m.known_wire s false → u ≡ x → length x ≡ w → f ≡ moved_in false signed (length u) u z → r0 ≡ take v u ++ replicate (v - length u) f → r ≡ r0
    → Plays m (resize_circuit signed v w x) s r s
Plays-resize m signed v w u x z f r0 r s ez ex lx ef er e =
    let l : length u ≡ w = ap length ex ∙ lx in
    let a : r ≡ take v u ++ replicate (v - w) f = e ∙ er ∙ ap (λ n. take v u ++ replicate (v - n) f) l in
    let b : f ≡ moved_in false signed w x z = ef ∙ ap (λ n. moved_in false signed n u z) l ∙ ap (λ y. moved_in false signed w y z) ex in
    let c : r ≡ take v x ++ replicate (v - w) (moved_in false signed w x z) = a ∙ ap (λ g. take v u ++ replicate (v - w) g) b ∙ ap (λ y. take v y ++ replicate (v - w) (moved_in false signed w x z)) ex in
    (sym (c ∙ ap (λ y. take v x ++ replicate (v - w) (moved_in false signed w x y)) ez), refl)

-- one place of a shift by a hidden amount, where e is the amount's wire
pub Plays-shift_step : {S W : Type 0} (m : Calls S W) (left signed : Bool) (w k : ℕ) (a : List W) (z e : W) (u x r : List W) (s t : S)
    → e ≡ get_or a k z → u ≡ x → length x ≡ w → Plays m (choose e u (moved left (length u) (2 ^ k) (moved_in left signed (length u) u z) u) u z (length u)) s r t
    → Plays m (shift_step left signed w a z k x) s r t
Plays-shift_step m left signed w k a z e u x r s t ee ex lx p =
    let l : length u ≡ w = ap length ex ∙ lx in
    let p1 = subst (λ n. Plays m (choose e u (moved left n (2 ^ k) (moved_in left signed n u z) u) u z n) s r t) l p in
    let p2 = subst (λ v. Plays m (choose e v (moved left w (2 ^ k) (moved_in left signed w v z) v) v z w) s r t) ex p1 in
    subst (λ c. Plays m (choose c x (moved left w (2 ^ k) (moved_in left signed w x z) x) x z w) s r t) ee p2

pub Plays-shift_word : {S W : Type 0} (m : Calls S W) (left signed : Bool) (w n : ℕ) (x0 x a : List W) (z : W) (r : List W) (s t : S)
    → z ≡ m.known_wire s false → n ≡ log2 w → x0 ≡ x → Plays m (times n (shift_step left signed w a z) x0) s r t → Plays m (shift_word_circuit left signed w x a) s r t
Plays-shift_word m left signed w n x0 x a z r s t ez en ex p =
    subst (λ y. Plays m (times (log2 w) (shift_step left signed w a y) x) s r t) ez
    (subst (λ k. Plays m (times k (shift_step left signed w a z) x) s r t) en (subst (λ y. Plays m (times n (shift_step left signed w a z) y) s r t) ex p))
