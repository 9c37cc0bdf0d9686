-- What the calls of operations bit by bit, choices and shifts owe.
use Rattle.std.proofs.Common.{◌≡◌, ℕ, ◌+◌, ◌*◌, ◌-◌, ◌%◌, ◌^◌, ◌<◌, Bool, true, false, cond, bit_and, bit_or, bit_xor, ℤ, negsuc, ◌-ℤ◌, IsTrue, if◌then◌else◌, List, ◌∷◌, ◌++◌, length, get_or, take, drop, refl, ap, ◌∙◌, sym, arith}
use Rattle.std.proofs.lemmas.List.{length-append, take_all}
use Rattle.std.proofs.lemmas.Nat.{mod-mul-add, pow_pos, mod_below}
use Rattle.gate_core.specs.Circuit.{Circuit, Calls, Plays}
use Rattle.gate_core.proofs.Relating.{truth}
use Rattle.gate_core.specs.Circuit.Circuit.{give, join, meet}
use Rattle.gate_core.specs.Laws.{Laws}
use Rattle.gate_core.proofs.Pairs.{All2-take, All2-drop, All2-at, All2-append, All2-length}
use Rattle.word_circuits.specs.Widths.{is_width}
use Rattle.oc_values.specs.Integers.{residue, value_of_bits, wrap_bits, combine_bits, shift_amount}
use Rattle.word_circuits.specs.Integers.{number, value, Means, shift}
use Rattle.word_circuits.specs.Choices.{meet_circuit, either_bit, either_circuit, differ_circuit, flip_circuit, select_circuit, shift_word_circuit}
use Rattle.word_circuits.specs.Fragments.{circuit}
use Rattle.word_circuits.specs.Fragments.Operation.{op_meet, op_either, op_differ, op_flip, op_select, op_shift_known, op_shift_word, op_resize}
use Rattle.word_circuits.proofs.Values.{mod_small, value-below}
use Rattle.word_circuits.proofs.Whole.{residue-sub}
use Rattle.word_circuits.proofs.Adding.{Costs-flips}
use Rattle.word_circuits.proofs.AddingPairs.{Same-flips}
use Rattle.word_circuits.proofs.Turning.{truth-flips_all}
use Rattle.word_circuits.proofs.Choosing.{Blocks-and, Blocks-or, Blocks-xor, truth-bitwise_all, truth-choose_second, Costs-meet, Costs-either, Costs-differ, Costs-choose}
use Rattle.word_circuits.proofs.ChoosingPairs.{Same-meet, Same-either, Same-differ, Same-choose, Same-shift_known, Same-shift_word, Same-resize, length-moved, length-resized, Costs-shift_word}
use Rattle.word_circuits.proofs.Shifting.{integer-shift_word}
use Rattle.word_circuits.proofs.Calling.{Uniform, Counted, apart, bits_after}
use Rattle.word_circuits.proofs.Totals.{number_wraps, residue-number}
use Rattle.word_circuits.proofs.Summing.{half_front}

pub Uniform-meet : (w : ℕ) → Uniform op_meet w
Uniform-meet w V W R d e xs ys h k = Same-meet R w _ _ _ _ d e (All2-take R w xs ys k) (All2-drop R w xs ys k) h

pub Uniform-either : (w : ℕ) → Uniform op_either w
Uniform-either w V W R d e xs ys h k = Same-either R w _ _ _ _ d e (All2-take R w xs ys k) (All2-drop R w xs ys k) h

pub Uniform-differ : (w : ℕ) → Uniform op_differ w
Uniform-differ w V W R d e xs ys h k = Same-differ R w _ _ _ _ d e (All2-take R w xs ys k) (All2-drop R w xs ys k) h

pub Uniform-flip : (w : ℕ) → Uniform op_flip w
Uniform-flip w V W R d e xs ys h k = Same-flips R xs ys d e w k h

pub Uniform-select : (w : ℕ) → Uniform op_select w
Uniform-select w V W R d e xs ys h k =
    let rest = All2-drop R 1 xs ys k in
    let new = All2-take R w (drop 1 xs) (drop 1 ys) rest in
    let old = All2-drop R w (drop 1 xs) (drop 1 ys) rest in
    Same-choose R _ _ _ _ _ _ _ _ d e w (All2-at R xs ys d e 0 h k) new old old h

pub Uniform-shift_known : (amount : ℕ) (left signed : Bool) (w : ℕ) → Uniform (op_shift_known amount left signed) w
Uniform-shift_known amount left signed w V W R d e xs ys h k = Same-shift_known R left signed w amount xs ys k

pub Uniform-shift_word : (left signed : Bool) (w : ℕ) → Uniform (op_shift_word left signed) w
Uniform-shift_word left signed w V W R d e xs ys h k = Same-shift_word R left signed w _ _ _ _ (All2-take R w xs ys k) (All2-drop R w xs ys k)

pub Uniform-resize : (v : ℕ) (signed : Bool) (w : ℕ) → Uniform (op_resize v signed) w
Uniform-resize v signed w V W R d e xs ys h k = Same-resize R signed v w xs ys k

pub Counted-meet : (w : ℕ) → Counted op_meet w
Counted-meet w W d xs e = Costs-meet (take w xs) (drop w xs) d w

pub Counted-either : (w : ℕ) → Counted op_either w
Counted-either w W d xs e = Costs-either (take w xs) (drop w xs) d w

pub Counted-differ : (w : ℕ) → Counted op_differ w
Counted-differ w W d xs e = Costs-differ (take w xs) (drop w xs) d w

pub Counted-flip : (w : ℕ) → Counted op_flip w
Counted-flip w W d xs e = Costs-flips xs d w

pub Counted-select : (w : ℕ) → Counted op_select w
Counted-select w W d xs e = Costs-choose _ _ _ _ d w

pub Counted-shift_known : (amount : ℕ) (left signed : Bool) (w : ℕ) → 0 < w → Counted (op_shift_known amount left signed) w
Counted-shift_known amount left signed w some W d xs e = λ low. (refl, (let h : amount % w < w = mod_below amount w some in length-moved left w (amount % w) _ xs e (omega (arith, h))))

pub Counted-shift_word : (left signed : Bool) (w : ℕ) → Counted (op_shift_word left signed) w
Counted-shift_word left signed w W d xs e = Costs-shift_word left signed w (take w xs) (drop w xs) (half_front xs w e)

pub Counted-resize : (v : ℕ) (signed : Bool) (w : ℕ) → Counted (op_resize v signed) w
Counted-resize v signed w W d xs e = λ low. (refl, length-resized v w _ xs e)

-- bits that spell what an operation on numbers gives
combined : (signed : Bool) (w : ℕ) (op : ℕ → ℕ → ℕ) (p q r : List Bool) → length p ≡ w → length q ≡ w → length r ≡ w → value r ≡ op (value p) (value q)
    → number signed r ≡ combine_bits signed w op (number signed p) (number signed q)
combined signed w op p q r lp lq lr e =
    ap (λ n. value_of_bits signed n (value r)) lr
    ∙ ap (λ n. value_of_bits signed w n) (e ∙ ap (λ n. op n (value q)) (sym (residue-number signed w p lp)) ∙ ap (λ n. op (residue w (number signed p)) n) (sym (residue-number signed w q lq)))

pub integer-meet : (d signed : Bool) (w : ℕ) → 0 < w → (p q : List Bool) → length p ≡ w → length q ≡ w
    → number signed (truth (circuit op_meet w d (p ++ q))) ≡ combine_bits signed w bit_and (number signed p) (number signed q)
integer-meet d signed w some p q lp lq =
    let h = truth-bitwise_all bit_and _ Blocks-and p q d (λ i. meet (get_or p i d) (get_or q i d) (λ r. give r)) (λ i. refl) w lp lq in
    ap (λ (c : Circuit Bool (List Bool)). number signed (truth c)) (apart (λ x y. meet_circuit w x y d) p q w lp)
    ∙ combined signed w bit_and p q (truth (meet_circuit w p q d)) lp lq h.0 h.1

pub integer-either : (d signed : Bool) (w : ℕ) → 0 < w → (p q : List Bool) → length p ≡ w → length q ≡ w
    → number signed (truth (circuit op_either w d (p ++ q))) ≡ combine_bits signed w bit_or (number signed p) (number signed q)
integer-either d signed w some p q lp lq =
    let h = truth-bitwise_all bit_or _ Blocks-or p q d (λ i. either_bit (get_or p i d) (get_or q i d)) (λ i. refl) w lp lq in
    ap (λ (c : Circuit Bool (List Bool)). number signed (truth c)) (apart (λ x y. either_circuit w x y d) p q w lp)
    ∙ combined signed w bit_or p q (truth (either_circuit w p q d)) lp lq h.0 h.1

pub integer-differ : (d signed : Bool) (w : ℕ) → 0 < w → (p q : List Bool) → length p ≡ w → length q ≡ w
    → number signed (truth (circuit op_differ w d (p ++ q))) ≡ combine_bits signed w bit_xor (number signed p) (number signed q)
integer-differ d signed w some p q lp lq =
    let h = truth-bitwise_all bit_xor _ Blocks-xor p q d (λ i. join (get_or p i d) (get_or q i d) (λ r. give r)) (λ i. refl) w lp lq in
    ap (λ (c : Circuit Bool (List Bool)). number signed (truth c)) (apart (λ x y. differ_circuit w x y d) p q w lp)
    ∙ combined signed w bit_xor p q (truth (differ_circuit w p q d)) lp lq h.0 h.1

pub integer-flip : (d signed : Bool) (w : ℕ) → 0 < w → (p : List Bool) → length p ≡ w
    → number signed (truth (circuit op_flip w d p)) ≡ wrap_bits signed w (negsuc 0 -ℤ number signed p)
integer-flip d signed w some p lp =
    let r = truth (flip_circuit w p d) in
    let t = truth-flips_all p d w lp in
    let v = residue-number signed w p lp in
    let lt : value r < 2 ^ w = value-below r w t.0 in
    let e : 1 * 2 ^ w + value r ≡ 2 ^ w - 1 - 0 % 2 ^ w + (2 ^ w - value p) = (let z = mod_small 0 (2 ^ w) (pow_pos w) in let k = t.1 in omega (arith, z, k)) in
    number_wraps signed w r (negsuc 0 -ℤ number signed p) t.0
    (sym (mod-mul-add 1 (2 ^ w) (value r) lt) ∙ ap (λ n. n % 2 ^ w) e ∙ ap (λ n. (2 ^ w - 1 - 0 % 2 ^ w + (2 ^ w - n)) % 2 ^ w) (sym v) ∙ sym (residue-sub w (negsuc 0) (number signed p)))

-- a wire and two words one after the other
pub select-apart : {W : Type 0} (e : W) (x y : List W) (w : ℕ) (d : W) → length x ≡ w → circuit op_select w d (e ∷ (x ++ y)) ≡ select_circuit w e x y d
select-apart e x y w d lx = apart (λ u v. select_circuit w e u v d) x y w lx

chosen-whole : (c : Bool) (p q : List Bool) (w : ℕ) → length p ≡ w → length q ≡ w → take w (cond c p q) ≡ cond c p q
chosen-whole true p q w lp lq = take_all w p (omega (arith, lp))
chosen-whole false p q w lp lq = take_all w q (omega (arith, lq))

chosen-number : (signed c : Bool) (p q : List Bool) → number signed (cond c p q) ≡ cond c (number signed p) (number signed q)
chosen-number signed true p q = refl
chosen-number signed false p q = refl

pub integer-select : (d signed : Bool) (w : ℕ) (c : Bool) (p q : List Bool) → length p ≡ w → length q ≡ w
    → number signed (truth (circuit op_select w d (c ∷ (p ++ q)))) ≡ cond c (number signed p) (number signed q)
integer-select d signed w c p q lp lq =
    ap (λ (k : Circuit Bool (List Bool)). number signed (truth k)) (select-apart c p q w d lp)
    ∙ ap (number signed) (truth-choose_second c p q d w (omega (arith, lp)) (omega (arith, lq)) ∙ chosen-whole c p q w lp lq) ∙ chosen-number signed c p q

pub means_select : {S W : Type 0} (m : Calls S W) (stands : S → W → Bool → Type 0) → Laws m stands
    → (w : ℕ) (e : W) (x y : List W) (s t : S) (r : List W) → length x ≡ w → length y ≡ w
    → ((d : W) → Plays m (circuit op_select w d (e ∷ (x ++ y))) s r t)
    → (signed c : Bool) (a b : ℤ) → stands s e c → Means (stands s) signed x a → Means (stands s) signed y b → Means (stands t) signed r (if c then a else b)
means_select m stands law w e x y s t r lx ly p signed c a b he hx hy =
    let lp : length hx.0 ≡ w = sym (All2-length (stands s) x hx.0 hx.1) ∙ lx in
    let lq : length hy.0 ≡ w = sym (All2-length (stands s) y hy.0 hy.1) ∙ ly in
    let bs = c ∷ (hx.0 ++ hy.0) in (
      truth (circuit op_select w false bs),
      bits_after m stands law op_select w (e ∷ (x ++ y)) bs s t r (Uniform-select w) p (he, All2-append (stands s) x hx.0 y hy.0 hx.1 hy.1),
      integer-select false signed w c hx.0 hy.0 lp lq ∙ ap (λ k. cond c k (number signed hy.0)) hx.2 ∙ ap (λ k. cond c a k) hy.2,
    )

pub length-select : {W : Type 0} (e : W) (x y : List W) (w : ℕ) → length x ≡ w → length y ≡ w → length (e ∷ (x ++ y)) ≡ 1 + w + w
length-select e x y w lx ly = let l = length-append x y in omega (arith, l, lx, ly)

pub integer-shift_two : (left signed kind : Bool) (w : ℕ) → IsTrue (is_width w) → 0 < w → (p q : List Bool) → length p ≡ w → length q ≡ w
    → number signed (truth (circuit (op_shift_word left signed) w false (p ++ q))) ≡ wrap_bits signed w (shift left (number signed p) (shift_amount w (number kind q)))
integer-shift_two left signed kind w wide some p q lp lq =
    ap (λ (c : Circuit Bool (List Bool)). number signed (truth c)) (apart (λ x y. shift_word_circuit left signed w x y) p q w lp)
    ∙ integer-shift_word left signed kind w wide some p q lp lq
