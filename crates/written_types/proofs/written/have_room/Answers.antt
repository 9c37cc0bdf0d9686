use Rattle.std.proofs.Common.{ℕ, ◌≡◌, ◌+◌, ◌*◌, ◌<◌, ◌≤◌, List, ◌∷◌, length, get_or, drop, Bool, true, false, nat_le, leb-true, leb-false, refl, sym, ap, ◌∙◌, arith}
use Rattle.std.specs.Prelude.{◌&&◌}
use Rattle.std.proofs.Math.Nat.{mul-le-mul_left}
use Rattle.std.proofs.lemmas.List.{drop_more}
use Rattle.type_rules.specs.Written.{is_length, are_lengths}
use Rattle.written_types.specs.Forms.{times}
use Rattle.written_types.proofs.Forms.{length_bound, both_true, too_many}
use Rattle.written_types.proofs.written.have_room.Goals as goal

-- whether there is room for these lengths
abbrev room : ℕ → List ℕ → Bool
room t ns = are_lengths ns && nat_le (times t ns) 65536

stopped : (t n : ℕ) (ns : List ℕ) → (nat_le t 65536 && is_length n) ≡ false → room t (n ∷ ns) ≡ false
stopped t n ns h = go (nat_le t 65536) refl h
  where
    go : (b : Bool) → nat_le t 65536 ≡ b → (b && is_length n) ≡ false → room t (n ∷ ns) ≡ false
    go true e h = ap (λ b. (b && are_lengths ns) && nat_le (times t (n ∷ ns)) 65536) h
    go false e h = too_many (n ∷ ns) t (leb-false t 65536 e)

at_item : (ns : List ℕ) (i : ℕ) → i < length ns → drop i ns ≡ get_or ns i 0 ∷ drop (i + 1) ns
at_item ns i l = drop_more ns i 0 l

refused : (all r : Bool) (t i : ℕ) (ns : List ℕ) → room t (drop i ns) ≡ all → i < length ns → r ≡ (nat_le t 65536 && is_length (get_or ns i 0)) → r ≡ false → false ≡ all
refused all r t i ns inv l p q = sym (stopped t (get_or ns i 0) (drop (i + 1) ns) (sym p ∙ q)) ∙ ap (λ ms. room t ms) (sym (at_item ns i l)) ∙ inv

taken : (all r : Bool) (t i : ℕ) (ns : List ℕ) → room t (drop i ns) ≡ all → i < length ns → r ≡ (nat_le t 65536 && is_length (get_or ns i 0)) → r ≡ true → room (get_or ns i 0 * t) (drop (i + 1) ns) ≡ all
taken all r t i ns inv l p q =
    let n = get_or ns i 0 in
    let h = (both_true (nat_le t 65536) (is_length n) (sym p ∙ q)).1 in
    ap (λ b. (b && are_lengths (drop (i + 1) ns)) && nat_le (times (n * t) (drop (i + 1) ns)) 65536) (sym h)
    ∙ ap (λ ms. room t ms) (sym (at_item ns i l)) ∙ inv

fits : (r : Bool) (t n : ℕ) → r ≡ (nat_le t 65536 && is_length n) → r ≡ true → n * t ≤ 4294967296
fits r t n p q =
    let h = both_true (nat_le t 65536) (is_length n) (sym p ∙ q) in
    let a : t ≤ 65536 = leb-true t 65536 h.0 in
    let b : n ≤ 65536 = (length_bound n h.1).1 in
    omega (arith, b, mul-le-mul_left n a)

pub returns-else-may_grow : goal.returns-else-may_grow
returns-else-may_grow c = refused _ _ _ _ c.args.dims.now c.loop-n.invariant c.loop-n-test.true c.may_grow.ensures c.if-may_grow.false

pub overflow_mul-total : goal.overflow_mul-total
overflow_mul-total c = let h = fits _ c.loop-n.total (get_or c.args.dims.now c.loop-n.n-index 0) c.may_grow.ensures c.if-may_grow.true in omega (arith, h)

pub loop-n-preserved : goal.loop-n-preserved
loop-n-preserved c = taken _ _ _ _ c.args.dims.now c.loop-n.invariant c.loop-n-test.true c.may_grow.ensures c.if-may_grow.true
