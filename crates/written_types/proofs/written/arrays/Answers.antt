use Rattle.std.proofs.Common.{ℕ, ◌≡◌, ◌+◌, ◌-◌, ◌<◌, ◌≤◌, List, length, get_or, take, sym, ap, ◌∙◌, arith}
use Rattle.std.proofs.lemmas.List.{take_more}
use Rattle.oc_cells.specs.declared.types.CType.{CType, Array}
use Rattle.type_rules.specs.Written.{arrays}
use Rattle.written_types.proofs.Forms.{lengths_bound, arrays_push}
use Rattle.written_types.proofs.written.arrays.Goals as goal

outward : (ns : List ℕ) (k : ℕ) (t of all : CType) → 0 < k → k ≤ length ns → arrays (take k ns) t ≡ all → of ≡ t → arrays (take (k - 1) ns) (Array (get_or ns (k - 1) 0) of) ≡ all
outward ns k t of all h l inv e =
    let m : k - 1 < length ns = omega (arith, h, l) in
    let q : (k - 1) + 1 ≡ k = omega (arith, h) in
    let n = get_or ns (k - 1) 0 in
    ap (λ u. arrays (take (k - 1) ns) (Array n u)) e ∙ sym (arrays_push (take (k - 1) ns) n t)
    ∙ ap (λ ms. arrays ms t) (sym (take_more ns (k - 1) 0 m)) ∙ ap (λ i. arrays (take i ns) t) q ∙ inv

inside : (n k : ℕ) → 0 < k → k ≤ n → k - 1 < n
inside n k h l = omega (arith, h, l)

pub overflow_cast-len : goal.overflow_cast-len
overflow_cast-len c =
    let h = lengths_bound c.args.dims.now (c.outward.at - 1) c.requires (inside _ _ c.outward-test.true c.outward.invariant.within) in omega (arith, h)

less : (n k : ℕ) → k ≤ n → k - 1 ≤ n
less n k l = omega (arith, l)

pub outward-preserved : goal.outward-preserved
outward-preserved c =
    record {
      within = less _ _ c.outward.invariant.within;
      rest = outward c.args.dims.now c.outward.at c.outward.ty _ _ c.outward-test.true c.outward.invariant.within c.outward.invariant.rest c.in_ok-of.ensures;
    }
