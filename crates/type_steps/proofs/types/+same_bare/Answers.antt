use Rattle.std.proofs.Common.{◌≡◌, ℕ, Bool, true, false, refl, sym, ◌∙◌, nat_eq, arith}
use Rattle.std.specs.Prelude.{◌&&◌}
use Rattle.oc_cells.specs.declared.types.CType.{CType}
use Rattle.oc_cells.specs.Types.{same}
use Rattle.type_rules.specs.Judging.{bare}
use Rattle.type_steps.proofs.Views.{same_bare_pointers, same_bare_arrays}
use Rattle.type_steps.proofs.types.+same_bare.Goals as goal

bare_so : {r : Bool} (t s to other : CType) → r ≡ same false (bare t) (bare s) → t ≡ to → s ≡ other → r ≡ same false (bare to) (bare other)
bare_so t s to other e p q = rw (e, p, q) refl

part_so : {r b : Bool} (t s to other : CType) → r ≡ same false (bare t) (bare s) → t ≡ to → s ≡ other → true ≡ b → r ≡ (b && same false (bare to) (bare other))
part_so t s to other e p q h = rw (e, p, q, ← h) refl

same_number : (m n : ℕ) → n ≡ m → true ≡ nat_eq m n
same_number m n e = rw (e) (grind (arith))

pub returns-in-Pointer-Pointer : goal.returns-in-Pointer-Pointer
returns-in-Pointer-Pointer t c =
    let e = same_bare_pointers c.in-Pointer-Pointer.frozen-0 c.in-Pointer-Pointer.frozen-1 c.in-Pointer-Pointer.to c.in-Pointer-Pointer.other in
    rw (c.in-Pointer-Pointer.is-0, c.in-Pointer-Pointer.is-1) (bare_so _ _ _ _ c.same_bare.ensures c.get.ensures c.get-in-Pointer-Pointer.ensures ∙ sym e)

pub returns-then-len-size : goal.returns-then-len-size
returns-then-len-size t c =
    let e = same_bare_arrays c.in-Array-Array.len c.in-Array-Array.size c.in-Array-Array.of c.in-Array-Array.other in
    rw (c.in-Array-Array.is-0, c.in-Array-Array.is-1) (part_so _ _ _ _ c.same_bare-then-len-size.ensures c.get-then-len-size.ensures c.get-then-len-size-2.ensures (same_number _ _ (sym c.if-len-size.true)) ∙ sym e)
