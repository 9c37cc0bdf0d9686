use Rattle.std.proofs.Common.{ℕ, ◌≡◌, ◌∙◌, sym, ap, refl, List, Bool, true, false, nat_eq, arith}
use Rattle.std.specs.Prelude.{◌&&◌}
use Rattle.oc_cells.specs.declared.types.CType.{CType, Array, Pointer}
use Rattle.oc_cells.specs.Types.{public_structs, holds_public, alike, same, freeze}
use Rattle.frozen_rules.proofs.Forms.{form_so, form_arrays}
use Rattle.frozen_rules.proofs.types.+is_frozen_form.Goals as goal

-- the answer at two pointers, from what the code found of them
pointers_so : (ps : List Bool) (f g a r : Bool) (x t s to other : CType) (d e : CType) → d ≡ Pointer f to → e ≡ Pointer g other
    → a ≡ alike r g → r ≡ holds_public ps x → x ≡ to → (b : Bool) → b ≡ same true (freeze ps t) s → t ≡ to → s ≡ other
    → (z : Bool) → z ≡ (a && b) → z ≡ same true (freeze ps d) e
pointers_so ps f g a r x t s to other d e i j h p q b k m n z o =
    o ∙ form_so ps f g a r x t s to other h p q b k m n ∙ ap (λ y. same true (freeze ps y) (Pointer g other)) (sym i) ∙ ap (λ y. same true (freeze ps d) y) (sym j)

pub returns-then-are_alike : goal.returns-then-are_alike
returns-then-are_alike t c =
    pointers_so (public_structs c.args.structs.now) _ _ _ _ _ _ _ _ _ c.args.a.now c.args.b.now c.in-Pointer-Pointer.is-0 c.in-Pointer-Pointer.is-1
    c.are_alike.ensures c.has_public.ensures c.get.ensures c.is_frozen_form.result c.is_frozen_form.ensures c.get-then-are_alike.ensures c.get-then-are_alike-2.ensures
    c.is_frozen_form.result (ap (λ x. x && c.is_frozen_form.result) (sym c.if-are_alike.true))

pub returns-else-are_alike : goal.returns-else-are_alike
returns-else-are_alike t c =
    let ps = public_structs c.args.structs.now in
    pointers_so ps _ _ _ _ _ _ _ _ _ c.args.a.now c.args.b.now c.in-Pointer-Pointer.is-0 c.in-Pointer-Pointer.is-1
    c.are_alike.ensures c.has_public.ensures c.get.ensures (same true (freeze ps c.in-Pointer-Pointer.to) c.in-Pointer-Pointer.other) refl refl refl
    c.are_alike.result (c.if-are_alike.false ∙ ap (λ x. x && same true (freeze ps c.in-Pointer-Pointer.to) c.in-Pointer-Pointer.other) (sym c.if-are_alike.false))

array_so : (ps : List Bool) (n m : ℕ) (t s to other : CType) (r : Bool) → n ≡ m → r ≡ same true (freeze ps t) s → t ≡ to → s ≡ other → r ≡ same true (freeze ps (Array n to)) (Array m other)
array_so ps n m t s to other r h e p q =
    let k : true ≡ nat_eq n m = grind (arith, h) in
    e ∙ rw (p, q) (ap (λ b. b && same true (freeze ps to) other) k) ∙ sym (form_arrays ps n m to other)

pub returns-then-len-size : goal.returns-then-len-size
returns-then-len-size t c =
    rw (c.in-Array-Array.is-0, c.in-Array-Array.is-1)
    (array_so (public_structs c.args.structs.now) c.in-Array-Array.len c.in-Array-Array.size c.get-then-len-size.result.now c.get-then-len-size-2.result.now c.in-Array-Array.of c.in-Array-Array.other _ c.if-len-size.true c.is_frozen_form-then-len-size.ensures c.get-then-len-size.ensures c.get-then-len-size-2.ensures)
