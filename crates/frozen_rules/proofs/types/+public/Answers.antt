use Rattle.std.proofs.Common.{ℕ, ◌≤◌, ◌≡◌, ◌∙◌, sym, ap, refl, List, Bool, true, false, Some, nat_lt, take, arith}
use Rattle.std.specs.Prelude.{slice_get, slice_index_or}
use Rattle.oc_cells.specs.declared.types.FieldType.{FieldType}
use Rattle.oc_cells.specs.declared.types.StructType.{StructType}
use Rattle.oc_cells.specs.Types.{holds_public, some_public, public_structs}
use Rattle.frozen_rules.proofs.Forms.{held_by, rest_public}
use Rattle.frozen_rules.proofs.Tables.{public_at, public_none, public_before, public_past}
use Rattle.frozen_rules.proofs.Tests.{any_found, any_end}
use Rattle.frozen_rules.proofs.types.+public.Goals as goal

pub field_has_public-returns-in-Int : goal.field_has_public-returns-in-Int
field_has_public-returns-in-Int t c = held_by (take c.args.number (public_structs c.args.structs.now)) c.args.ty.now _ _ c.strip.ensures c.in-Int.is

pub field_has_public-returns-in-Pointer : goal.field_has_public-returns-in-Pointer
field_has_public-returns-in-Pointer t c = held_by (take c.args.number (public_structs c.args.structs.now)) c.args.ty.now _ _ c.strip.ensures c.in-Pointer.is

pub field_has_public-returns-then-inner-number : goal.field_has_public-returns-then-inner-number
field_has_public-returns-then-inner-number t c =
    let ps = public_structs c.args.structs.now in
    c.struct_has_public.ensures ∙ sym (public_before ps c.args.number c.in-Struct.inner c.if-inner-number.true)
    ∙ held_by (take c.args.number ps) c.args.ty.now _ _ c.strip.ensures c.in-Struct.is

past : (m n : ℕ) → m ≤ n → nat_lt n m ≡ false
past m n h = grind (arith, h)

pub field_has_public-returns-else-inner-number : goal.field_has_public-returns-else-inner-number
field_has_public-returns-else-inner-number t c =
    let ps = public_structs c.args.structs.now in
    past _ _ c.if-inner-number.false ∙ sym (public_past ps c.args.number c.in-Struct.inner c.if-inner-number.false)
    ∙ held_by (take c.args.number ps) c.args.ty.now _ _ c.strip.ensures c.in-Struct.is

pub field_has_public-returns-in_default : goal.field_has_public-returns-in_default
field_has_public-returns-in_default t c =
    rest_public (take c.args.number (public_structs c.args.structs.now)) c.args.ty.now _ c.strip.ensures c.in_default.not-Int c.in_default.not-Pointer c.in_default.not-Struct

at_struct : (ss : List StructType) (n : ℕ) (s : StructType) (fs : List FieldType) (b : Bool) → b ≡ some_public (take n (public_structs ss)) fs → fs ≡ s.fields → Some s ≡ slice_get ss n → b ≡ slice_index_or (public_structs ss) n false
at_struct ss n s fs b h e q = h ∙ ap (λ x. some_public (take n (public_structs ss)) x) e ∙ sym (public_at ss n s q)

pub struct_has_public-returns-then-field_has_public :
    goal.struct_has_public-returns-then-field_has_public
struct_has_public-returns-then-field_has_public t c =
    let ps = take c.args.number (public_structs c.args.structs.now) in
    at_struct c.args.structs.now c.args.number c.in-Some.each.now _ _
    (any_found (λ fs. some_public ps fs) (λ (f : FieldType). holds_public ps f.ty) (λ f fs. refl) _ _ _ _ c.loop-field.invariant c.field-item.is c.loop-field-test.true c.field_has_public.ensures c.if-field_has_public.true)
    c.as_slice-field-items.ensures c.in-Some.ensures

pub struct_has_public-returns-after-loop-field : goal.struct_has_public-returns-after-loop-field
struct_has_public-returns-after-loop-field t c =
    let ps = take c.args.number (public_structs c.args.structs.now) in
    at_struct c.args.structs.now c.args.number c.in-Some.each.now _ _ (any_end (λ fs. some_public ps fs) _ _ refl c.loop-field.invariant c.loop-field-test.false) c.as_slice-field-items.ensures c.in-Some.ensures

pub struct_has_public-returns-in-None : goal.struct_has_public-returns-in-None
struct_has_public-returns-in-None t c = sym (public_none c.args.structs.now c.args.number c.in-None.ensures)
