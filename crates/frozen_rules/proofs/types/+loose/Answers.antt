use Rattle.std.proofs.Common.{ℕ, ◌≤◌, ◌≡◌, ◌∙◌, sym, ap, refl, List, Bool, true, false, Some, nat_lt, take, arith}
use Rattle.std.specs.Prelude.{slice_get, not}
use Rattle.oc_cells.specs.declared.types.FieldType.{FieldType}
use Rattle.oc_cells.specs.declared.types.StructType.{StructType}
use Rattle.oc_cells.specs.Types.{public_structs}
use Rattle.oc_cells.specs.Layout.{leaves, field_leaves, struct_leaves, or_none}
use Rattle.scope_rules.specs.Frozen.{some_loose}
use Rattle.frozen_rules.proofs.Forms.{loose_so, loose_empty, rest_loose, unfrozen_loose, frozen_tight, loose_append}
use Rattle.frozen_rules.proofs.Tables.{leaves_at, leaves_none, leaves_before, leaves_past}
use Rattle.frozen_rules.proofs.Tests.{any_step, any_found, any_end}
use Rattle.frozen_rules.proofs.types.+loose.Goals as goal

pub field_has_loose-returns-then-not-is_filled : goal.field_has_loose-returns-then-not-is_filled
field_has_loose-returns-then-not-is_filled t c = loose_empty (public_structs c.args.structs.now) (take c.args.number (struct_leaves c.args.structs.now)) c.args.ty.now (sym c.if-not-is_filled.true ∙ c.is_filled.ensures)

pub field_has_loose-returns-then-not-frozen : goal.field_has_loose-returns-then-not-frozen
field_has_loose-returns-then-not-frozen t c =
    let ps = public_structs c.args.structs.now in
    let ls = take c.args.number (struct_leaves c.args.structs.now) in
    unfrozen_loose ps ls c.in-Pointer.frozen c.in-Pointer.to _ _ c.if-not-frozen.true c.has_public.ensures c.get.ensures
    ∙ loose_so ps ls c.args.ty.now _ _ c.strip.ensures (sym c.if-not-is_filled.false ∙ c.is_filled.ensures) c.in-Pointer.is

pub field_has_loose-returns-else-not-frozen : goal.field_has_loose-returns-else-not-frozen
field_has_loose-returns-else-not-frozen t c =
    let ps = public_structs c.args.structs.now in
    let ls = take c.args.number (struct_leaves c.args.structs.now) in
    frozen_tight ps ls c.in-Pointer.frozen c.in-Pointer.to c.if-not-frozen.false
    ∙ loose_so ps ls c.args.ty.now _ _ c.strip.ensures (sym c.if-not-is_filled.false ∙ c.is_filled.ensures) c.in-Pointer.is

pub field_has_loose-returns-then-inner-number : goal.field_has_loose-returns-then-inner-number
field_has_loose-returns-then-inner-number t c =
    let ps = public_structs c.args.structs.now in
    let ls = struct_leaves c.args.structs.now in
    c.struct_has_loose.ensures ∙ ap (λ x. some_loose ps x) (sym (leaves_before ls c.args.number c.in-Struct.inner c.if-inner-number.true))
    ∙ loose_so ps (take c.args.number ls) c.args.ty.now _ _ c.strip.ensures (sym c.if-not-is_filled.false ∙ c.is_filled.ensures) c.in-Struct.is

past : (m n : ℕ) → m ≤ n → nat_lt n m ≡ false
past m n h = grind (arith, h)

pub field_has_loose-returns-else-inner-number : goal.field_has_loose-returns-else-inner-number
field_has_loose-returns-else-inner-number t c =
    let ps = public_structs c.args.structs.now in
    let ls = struct_leaves c.args.structs.now in
    past _ _ c.if-inner-number.false ∙ ap (λ x. some_loose ps x) (sym (leaves_past ls c.args.number c.in-Struct.inner c.if-inner-number.false))
    ∙ loose_so ps (take c.args.number ls) c.args.ty.now _ _ c.strip.ensures (sym c.if-not-is_filled.false ∙ c.is_filled.ensures) c.in-Struct.is

pub field_has_loose-returns-in_default : goal.field_has_loose-returns-in_default
field_has_loose-returns-in_default t c =
    rest_loose (public_structs c.args.structs.now) (take c.args.number (struct_leaves c.args.structs.now)) c.args.ty.now _ c.strip.ensures (sym c.if-not-is_filled.false ∙ c.is_filled.ensures) c.in_default.not-Pointer c.in_default.not-Struct

at_struct : (ps : List Bool) (ss : List StructType) (n : ℕ) (s : StructType) (fs : List FieldType) (b : Bool) → b ≡ some_loose ps (field_leaves (take n (struct_leaves ss)) fs) → fs ≡ s.fields → Some s ≡ slice_get ss n → b ≡ some_loose ps (or_none (slice_get (struct_leaves ss) n))
at_struct ps ss n s fs b h e q = h ∙ ap (λ x. some_loose ps (field_leaves (take n (struct_leaves ss)) x)) e ∙ sym (ap (λ ls. some_loose ps ls) (leaves_at ss n s q))

pub struct_has_loose-returns-then-field_has_loose :
    goal.struct_has_loose-returns-then-field_has_loose
struct_has_loose-returns-then-field_has_loose t c =
    let ps = public_structs c.args.structs.now in
    let ls = take c.args.number (struct_leaves c.args.structs.now) in
    at_struct ps c.args.structs.now c.args.number c.in-Some.each.now _ _
    (any_found (λ fs. some_loose ps (field_leaves ls fs)) (λ (f : FieldType). some_loose ps (leaves ls f.ty)) (λ f fs. loose_append ps (leaves ls f.ty) (field_leaves ls fs)) _ _ _ _ c.loop-field.invariant c.field-item.is c.loop-field-test.true c.field_has_loose.ensures c.if-field_has_loose.true)
    c.as_slice-field-items.ensures c.in-Some.ensures

pub struct_has_loose-loop-field-preserved : goal.struct_has_loose-loop-field-preserved
struct_has_loose-loop-field-preserved t c =
    let ps = public_structs c.args.structs.now in
    let ls = take c.args.number (struct_leaves c.args.structs.now) in
    any_step (λ fs. some_loose ps (field_leaves ls fs)) (λ (f : FieldType). some_loose ps (leaves ls f.ty)) (λ f fs. loose_append ps (leaves ls f.ty) (field_leaves ls fs)) _ _ _ _ c.loop-field.invariant c.field-item.is c.loop-field-test.true c.field_has_loose.ensures c.if-field_has_loose.false

pub struct_has_loose-returns-after-loop-field : goal.struct_has_loose-returns-after-loop-field
struct_has_loose-returns-after-loop-field t c =
    let ps = public_structs c.args.structs.now in
    let ls = take c.args.number (struct_leaves c.args.structs.now) in
    at_struct ps c.args.structs.now c.args.number c.in-Some.each.now _ _ (any_end (λ fs. some_loose ps (field_leaves ls fs)) _ _ refl c.loop-field.invariant c.loop-field-test.false) c.as_slice-field-items.ensures c.in-Some.ensures

pub struct_has_loose-returns-in-None : goal.struct_has_loose-returns-in-None
struct_has_loose-returns-in-None t c = ap (λ ls. some_loose (public_structs c.args.structs.now) ls) (sym (leaves_none c.args.structs.now c.args.number c.in-None.ensures))
