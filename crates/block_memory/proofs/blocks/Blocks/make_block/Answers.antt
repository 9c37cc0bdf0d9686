use Rattle.std.proofs.Common.{◌≡◌, ap, sym, subst, refl, ◌∙◌, ◌*◌, ◌≤◌, ◌<◌, ◌^◌, length, ℕ, max, pos, true, Ok, Err}
use Rattle.std.proofs.lemmas.Int.{to_z-of_z}
use Rattle.oc_cells.specs.Layout.{leaves, repeated}
use Rattle.oc_cells.specs.declared.types.CType.{CType}
use Rattle.oc_cells.specs.declared.memory.Block.TheVariants.{Live}
use Rattle.oc_cells.specs.declared.trap.TrapKind.TheVariants.{M4}
use Rattle.oc_cells.specs.Memory.{AllHaveForm}
use Rattle.oc_cells.proofs.Formed.{form_more}
use Rattle.block_memory.specs.declared.blocks.MakeRefusal.TheVariants.{Trap}
use Rattle.block_memory.specs.Content.{Memory, has_room, AreBlank, Makes}
use Rattle.block_memory.proofs.Blanks.{weight_of_copies, form_blanks}
use Rattle.block_memory.proofs.Growing.{all_added}
use Rattle.block_memory.proofs.Making.{too_many, room_is, copies_are, more_live, exactly, seen}
use Rattle.block_memory.proofs.Sizes.{sized}
use Rattle.block_memory.proofs.Leafy.{leafy, leafy_repeated}
use Rattle.block_memory.proofs.blocks.Blocks.make_block.Goals as goal

-- a size that is known of the memory that is seen holds of the fields
inside : {H : Type 0} {old now : Memory H} (t : CType) → old ≡ now → length (leaves now.structs t) ≤ 65536 → length (leaves old.structs t) ≤ 65536
inside t e h = subst (λ m. length (leaves m.structs t) ≤ 65536) (sym e) h

counted : {H : Type 0} {old now : Memory H} (t : CType) (n : ℕ) → old ≡ now → n ≡ length (leaves old.structs t) → n ≡ length (leaves now.structs t)
counted t n e h = subst (λ m. n ≡ length (leaves m.structs t)) e h

pub returns-in_default : goal.returns-in_default
returns-in_default g c =
    let ls = leaves c.args.self.now.structs c.args.ty.now in
    let m : Makes g.C.HiddenCell.is_zero_of c.args.allocated ls c.args.count (Err (Trap M4)) c.args.self.now c.args.self.now =
    (refl, too_many c.args.self.now (length ls) c.args.count _ (to_z-of_z _ c.args.count c.ranges.count) c.in_default.ensures (subst (λ m. m.limit < 2 ^ 32) c.self.view_is c.self.invariant.2) (sized _ c.requires).0, refl)
    in record { makes = m; exactly = exactly _ _ _ _ (Err (Trap M4)) _ _ m }

pub returns-then-not-has_room : goal.returns-then-not-has_room
returns-then-not-has_room g c =
    let ls = leaves c.args.self.now.structs c.args.ty.now in
    let e = counted c.args.ty.now _ c.self.view_is (c.count_cells-each.ensures.0 (inside c.args.ty.now c.self.view_is (sized _ c.requires).1)) in
    let m : Makes g.C.HiddenCell.is_zero_of c.args.allocated ls c.args.count (Err (Trap M4)) c.args.self.now c.args.self.now = (
      refl,
      room_is c.args.self.now (length ls) c.args.count _ c.in-Ok.copies (to_z-of_z _ c.args.count c.ranges.count) c.in-Ok.ensures ∙ ap (λ k. has_room c.args.self.now k (pos c.in-Ok.copies)) (sym e) ∙ sym c.has_room.ensures ∙ c.if-not-has_room.true,
      refl,
    )
    in record { makes = m; exactly = exactly _ _ _ _ (Err (Trap M4)) _ _ m }

pub invariant_of-self-2 : goal.invariant_of-self-2
invariant_of-self-2 g c =
    let ls = leaves c.self.inside.structs c.args.ty.now in
    let m : Memory _ = record { blocks = c.self.inside.blocks; limit = c.self.inside.limit; structs = c.self.inside.structs } in
    let e = c.count_cells-each.ensures.0 (inside c.args.ty.now c.self.view_is (sized _ c.requires).1) in
    let room = subst (λ m. has_room m c.count_cells-each.result (pos c.in-Ok.copies) ≡ true) (sym c.self.view_is) (sym c.has_room.ensures ∙ c.if-not-has_room.false) in
    let f = c.in-Ok-push_copies.ensures in
    let filled = all_added f c.new-cells.ensures in
    let blank = subst (AreBlank g.C.HiddenCell.is_zero_of (repeated c.in-Ok.copies ls)) (sym filled) f.blank in
    let heavy = weight_of_copies c.args.allocated c.in-Ok.copies ls blank ∙ ap (λ k. max 1 (c.in-Ok.copies * k)) (sym e) in
    let p = more_live m c.count_cells-each.result c.in-Ok.copies c.self.inside.live c.weigh-weight.result (Live c.args.allocated c.push_copies.new.out) c.push.new.self room c.self.invariant.0 c.weigh-weight.ensures heavy c.in-Ok-push.ensures.ok in
    (p.0, p.1, c.self.invariant.2, subst AllHaveForm (sym c.in-Ok-push.ensures.ok) (form_more c.self.inside.blocks (Live c.args.allocated c.push_copies.new.out) c.self.invariant.3 (form_blanks blank (leafy_repeated c.in-Ok.copies ls (leafy c.self.inside.structs c.args.ty.now c.self.invariant.4)))), c.self.invariant.4)

pub returns : goal.returns
returns g c =
    let ls = leaves c.args.self.now.structs c.args.ty.now in
    let z = to_z-of_z _ c.args.count c.ranges.count in
    let e = counted c.args.ty.now _ c.self.view_is (c.count_cells-each.ensures.0 (inside c.args.ty.now c.self.view_is (sized _ c.requires).1)) in
    let f = c.in-Ok-push_copies.ensures in
    let blank = subst (λ ks. AreBlank g.C.HiddenCell.is_zero_of ks f.cells) (ap (λ m. repeated c.in-Ok.copies (leaves m.structs c.args.ty.now)) c.self.view_is ∙ copies_are c.args.self.now (length ls) c.args.count _ c.in-Ok.copies ls z c.in-Ok.ensures) f.blank in
    let m : Makes g.C.HiddenCell.is_zero_of c.args.allocated ls c.args.count (Ok c.len-number.result) c.args.self.now _ = (
      c.len-number.ensures ∙ ap (λ m. length m.blocks) c.self.view_is,
      room_is c.args.self.now (length ls) c.args.count _ c.in-Ok.copies z c.in-Ok.ensures ∙ ap (λ k. has_room c.args.self.now k (pos c.in-Ok.copies)) (sym e) ∙ sym c.has_room.ensures ∙ c.if-not-has_room.false,
      record { cells = f.cells; blank = blank; added = seen c.args.allocated c.push.new.self c.self.view_is c.in-Ok-push.ensures.ok (all_added f c.new-cells.ensures) },
    )
    in record { makes = m; exactly = exactly _ _ _ _ (Ok c.len-number.result) _ _ m }
