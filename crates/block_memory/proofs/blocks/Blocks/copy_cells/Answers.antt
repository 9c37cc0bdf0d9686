use Rattle.std.proofs.Common.{ap, sym, subst, ◌∙◌, ◌≡◌, ◌≤◌, length, Ok}
use Rattle.oc_cells.specs.Layout.{leaves}
use Rattle.oc_cells.specs.Memory.{living, AllHaveForm, copyable}
use Rattle.oc_cells.proofs.Formed.{then_ok}
use Rattle.block_memory.proofs.Copies.{copied_as}
use Rattle.block_memory.proofs.Writes.{living_copied}
use Rattle.block_memory.proofs.Sizes.{sized}
use Rattle.oc_cells.proofs.Copied.{form_copied}
use Rattle.block_memory.proofs.blocks.Blocks.copy_cells.Goals as goal

pub invariant_of-self : goal.invariant_of-self
invariant_of-self g c =
    let ls = leaves c.self.inside.structs c.args.ty.now in
    let small : length (leaves c.self.inside.structs c.args.ty.now) ≤ 65536 = subst (λ m. length (leaves m.structs c.args.ty.now) ≤ 65536) (sym c.self.view_is) (sized _ c.requires).1 in
    let passed = then_ok _ _ (subst (λ m. copyable m.blocks c.args.to c.args.from (leaves m.structs c.args.ty.now) ≡ Ok (tt {0})) (sym c.self.view_is) (sym c.in_ok-check_copy.ensures)) in
    let e = copied_as _ (length ls) c.self.inside.blocks _ c.args.to c.args.from c.copy_all.ensures (c.count_cells.ensures.0 small) in (
      c.self.invariant.0 ∙ sym (living_copied (length ls) c.self.inside.blocks c.args.to c.args.from) ∙ ap living (sym e),
      c.self.invariant.1,
      c.self.invariant.2,
      subst AllHaveForm (sym e) (form_copied ls c.self.inside.blocks c.args.to c.args.from passed.0 passed.1 c.self.invariant.3),
      c.self.invariant.4,
    )
