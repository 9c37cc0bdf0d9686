use Rattle.std.proofs.Common.{◌∙◌, ap, sym, subst, refl}
use Rattle.oc_cells.specs.Memory.{living, AllHaveForm, put}
use Rattle.block_memory.proofs.Accesses.{further_none, stored}
use Rattle.block_memory.proofs.Writes.{living_put}
use Rattle.oc_cells.proofs.Formed.{form_put}
use Rattle.block_memory.proofs.blocks.Blocks.store.Goals as goal

pub invariant_of-self : goal.invariant_of-self
invariant_of-self g c =
    let e = c.put_cell.ensures ∙ ap (λ a. put c.self.inside.blocks a c.args.value) (further_none c.args.at) in (
      c.self.invariant.0 ∙ sym (living_put c.args.value c.self.inside.blocks c.args.at) ∙ ap living (sym e),
      c.self.invariant.1,
      c.self.invariant.2,
      subst AllHaveForm (sym e) (form_put c.args.leaf.now c.args.value c.self.inside.blocks c.args.at (stored _ _ c.args.at refl c.args.leaf.now c.get.result.now c.in_ok-cell.cell.now c.in_ok-cell.ensures.found c.get.ensures (sym c.same_type.ensures ∙ c.if-not-same_type.false)) c.requires c.self.invariant.3),
      c.self.invariant.4,
    )
