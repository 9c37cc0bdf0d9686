use Rattle.std.proofs.Common.{◌∙◌, ap, sym, subst}
use Rattle.std.specs.Prelude.{IfOk}
use Rattle.oc_cells.specs.Memory.{living, AllHaveForm, HasForm, put, cell}
use Rattle.oc_cells.proofs.Formed.{form_put_at}
use Rattle.block_memory.proofs.Accesses.{further_none}
use Rattle.block_memory.proofs.Writes.{living_put}
use Rattle.block_memory.proofs.blocks.Blocks.put.Goals as goal

pub invariant_of-self : goal.invariant_of-self
invariant_of-self g c =
    let e = c.put_cell.ensures ∙ ap (λ a. put c.self.inside.blocks a c.args.value) (further_none c.args.at) in (
      c.self.invariant.0 ∙ sym (living_put c.args.value c.self.inside.blocks c.args.at) ∙ ap living (sym e),
      c.self.invariant.1,
      c.self.invariant.2,
      subst AllHaveForm (sym e) (form_put_at c.args.value c.self.inside.blocks c.args.at (subst (λ m. IfOk (cell m.blocks c.args.at) (λ f. HasForm f.leaf c.args.value)) (sym c.self.view_is) c.requires) c.self.invariant.3),
      c.self.invariant.4,
    )
