use Rattle.std.proofs.Common.{◌∙◌, ap, sym, subst}
use Rattle.std.specs.Prelude.{IfOk}
use Rattle.oc_cells.specs.Memory.{HasForm, AllHaveForm}
use Rattle.block_memory.proofs.Accesses.{loaded, misfit}
use Rattle.oc_cells.proofs.Formed.{form_loaded}
use Rattle.block_memory.proofs.blocks.Blocks.load.Goals as goal

pub returns-then-not-fits_type : goal.returns-then-not-fits_type
returns-then-not-fits_type g c = record {
  value = misfit _ _ c.args.at (ap (λ m. m.blocks) c.self.view_is) c.args.leaf.now c.get.result.now c.in_ok-cell.cell.now c.in_ok-cell.ensures.found c.get.ensures (sym c.fits_type.ensures ∙ c.if-not-fits_type.true);
  form = tt;
}

pub returns : goal.returns
returns g c =
    let e = loaded _ _ c.args.at (ap (λ m. m.blocks) c.self.view_is) c.args.leaf.now c.get.result.now c.in_ok-cell.cell.now _ c.in_ok-cell.ensures.found c.get.ensures (sym c.fits_type.ensures ∙ c.if-not-fits_type.false) c.copy_value.ensures in
    record {
      value = e;
      form = subst (λ r. IfOk r (λ v. HasForm c.args.leaf.now v)) (sym e) (form_loaded c.args.self.now.blocks c.args.at c.args.leaf.now (subst (λ m. AllHaveForm m.blocks) c.self.view_is c.self.invariant.3));
    }
