use Rattle.cond_lowering.proofs.Capped.{target_sized}
use Rattle.cond_lowering.proofs.sizes.target_size.Goals as goal

pub returns-in-Pointer : goal.returns-in-Pointer
returns-in-Pointer c = target_sized c.args.table.now c.in-Pointer.frozen c.in-Pointer.to c.args.ty.now c.size_of.result c.in-Pointer.is (rw c.get.ensures at c.size_of.ensures)
