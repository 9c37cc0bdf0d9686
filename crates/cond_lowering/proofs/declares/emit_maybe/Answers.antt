use Rattle.std.proofs.Common.{ap, length}
use Rattle.cond_lowering.specs.Pieces.{none}
use Rattle.cond_lowering.specs.Statements.{coding, init_of}
use Rattle.cond_lowering.proofs.Adding.{told_as, adds_as, adds_none}
use Rattle.cond_lowering.proofs.declares.emit_maybe.Goals as goal

pub returns-in-Some : goal.returns-in-Some
returns-in-Some c = told_as _ _ _ _ c.emit_value.result (rw c.get.ensures at c.emit_value.ensures) (ap (λ o. init_of (coding c.args.table.now c.args.slots.now) c.args.depth c.args.d.now.spot c.args.d.now.slot c.args.ty.now o (length c.args.code.now)) c.in-Some.is)

pub returns-in-None : goal.returns-in-None
returns-in-None c = adds_as _ _ none (init_of (coding c.args.table.now c.args.slots.now) c.args.depth c.args.d.now.spot c.args.d.now.slot c.args.ty.now c.args.d.now.init) (ap (λ o. init_of (coding c.args.table.now c.args.slots.now) c.args.depth c.args.d.now.spot c.args.d.now.slot c.args.ty.now o (length c.args.code.now)) c.in-None.is) (adds_none _)
