use Rattle.std.proofs.Common.{ap, length}
use Rattle.cond_lowering.specs.Statements.{coding, back_of}
use Rattle.cond_lowering.proofs.Adding.{told_as}
use Rattle.cond_lowering.proofs.declares.emit_back.Goals as goal

pub returns-in-Some : goal.returns-in-Some
returns-in-Some c = told_as _ _ _ _ c.emit_back_value.result (rw c.get.ensures at c.emit_back_value.ensures) (ap (λ o. back_of (coding c.args.table.now c.args.slots.now) c.args.depth c.args.spot o (length c.args.code.now)) c.in-Some.is)

pub returns-in-None : goal.returns-in-None
returns-in-None c = told_as _ _ _ _ c.put.result c.put.ensures (ap (λ o. back_of (coding c.args.table.now c.args.slots.now) c.args.depth c.args.spot o (length c.args.code.now)) c.in-None.is)
