use Rattle.std.proofs.Common.{ap, length}
use Rattle.cond_lowering.specs.Pieces.{none}
use Rattle.cond_lowering.specs.Statements.{coding, header_of}
use Rattle.cond_lowering.proofs.Adding.{told_as, adds_as, adds_none}
use Rattle.cond_lowering.proofs.declares.emit_header.Goals as goal

pub returns-in-Nothing : goal.returns-in-Nothing
returns-in-Nothing c = adds_as _ _ none (header_of (coding c.args.table.now c.args.slots.now) c.args.depth c.args.spot c.args.init.now) (ap (λ i. header_of (coding c.args.table.now c.args.slots.now) c.args.depth c.args.spot i (length c.args.code.now)) c.in-Nothing.is) (adds_none _)

pub returns-in-Declare : goal.returns-in-Declare
returns-in-Declare c = told_as _ _ _ _ c.emit_declares.result (rw c.as_slice.ensures at c.emit_declares.ensures) (ap (λ i. header_of (coding c.args.table.now c.args.slots.now) c.args.depth c.args.spot i (length c.args.code.now)) c.in-Declare.is)

pub returns-in-Express : goal.returns-in-Express
returns-in-Express c = told_as _ _ _ _ c.emit_express.result (rw c.get.ensures at c.emit_express.ensures) (ap (λ i. header_of (coding c.args.table.now c.args.slots.now) c.args.depth c.args.spot i (length c.args.code.now)) c.in-Express.is)
