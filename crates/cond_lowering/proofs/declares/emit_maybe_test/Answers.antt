use Rattle.std.proofs.Common.{ap, length}
use Rattle.cond_lowering.specs.Pieces.{none}
use Rattle.cond_lowering.specs.Statements.{coding, test_or_of}
use Rattle.cond_lowering.proofs.Adding.{told_as, adds_as, adds_none}
use Rattle.cond_lowering.proofs.declares.emit_maybe_test.Goals as goal

pub returns-in-Some : goal.returns-in-Some
returns-in-Some c = told_as _ _ _ _ c.emit_test.result (rw c.get.ensures at c.emit_test.ensures) (ap (λ o. test_or_of (coding c.args.table.now c.args.slots.now) c.args.depth c.args.to o (length c.args.code.now)) c.in-Some.is)

pub returns-in-None : goal.returns-in-None
returns-in-None c = adds_as _ _ none (test_or_of (coding c.args.table.now c.args.slots.now) c.args.depth c.args.to c.args.cond.now) (ap (λ o. test_or_of (coding c.args.table.now c.args.slots.now) c.args.depth c.args.to o (length c.args.code.now)) c.in-None.is) (adds_none _)
