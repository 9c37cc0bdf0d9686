use Rattle.std.proofs.Common.{ap, sym, length}
use Rattle.cond_lowering.specs.Pieces.{none}
use Rattle.cond_lowering.specs.Statements.{coding, start_of}
use Rattle.cond_lowering.proofs.Adding.{told_as, adds_as, adds_none}
use Rattle.cond_lowering.proofs.declares.emit_start.Goals as goal

pub returns-in-Some : goal.returns-in-Some
returns-in-Some c = told_as _ _ _ _ c.emit_maybe.result c.emit_maybe.ensures (ap (λ o. start_of (coding c.args.table.now c.args.slots.now) c.args.depth c.args.d.now o (length c.args.code.now)) (sym c.in-Some.ensures.value))

pub returns-in-None : goal.returns-in-None
returns-in-None c = adds_as _ _ none _ (ap (λ o. start_of (coding c.args.table.now c.args.slots.now) c.args.depth c.args.d.now o (length c.args.code.now)) (sym c.in-None.ensures.value)) (adds_none _)
