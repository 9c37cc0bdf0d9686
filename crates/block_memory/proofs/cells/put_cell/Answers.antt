use Rattle.std.proofs.Common.{◌∙◌, ap, Some, refl, ◌+◌}
use Rattle.block_memory.proofs.Writes.{put_live, put_gone, put_past}
use Rattle.block_memory.proofs.cells.put_cell.Goals as goal

pub returns-in-Live : goal.returns-in-Live
returns-in-Live g c = put_live c.args.value _ _ _ c.args.at c.in-At.block c.in-At.offset c.args.places (c.from.result + c.from-in-Live.result) c.in-Live.allocated c.in-Live.cells c.write_cell.new.cells c.in-At.is c.replace.ensures.now c.replace-in-Live.ensures.now c.write_cell.ensures (rw (c.from.ensures, c.from-in-Live.ensures) refl) (c.replace.ensures.was ∙ ap Some c.in-Live.is)

pub returns-in_default-replace : goal.returns-in_default-replace
returns-in_default-replace g c = put_gone c.args.value _ _ c.args.at c.in-At.block c.in-At.offset c.args.places c.in-At.is c.replace.ensures.now (c.replace.ensures.was ∙ ap Some c.in_default-replace.is)

pub returns-else-number-len : goal.returns-else-number-len
returns-else-number-len g c = put_past c.args.value _ c.args.at c.in-At.block c.in-At.offset c.args.places c.in-At.is (rw (← c.len.ensures) c.if-number-len.false)
