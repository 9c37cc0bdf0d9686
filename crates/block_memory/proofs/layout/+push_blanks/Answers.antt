use Rattle.std.proofs.Common.{ap, sym, ◌∙◌}
use Rattle.std.specs.Option.{option_copied}
use Rattle.oc_cells.specs.Layout.{leaves, or_none}
use Rattle.block_memory.proofs.Growing.{adds_none, adds_empty, copies_step, array_blanks}
use Rattle.block_memory.proofs.layout.+push_blanks.Goals as goal

pub loop-init : goal.loop-init
loop-init g t c = adds_none _

pub loop-preserved : goal.loop-preserved
loop-preserved g t c = copies_step c.args.out.now c.loop.out _ (leaves c.args.table.now c.get-of.result.now) c.loop.counter c.loop.invariant c.in_ok-push_blanks-in-Array.ensures

pub returns-after-loop : goal.returns-after-loop
returns-after-loop g t c = array_blanks c.args.table.now _ _ _ _ _ _ _ c.loop.invariant c.get-of.ensures c.loop.auto.counter-end c.loop-test.false c.in-Array.is

pub returns-in-None : goal.returns-in-None
returns-in-None g t c = adds_empty _ _ (ap (leaves c.args.table.now) c.in-Struct.is ∙ ap or_none (sym c.get.ensures ∙ ap option_copied c.in-None.is))

pub returns-in-Nothing : goal.returns-in-Nothing
returns-in-Nothing g t c = adds_empty _ _ (ap (leaves c.args.table.now) c.in-Nothing.is)
