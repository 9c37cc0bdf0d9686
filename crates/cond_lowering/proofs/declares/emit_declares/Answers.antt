use Rattle.cond_lowering.specs.Statements.{coding}
use Rattle.cond_lowering.proofs.Parts.{declares_next, declares_end}
use Rattle.cond_lowering.proofs.declares.emit_declares.Goals as goal

pub loop-i-preserved : goal.loop-i-preserved
loop-i-preserved c = declares_next (coding c.args.table.now c.args.slots.now) c.args.depth _ _ _ c.args.ds.now c.loop-i.i c.index-ds-i.result c.loop-i-test.true c.index-ds-i.is c.loop-i.invariant c.in_ok-emit_declare.ensures

pub returns : goal.returns
returns c = declares_end (coding c.args.table.now c.args.slots.now) c.args.depth _ _ c.args.ds.now c.loop-i.i c.loop-i-test.false c.loop-i.invariant
