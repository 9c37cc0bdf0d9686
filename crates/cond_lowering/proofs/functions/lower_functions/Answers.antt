use Rattle.std.proofs.Common.{◌∙◌, ap}
use Rattle.std.proofs.lemmas.List.{take_all}
use Rattle.oc_code.specs.Lower.{functions_code}
use Rattle.cond_lowering.proofs.Loops.{functions_next}
use Rattle.cond_lowering.proofs.functions.lower_functions.Goals as goal

pub loop-i-preserved : goal.loop-i-preserved
loop-i-preserved c = functions_next c.args.table.now c.args.fs.now c.loop-i.i c.index-fs-i.result _ _ c.loop-i-test.true c.index-fs-i.is c.loop-i.invariant (rw c.in_ok-new.ensures at c.in_ok-push.ensures.ok)

pub returns : goal.returns
returns c = c.loop-i.invariant ∙ ap (λ fs. functions_code c.args.table.now fs) (take_all c.loop-i.i c.args.fs.now c.loop-i-test.false)
