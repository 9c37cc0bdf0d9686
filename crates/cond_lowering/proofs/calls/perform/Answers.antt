use Rattle.std.proofs.Common.{◌∙◌, sym, length}
use Rattle.cond_lowering.specs.Forms.{first_source}
use Rattle.cond_lowering.proofs.Adding.{told_as}
use Rattle.cond_lowering.proofs.Loops.{performed_so, wrong_so}
use Rattle.cond_lowering.proofs.calls.perform.Goals as goal

pub returns-then-takes : goal.returns-then-takes
returns-then-takes c = told_as _ _ _ _ c.emit_performed.result (rw c.first_source-source.ensures at c.emit_performed.ensures) (performed_so c.args.spot c.args.ty.now (first_source c.args.args.now) c.args.which.now (length c.args.args.now) (sym c.takes.ensures ∙ c.if-takes.true))

pub returns : goal.returns
returns c = told_as _ _ _ _ c.emit_wrong.result c.emit_wrong.ensures (wrong_so c.args.spot c.args.ty.now (first_source c.args.args.now) c.args.which.now (length c.args.args.now) (sym c.takes.ensures ∙ c.if-takes.false))
