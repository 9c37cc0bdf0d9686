use Rattle.std.proofs.Common.{refl}
use Rattle.cond_lowering.proofs.Adding.{told_as, seq_puts}
use Rattle.cond_lowering.proofs.steps.emit_again.Goals as goal

pub returns : goal.returns
returns c = told_as _ _ _ _ c.emit_load.result (seq_puts _ _ _ _ _ _ c.in_ok-put.ensures c.emit_load.ensures) refl
