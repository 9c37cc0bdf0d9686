use Rattle.std.proofs.Common.{refl}
use Rattle.cond_lowering.proofs.Adding.{told_as, seq_puts}
use Rattle.cond_lowering.proofs.steps.emit_keeping.Goals as goal

pub returns : goal.returns
returns c = told_as _ _ _ _ c.emit_ready.result (seq_puts _ _ _ _ _ _ c.in_ok-emit_again.ensures (seq_puts _ _ _ _ _ _ c.in_ok-put.ensures (seq_puts _ _ _ _ _ _ c.in_ok-emit_again-2.ensures c.emit_ready.ensures))) refl
