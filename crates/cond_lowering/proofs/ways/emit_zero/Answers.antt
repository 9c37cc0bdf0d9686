use Rattle.std.proofs.Common.{refl}
use Rattle.cond_lowering.proofs.Adding.{told_as, seq_puts}
use Rattle.cond_lowering.proofs.ways.emit_zero.Goals as goal

pub returns : goal.returns
returns c = told_as _ _ _ _ c.put-2.result (seq_puts _ _ _ _ _ _ c.in_ok-put.ensures c.put-2.ensures) refl
