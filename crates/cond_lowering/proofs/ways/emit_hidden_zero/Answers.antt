use Rattle.std.proofs.Common.{refl}
use Rattle.cond_lowering.proofs.Adding.{told_as, seq_puts}
use Rattle.cond_lowering.proofs.ways.emit_hidden_zero.Goals as goal

pub returns : goal.returns
returns c = told_as _ _ _ _ c.put-3.result (seq_puts _ _ _ _ _ _ c.in_ok-put.ensures (seq_puts _ _ _ _ _ _ c.in_ok-put-2.ensures c.put-3.ensures)) refl
