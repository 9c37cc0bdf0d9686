use Rattle.std.proofs.Common.{refl}
use Rattle.cond_lowering.proofs.Adding.{told_as, seq_puts}
use Rattle.cond_lowering.proofs.declares.emit_value.Goals as goal

pub returns : goal.returns
returns c = told_as _ _ _ _ c.emit_init.result (seq_puts _ _ _ _ _ _ c.in_ok-put.ensures (seq_puts _ _ _ _ _ _ c.in_ok-emit_expr.ensures c.emit_init.ensures)) refl
