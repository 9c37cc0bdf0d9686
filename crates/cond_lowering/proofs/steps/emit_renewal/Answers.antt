use Rattle.std.proofs.Common.{refl}
use Rattle.cond_lowering.proofs.Adding.{told_as, seq_puts}
use Rattle.cond_lowering.proofs.steps.emit_renewal.Goals as goal

pub returns : goal.returns
returns c = told_as _ _ _ _ c.emit_store.result (seq_puts _ _ _ _ _ _ c.in_ok-emit_under.ensures (seq_puts _ _ _ _ _ _ c.in_ok-emit_renew.ensures c.emit_store.ensures)) refl
