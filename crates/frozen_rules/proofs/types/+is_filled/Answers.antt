use Rattle.frozen_rules.proofs.Forms.{elements_array, filled_so}
use Rattle.frozen_rules.proofs.types.+is_filled.Goals as goal

pub returns-then-len-ne0 : goal.returns-then-len-ne0
returns-then-len-ne0 t c = rw (c.in-Array.is, elements_array c.in-Array.len c.in-Array.of) (filled_so _ _ _ _ c.if-len-ne0.true c.is_filled.ensures c.get.ensures)
