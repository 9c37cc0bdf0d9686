use Rattle.std.proofs.Common.{◌≡◌, take}
use Rattle.cond_lowering.proofs.functions.copy_slots.Given as goal

abbrev pub invariant-loop-i : goal.invariant-loop-i
invariant-loop-i l = l.copy ≡ take l.i l.slots
