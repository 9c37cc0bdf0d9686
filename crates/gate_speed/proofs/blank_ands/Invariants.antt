use Rattle.std.proofs.Common.{◌≡◌, length}
use Rattle.gate_speed.proofs.blank_ands.Given as goal

abbrev pub invariant-rounds : goal.invariant-rounds
invariant-rounds l = length l.word ≡ 64
