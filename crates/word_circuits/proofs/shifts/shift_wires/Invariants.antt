use Rattle.std.proofs.Common.{◌≡◌, length}
use Rattle.gate_core.specs.Circuit.{Plays, times}
use Rattle.word_circuits.specs.Choices.{shift_step}
use Rattle.word_circuits.proofs.shifts.shift_wires.Given as goal

abbrev pub invariant-rounds : goal.invariant-rounds
invariant-rounds g l =
    (length l.shifted.items ≡ length l.x)
    × Plays g.G.Gates.calls (times l.k (shift_step l.left l.signed (length l.x) l.amount l.zero) l.initial.shifted.items) l.initial.gates l.shifted.items l.gates
