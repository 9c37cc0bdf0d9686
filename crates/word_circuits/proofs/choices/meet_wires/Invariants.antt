use Rattle.std.proofs.Common.{◌≡◌, length}
use Rattle.gate_core.specs.Circuit.{Plays}
use Rattle.word_circuits.specs.Choices.{meet_circuit}
use Rattle.word_circuits.proofs.choices.meet_wires.Given as goal

abbrev pub invariant-places : goal.invariant-places
invariant-places g l =
    (length l.wires.items ≡ l.i)
    × ((d : _) → Plays g.G.Gates.calls (meet_circuit l.i l.x l.y d) l.initial.gates l.wires.items l.gates)
