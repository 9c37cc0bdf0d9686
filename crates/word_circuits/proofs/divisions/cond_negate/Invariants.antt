use Rattle.std.proofs.Common.{◌≡◌, [], length}
use Rattle.gate_core.specs.Circuit.{Plays, times}
use Rattle.word_circuits.specs.Divisions.{negate_step}
use Rattle.word_circuits.proofs.divisions.cond_negate.Given as goal

abbrev pub invariant-places : goal.invariant-places
invariant-places g l =
    (length l.wires.items ≡ l.i)
    × ((d : _) → Plays g.G.Gates.calls (times l.i (negate_step l.x l.b d) (record { sums = []; carry = l.b })) l.initial.gates (record { sums = l.wires.items; carry = l.carry }) l.gates)
