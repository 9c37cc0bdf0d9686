use Rattle.std.proofs.Common.{◌≡◌, length}
use Rattle.gate_core.specs.Circuit.{Plays}
use Rattle.word_circuits.specs.Chains.{flips}
use Rattle.word_circuits.proofs.carries.flip_wires.Given as goal

abbrev pub invariant-places : goal.invariant-places
invariant-places g l =
    (length l.wires.items ≡ l.i)
    × ((d : _) → Plays g.G.Gates.calls (flips l.x d l.i) l.gates l.wires.items l.gates)
