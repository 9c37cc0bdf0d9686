use Rattle.std.proofs.Common.{◌≡◌, length}
use Rattle.word_circuits.specs.Known.{known_wires}
use Rattle.word_circuits.proofs.known.known_wires.Given as goal

abbrev pub invariant-places : goal.invariant-places
invariant-places g l = (length l.wires.items ≡ l.i) × (l.wires.items ≡ known_wires g.G.Gates.calls l.gates l.number l.i)
