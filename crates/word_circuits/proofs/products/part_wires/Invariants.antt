use Rattle.std.proofs.Common.{◌≡◌, length}
use Rattle.gate_core.specs.Circuit.{Plays}
use Rattle.word_circuits.specs.Products.{part}
use Rattle.word_circuits.proofs.products.part_wires.Given as goal

abbrev pub invariant-places : goal.invariant-places
invariant-places g l =
    (length l.wires.items ≡ l.i)
    × ((d : _) → Plays g.G.Gates.calls (part l.x l.b d l.i) l.initial.gates l.wires.items l.gates)
