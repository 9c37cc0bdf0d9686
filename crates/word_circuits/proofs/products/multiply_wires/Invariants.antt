use Rattle.std.proofs.Common.{◌≡◌, length}
use Rattle.gate_core.specs.Circuit.{Plays, times}
use Rattle.word_circuits.specs.Products.{multiply_step}
use Rattle.word_circuits.proofs.products.multiply_wires.Given as goal

abbrev pub invariant-rows : goal.invariant-rows
invariant-rows g l =
    (length l.sum.items ≡ length l.x)
    × ((d : _) → Plays g.G.Gates.calls (times l.j (multiply_step (length l.x) l.x l.y d) l.initial.sum.items) l.initial.gates l.sum.items l.gates)
