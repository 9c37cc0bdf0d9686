use Rattle.std.proofs.Common.{◌≡◌, length}
use Rattle.gate_core.specs.Circuit.{Plays}
use Rattle.word_circuits.specs.Chains.{chain}
use Rattle.word_circuits.proofs.carries.chain.Given as goal

abbrev pub invariant-places : goal.invariant-places
invariant-places g l =
    (length l.sums.items ≡ l.i)
    × ((d : _) → Plays g.G.Gates.calls (chain l.x l.y d l.fn.carry l.i) l.initial.gates (record { sums = l.sums.items; carry = l.held }) l.gates)
