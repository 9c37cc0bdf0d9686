use Rattle.std.proofs.Common.{◌+◌}
use Rattle.gate_core.specs.Circuit.{Plays, times, then}
use Rattle.gate_core.specs.Circuit.Circuit.{meet, give}
use Rattle.word_circuits.specs.Chains.{alike}
use Rattle.word_circuits.proofs.comparisons.all_alike.Given as goal

abbrev pub invariant-places : goal.invariant-places
invariant-places g l =
    (d : _) → Plays g.G.Gates.calls (times l.i (λ i t. then (alike l.x l.y d (i + 1)) (λ z. meet t z (λ u. give u))) l.initial.all) l.initial.gates l.all l.gates
