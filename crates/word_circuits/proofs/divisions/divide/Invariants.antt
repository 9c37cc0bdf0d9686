use Rattle.std.proofs.Common.{◌≡◌, [], ◌∷◌, ◌++◌, length}
use Rattle.gate_core.specs.Circuit.{Plays, times}
use Rattle.word_circuits.specs.Divisions.{divide_step}
use Rattle.word_circuits.proofs.divisions.divide.Given as goal

abbrev pub invariant-bits : goal.invariant-bits
invariant-bits g l =
    (length l.quotient.items ≡ l.i)
    × (length l.rest.items ≡ length l.x)
    × Plays g.G.Gates.calls (times l.i (divide_step (length l.x) l.x (l.turned.items ++ l.above ∷ []) l.one) (record { quotient = []; rest = l.initial.rest.items }))
    l.initial.gates (record { quotient = l.quotient.items; rest = l.rest.items }) l.gates
