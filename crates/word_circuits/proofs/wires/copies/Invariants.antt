use Rattle.std.proofs.Common.{◌≡◌, length, replicate}
use Rattle.word_circuits.proofs.wires.copies.Given as goal

abbrev pub invariant-all : goal.invariant-all
invariant-all g l = (length l.wires.items ≡ l.index) × (l.wires.items ≡ replicate l.index l.wire)
