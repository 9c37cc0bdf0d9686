use Rattle.std.proofs.Common.{◌≡◌, ◌++◌, length}
use Rattle.oc_values.specs.Packing.{pack}
use Rattle.oc_values.proofs.packing.pack_bits.Given as goal

abbrev pub invariant-loop-rest : goal.invariant-loop-rest
invariant-loop-rest l = l.out.items ++ pack l.rest ≡ l.initial.out.items ++ pack l.bits

abbrev pub decreases-loop-rest : goal.decreases-loop-rest
decreases-loop-rest l = length l.rest
