use Rattle.std.proofs.Common.{◌≡◌}
use Rattle.oc_values.specs.Packing.{unpack}
use Rattle.oc_values.proofs.packing.unpack_bits.Given as goal

abbrev pub invariant-loop-i : goal.invariant-loop-i
invariant-loop-i l = l.bits.items ≡ unpack l.i l.bytes
