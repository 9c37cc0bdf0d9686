use Rattle.std.proofs.Common.{◌≡◌, ◌<◌, ◌^◌, take}
use Rattle.oc_values.specs.Packing.{number_of_bits}
use Rattle.oc_values.proofs.packing.pack_byte.Given as goal

abbrev pub invariant-loop-i : goal.invariant-loop-i
invariant-loop-i l = record {
  number : l.byte ≡ number_of_bits (take l.i l.bits);
  below : l.byte < 2 ^ l.i;
}
