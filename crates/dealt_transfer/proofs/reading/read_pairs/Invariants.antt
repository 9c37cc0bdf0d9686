use Rattle.std.proofs.Common.{◌≡◌, ◌*◌, length, take, drop}
use Rattle.std.specs.List.{flat_map, AllByRecursion}
use Rattle.dealt_transfer.specs.Halves.{IsPair}
use Rattle.dealt_transfer.specs.Files.{pair_bytes}
use Rattle.dealt_transfer.proofs.reading.read_pairs.Given as goal

abbrev pub invariant-loop-i : goal.invariant-loop-i
invariant-loop-i l = record {
  bytes : flat_map pair_bytes l.pairs.items ≡ take (32 * l.i) (drop l.at l.bytes);
  count : length l.pairs.items ≡ l.i;
  pads : AllByRecursion IsPair l.pairs.items;
}
