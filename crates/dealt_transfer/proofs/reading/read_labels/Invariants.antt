use Rattle.std.proofs.Common.{◌≡◌, ◌*◌, length, take, drop}
use Rattle.std.specs.List.{flat_map, AllByRecursion}
use Rattle.dealt_transfer.specs.Halves.{IsLabel}
use Rattle.dealt_transfer.specs.Files.{label_bytes}
use Rattle.dealt_transfer.proofs.reading.read_labels.Given as goal

abbrev pub invariant-loop-i : goal.invariant-loop-i
invariant-loop-i l = record {
  bytes : flat_map label_bytes l.labels.items ≡ take (16 * l.i) (drop l.at l.bytes);
  count : length l.labels.items ≡ l.i;
  pads : AllByRecursion IsLabel l.labels.items;
}
