use Rattle.std.proofs.Common.{◌≡◌, ◌*◌, length, take}
use Rattle.std.specs.List.{AllByRecursion, flat_map}
use Rattle.dealt_transfer.specs.Files.{pair_bytes}
use Rattle.dealt_transfer.specs.Halves.{IsPair}
use Rattle.party_frames.proofs.batches.fill_rows.Given as goal

abbrev pub invariant-loop-i : goal.invariant-loop-i
invariant-loop-i l = record {
  bytes : flat_map pair_bytes l.rows.items ≡ take (32 * l.i) l.payload;
  count : length l.rows.items ≡ l.i;
  labels : AllByRecursion IsPair l.rows.items;
}
