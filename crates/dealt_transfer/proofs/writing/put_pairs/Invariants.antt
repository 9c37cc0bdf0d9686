use Rattle.std.proofs.Common.{◌≡◌, ◌++◌, take}
use Rattle.std.specs.List.{AllByRecursion, flat_map}
use Rattle.dealt_transfer.specs.Halves.{IsPair}
use Rattle.dealt_transfer.specs.Files.{pair_bytes}
use Rattle.dealt_transfer.proofs.writing.put_pairs.Given as goal

abbrev pub invariant-loop-first : goal.invariant-loop-first
invariant-loop-first l = record {
  written : l.out.items ≡ l.initial.out.items ++ flat_map pair_bytes (take l.first-index l.pairs);
  pads : AllByRecursion IsPair (take l.first-index l.pairs);
}
