use Rattle.std.proofs.Common.{◌≡◌, ◌++◌, take}
use Rattle.std.specs.List.{flat_map}
use Rattle.dealt_transfer.specs.Files.{label_bytes}
use Rattle.dealt_transfer.proofs.writing.put_labels.Given as goal

abbrev pub invariant-loop-label : goal.invariant-loop-label
invariant-loop-label l = l.out.items ≡ l.initial.out.items ++ flat_map label_bytes (take l.label-index l.labels)
