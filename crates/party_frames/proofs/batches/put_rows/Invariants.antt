use Rattle.std.proofs.Common.{◌≡◌, ◌++◌, take}
use Rattle.std.specs.List.{flat_map}
use Rattle.dealt_transfer.specs.Files.{pair_bytes}
use Rattle.party_frames.proofs.batches.put_rows.Given as goal

abbrev pub invariant-loop-tg : goal.invariant-loop-tg
invariant-loop-tg l = l.outbox ≡ l.initial.outbox ++ flat_map pair_bytes (take l.tg-index l.rows)
