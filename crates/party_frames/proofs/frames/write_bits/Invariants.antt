use Rattle.std.proofs.Common.{◌≡◌, ◌≤◌, ◌+◌, ◌++◌, length}
use Rattle.oc_values.specs.Packing.{byte_count, pack}
use Rattle.party_frames.specs.Frames.{most_frame_bytes}
use Rattle.party_frames.proofs.frames.write_bits.Given as goal

abbrev pub invariant-loop-rest : goal.invariant-loop-rest
invariant-loop-rest l = record {
  written : l.outbox ++ pack l.rest ≡ l.initial.outbox ++ pack l.bits;
  room : length l.outbox + byte_count (length l.rest) ≤ most_frame_bytes;
}

abbrev pub decreases-loop-rest : goal.decreases-loop-rest
decreases-loop-rest l = length l.rest
