use Rattle.std.proofs.Common.{◌++◌, List, ℕ, ap, sym, ◌∙◌}
use Rattle.std.specs.List.{flat_map}
use Rattle.dealt_transfer.specs.Files.{pair_bytes}
use Rattle.dealt_transfer.proofs.Pieces.{length-pairs}
use Rattle.party_frames.specs.declared.frames.FrameKind.TheVariants.{Tables}
use Rattle.party_frames.specs.Frames.{frame_bytes}
use Rattle.party_frames.proofs.Framing.{framed}
use Rattle.party_frames.proofs.batches.TableBatch.write.Goals as goal

pub returns : goal.returns
returns c =
    let rows = c.as_slice-rows.result.now in
    c.put_rows.ensures ∙ ap (λ (t : List ℕ). t ++ flat_map pair_bytes rows) c.put.ensures
    ∙ framed c.args.outbox.now c.write.result (flat_map pair_bytes rows) Tables _ c.write.ensures (sym (length-pairs rows))
    ∙ ap (λ (xs : List (ℕ × ℕ)). c.args.outbox.now ++ frame_bytes (record { kind = Tables; payload = flat_map pair_bytes xs })) (c.as_slice-rows.ensures.value ∙ c.self.view_is)
