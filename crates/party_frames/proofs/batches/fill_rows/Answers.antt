use Rattle.std.proofs.Common.{◌∷◌, [], arith, length-append}
use Rattle.dealt_transfer.specs.Halves.{IsPair}
use Rattle.dealt_transfer.proofs.Pieces.{all_push}
use Rattle.party_frames.proofs.Framing.{rows_step}
use Rattle.party_frames.proofs.batches.fill_rows.Goals as goal

pub loop-i-preserved : goal.loop-i-preserved
loop-i-preserved c =
    let rows = c.loop-i.rows.items in
    let more = c.push.ensures.items in
    record {
      bytes = rw more (rows_step c.loop-i.i c.label_at.result c.label_at-in-loop-i.result c.args.payload.now rows c.loop-i.invariant.bytes c.label_at.ensures.bytes c.label_at-in-loop-i.ensures.bytes);
      count = rw more (omega (arith, length-append rows ((c.label_at.result, c.label_at-in-loop-i.result) ∷ [])));
      labels = rw more (all_push IsPair rows (c.label_at.result, c.label_at-in-loop-i.result) c.loop-i.invariant.labels (c.label_at.ensures.label, c.label_at-in-loop-i.ensures.label));
    }
