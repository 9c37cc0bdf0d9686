use Rattle.std.proofs.Common.{◌∷◌, [], arith, length-append}
use Rattle.dealt_transfer.specs.Halves.{IsLabel}
use Rattle.dealt_transfer.proofs.Pieces.{labels_step, all_push}
use Rattle.dealt_transfer.proofs.reading.read_labels.Goals as goal

pub loop-i-preserved : goal.loop-i-preserved
loop-i-preserved c =
    let more = c.in_ok-push.ensures.items in
    record {
      bytes = rw more (labels_step c.args.at c.loop-i.i c.label_at.result c.args.bytes.now c.loop-i.labels.items c.loop-i.invariant.bytes c.label_at.ensures.bytes);
      count = rw more (omega (arith, length-append c.loop-i.labels.items (c.label_at.result ∷ [])));
      pads = rw more (all_push IsLabel c.loop-i.labels.items c.label_at.result c.loop-i.invariant.pads c.label_at.ensures.label);
    }
