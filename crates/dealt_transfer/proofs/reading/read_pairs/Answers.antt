use Rattle.std.proofs.Common.{◌∷◌, [], arith, length-append}
use Rattle.dealt_transfer.specs.Halves.{IsPair}
use Rattle.dealt_transfer.proofs.Pieces.{pairs_step, all_push}
use Rattle.dealt_transfer.proofs.reading.read_pairs.Goals as goal

pub loop-i-preserved : goal.loop-i-preserved
loop-i-preserved c =
    let more = c.in_ok-push.ensures.items in
    record {
      bytes = rw more (pairs_step c.args.at c.loop-i.i c.label_at.result c.label_at-in-loop-i.result c.args.bytes.now c.loop-i.pairs.items c.loop-i.invariant.bytes c.label_at.ensures.bytes c.label_at-in-loop-i.ensures.bytes);
      count = rw more (omega (arith, length-append c.loop-i.pairs.items ((c.label_at.result, c.label_at-in-loop-i.result) ∷ [])));
      pads = rw more (all_push IsPair c.loop-i.pairs.items (c.label_at.result, c.label_at-in-loop-i.result) c.loop-i.invariant.pads (c.label_at.ensures.label, c.label_at-in-loop-i.ensures.label));
    }
