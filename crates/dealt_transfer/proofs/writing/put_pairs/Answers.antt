use Rattle.std.proofs.Common.{sym, subst, get_or, take}
use Rattle.std.specs.List.{AllByRecursion}
use Rattle.std.proofs.lemmas.List.{take_more}
use Rattle.dealt_transfer.specs.Halves.{IsPair}
use Rattle.dealt_transfer.proofs.Pieces.{all_push}
use Rattle.dealt_transfer.proofs.Spelled.{pairs_put}
use Rattle.dealt_transfer.proofs.writing.put_pairs.Goals as goal

pub loop-first-preserved : goal.loop-first-preserved
loop-first-preserved c =
    let pairs = c.args.pairs.now in
    let i = c.loop-first.first-index in
    record {
      written = pairs_put c.args.out.now.items c.loop-first.out.items c.extend_from_slice.new.self.items c.extend_from_slice-in-loop-first.new.self.items c.label_field.result c.label_field-in-loop-first.result pairs i
          c.loop-first-test.true c.loop-first.invariant.written c.in_ok-extend_from_slice.ensures.items c.label_field.ensures.bytes c.in_ok-extend_from_slice-2.ensures.items c.label_field-in-loop-first.ensures.bytes;
      pads = subst (AllByRecursion IsPair) (sym (take_more pairs i (0, 0) c.loop-first-test.true))
          (all_push IsPair (take i pairs) (get_or pairs i (0, 0)) c.loop-first.invariant.pads (c.label_field.ensures.label, c.label_field-in-loop-first.ensures.label));
    }
