use Rattle.std.proofs.Common.{◌∙◌, ap, subst}
use Rattle.std.specs.List.{AllByRecursion, flat_map}
use Rattle.dealt_transfer.specs.Halves.{IsPair}
use Rattle.dealt_transfer.specs.Files.{number_bytes, pair_bytes}
use Rattle.dealt_transfer.proofs.Spelled.{sender_written}
use Rattle.dealt_transfer.proofs.writing.write_sender_half.Goals as goal

pub returns : goal.returns
returns c =
    let half = c.args.half.now in (
      record {
        tag = c.in_ok-put_tag.ensures.size;
        coin_key = c.in_ok-put_key.ensures.size;
        count = c.requires;
        pads = subst (AllByRecursion IsPair) c.as_slice.ensures c.in_ok-put_pairs.ensures.pads;
      },
      c.from_vec.ensures ∙ sender_written half c.in_ok-out.out.items c.extend_from_slice.new.self.items c.put_tag.new.out.items c.put_key.new.out.items c.extend_from_slice-2.new.self.items c.put_pairs.new.out.items c.number_field.result (flat_map pair_bytes c.as_slice.result.now)
          c.in_ok-out.ensures.items c.in_ok-extend_from_slice.ensures.items c.in_ok-put_tag.ensures.ok c.in_ok-put_key.ensures.ok c.in_ok-extend_from_slice-2.ensures.items
          (c.number_field.ensures ∙ ap number_bytes c.len-count.ensures) c.in_ok-put_pairs.ensures.ok (ap (flat_map pair_bytes) c.as_slice.ensures),
    )
