use Rattle.std.proofs.Common.{◌∙◌, ap, subst}
use Rattle.std.specs.List.{AllByRecursion, flat_map}
use Rattle.dealt_transfer.specs.Halves.{IsLabel, receiver}
use Rattle.oc_values.specs.Packing.{pack}
use Rattle.dealt_transfer.specs.Files.{number_bytes, label_bytes}
use Rattle.dealt_transfer.proofs.Spelled.{receiver_written}
use Rattle.dealt_transfer.proofs.writing.write_receiver_half.Goals as goal

pub returns : goal.returns
returns c =
    let half = c.args.half.now in (
      record {
        tag = c.in_ok-put_tag.ensures.size;
        count = c.requires;
        bits = half.one_length;
        pads = subst (AllByRecursion IsLabel) c.as_slice-2.ensures c.in_ok-put_labels.ensures.pads;
      },
      c.from_vec.ensures ∙ receiver_written (receiver half) c.in_ok-out.out.items c.extend_from_slice.new.self.items c.put_tag.new.out.items c.extend_from_slice-2.new.self.items c.pack_bits.new.out.items c.put_labels.new.out.items c.number_field.result
          (pack c.as_slice.result.now) (flat_map label_bytes c.as_slice-2.result.now)
          c.in_ok-out.ensures.items c.in_ok-extend_from_slice.ensures.items c.in_ok-put_tag.ensures.ok c.in_ok-extend_from_slice-2.ensures.items
          (c.number_field.ensures ∙ ap number_bytes c.len-count.ensures) c.in_ok-pack_bits.ensures (ap pack c.as_slice.ensures) c.in_ok-put_labels.ensures.ok (ap (flat_map label_bytes) c.as_slice-2.ensures),
    )
