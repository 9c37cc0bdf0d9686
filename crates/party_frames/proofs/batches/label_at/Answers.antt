use Rattle.std.proofs.Common.{arith, ap, ◌∙◌}
use Rattle.std.proofs.lemmas.List.{take_rest}
use Rattle.byteorder.specs.Endian.{little_number}
use Rattle.oc_values.proofs.Packs.{IsBytes}
use Rattle.dealt_transfer.proofs.Pieces.{label_of_bytes}
use Rattle.party_frames.proofs.batches.label_at.Goals as goal

pub returns-clause-bytes : goal.returns-clause-bytes
returns-clause-bytes c =
    let fits : IsBytes c.args.bytes.now = λ i. omega (arith, c.type_inv.bytes i) in
    label_of_bytes c.args.bytes.now c.args.at c.read_u128.result c.requires fits
    (c.read_u128.ensures ∙ ap (little_number 16) (take_rest c.args.bytes.now c.args.at))
