use Rattle.std.proofs.Common.{◌∙◌, sym, arith}
use Rattle.oc_values.proofs.Packs.{IsBytes, pack-unpack, padding_none_of, unpack-pack}
use Rattle.oc_values.proofs.packing.has_padding.Goals as goal

pub returns-clause-packs : goal.returns-clause-packs
returns-clause-packs c e =
    let fits : IsBytes c.args.bytes.now = λ i. omega (arith, c.type_inv.bytes i) in
    pack-unpack c.args.count c.args.bytes.now fits c.requires (sym (c.is_padded.ensures) ∙ e)

pub returns-clause-unpacks : goal.returns-clause-unpacks
returns-clause-unpacks c bits size e =
    let fits : IsBytes c.args.bytes.now = λ i. omega (arith, c.type_inv.bytes i) in (
      c.is_padded.ensures ∙ padding_none_of c.args.count c.args.bytes.now bits size e,
      unpack-pack c.args.count c.args.bytes.now bits fits c.requires size e,
    )
