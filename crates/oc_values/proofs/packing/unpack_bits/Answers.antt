use Rattle.std.proofs.Common.{◌++◌, ◌∷◌, [], List, Bool, arith, sym, ap, ◌∙◌}
use Rattle.std.proofs.lemmas.List.FromFn.{map-range_with_len_more}
use Rattle.oc_values.specs.Packing.{bit_in}
use Rattle.oc_values.proofs.packing.unpack_bits.Goals as goal

pub loop-i-preserved : goal.loop-i-preserved
loop-i-preserved c =
    let read = bit_in c.args.bytes.now in
    c.in_ok-push.ensures.items ∙ ap (λ (b : Bool). c.loop-i.bits.items ++ b ∷ []) c.bit_at.ensures ∙ ap (λ (t : List Bool). t ++ read c.loop-i.i ∷ []) c.loop-i.invariant
    ∙ sym (map-range_with_len_more read 0 c.loop-i.i c.loop-i.i (omega arith))
