use Rattle.std.proofs.Common.{rules, ◌<◌, SFits, arith}
use Rattle.std.specs.Int.{w128}
use Rattle.std.proofs.lemmas.Int.{to_z-of_z}
use Rattle.std.proofs.lemmas.Nat.{one_shl}
use Rattle.oc_values.proofs.Ranges.{width-le}
use Rattle.oc_values.proofs.Operations.{wrap-shift}
use Rattle.oc_values.proofs.arithmetic.shift_left.Goals as goal

pub returns : goal.returns
returns c =
    let fits : SFits w128 c.wrap.result = search rules in
    let amount = c.shift_amount.result in
    let small : amount < 127 = omega (arith, c.shift_amount.ensures.below, width-le c.args.kind) in
    let value = rw (one_shl amount 128 (omega arith)) at c.wrap.ensures.value in
    let counted = rw (to_z-of_z w128 c.args.right c.ranges.right) at c.shift_amount.ensures.value in
    rw (to_z-of_z w128 c.wrap.result fits, value, wrap-shift c.args.kind c.args.left amount small c.ranges.left, counted)
