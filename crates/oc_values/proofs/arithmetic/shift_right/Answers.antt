use Rattle.std.proofs.Common.{rules, ◌<◌, SFits, arith}
use Rattle.std.specs.Int.{w128}
use Rattle.std.proofs.lemmas.Int.{to_z-of_z}
use Rattle.oc_values.proofs.Ranges.{width-le}
use Rattle.oc_values.proofs.Operations.{shifted_one}
use Rattle.oc_values.proofs.arithmetic.shift_right.Goals as goal

pub returns : goal.returns
returns c =
    let fits : SFits w128 c.wrap.result = search rules in
    let shifted : SFits w128 c.div_euclid.result = search rules in
    let amount = c.shift_amount.result in
    let small : amount < 127 = omega (arith, c.shift_amount.ensures.below, width-le c.args.kind) in
    let quotient = rw (shifted_one amount small, to_z-of_z w128 c.args.left c.ranges.left) at c.div_euclid.ensures in
    let counted = rw (to_z-of_z w128 c.args.right c.ranges.right) at c.shift_amount.ensures.value in
    rw (to_z-of_z w128 c.wrap.result fits, c.wrap.ensures.value, to_z-of_z w128 c.div_euclid.result shifted, quotient, counted)
