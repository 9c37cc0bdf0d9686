use Rattle.std.proofs.Common.{rules, SFits}
use Rattle.std.specs.Int.{w128}
use Rattle.std.proofs.lemmas.Int.{to_z-of_z}
use Rattle.oc_values.proofs.Operations.{wrap-wrapping_add}
use Rattle.oc_values.proofs.arithmetic.add.Goals as goal

pub returns : goal.returns
returns c =
    let fits : SFits w128 c.wrap.result = search rules in
    rw (to_z-of_z w128 c.wrap.result fits, c.wrap.ensures.value, wrap-wrapping_add c.args.kind c.args.left c.args.right c.ranges.left c.ranges.right)
