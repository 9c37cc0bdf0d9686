use Rattle.std.proofs.Common.{rules, ap, SFits}
use Rattle.std.specs.Int.{w128, cast_unsigned}
use Rattle.std.proofs.lemmas.Int.{to_z-of_z}
use Rattle.oc_values.specs.Integers.{wrap}
use Rattle.oc_values.proofs.Operations.{remainder-is}
use Rattle.oc_values.proofs.arithmetic.remainder.Goals as goal

pub returns : goal.returns
returns c =
    let fits : SFits w128 c.wrap-2.result = search rules in
    let fits2 : SFits w128 c.wrapping_rem.result = search rules in
    rw (to_z-of_z w128 c.wrap-2.result fits, c.wrap-2.ensures.value, to_z-of_z w128 c.wrapping_rem.result fits2, c.wrapping_rem.ensures, to_z-of_z w128 c.args.left c.ranges.left, to_z-of_z w128 c.args.right c.ranges.right) (ap (wrap c.args.kind) (remainder-is c.args.left c.args.right (λ e. c.if-right-eq0.false (ap (cast_unsigned w128) e))))
