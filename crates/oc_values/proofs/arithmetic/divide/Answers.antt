use Rattle.std.proofs.Common.{rules, ap, SFits}
use Rattle.std.specs.Int.{w128, cast_unsigned}
use Rattle.std.proofs.lemmas.Int.{to_z-of_z}
use Rattle.oc_values.specs.Integers.{is_signed}
use Rattle.oc_values.proofs.Operations.{wrap-quotient}
use Rattle.oc_values.proofs.arithmetic.divide.Goals as goal

pub returns : goal.returns
returns c =
    let fits : SFits w128 c.wrap-2.result = search rules in
    let fits2 : SFits w128 c.wrapping_div.result = search rules in
    rw (to_z-of_z w128 c.wrap-2.result fits, c.wrap-2.ensures.value, to_z-of_z w128 c.wrapping_div.result fits2, c.wrapping_div.ensures, to_z-of_z w128 c.args.left c.ranges.left, to_z-of_z w128 c.args.right c.ranges.right) (wrap-quotient c.args.kind (is_signed c.args.kind) c.args.left c.args.right (λ e. c.if-right-eq0.false (ap (cast_unsigned w128) e)) c.ranges.left)
