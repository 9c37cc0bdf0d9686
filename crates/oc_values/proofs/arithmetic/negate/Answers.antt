use Rattle.std.proofs.Common.{rules, SFits, neg_ℤ, ap, ◌∙◌}
use Rattle.std.specs.Int.{w128}
use Rattle.std.proofs.lemmas.Int.{to_z-of_z, wrapping_neg_is}
use Rattle.oc_values.specs.Integers.{wrap}
use Rattle.oc_values.proofs.Operations.{wrap-int_wrap}
use Rattle.oc_values.proofs.arithmetic.negate.Goals as goal

pub returns : goal.returns
returns c =
    let fits : SFits w128 c.wrap.result = search rules in
    let fits2 : SFits w128 c.wrapping_neg.result = search rules in
    rw (to_z-of_z w128 c.wrap.result fits, c.wrap.ensures.value, to_z-of_z w128 c.wrapping_neg.result fits2, c.wrapping_neg.ensures, to_z-of_z w128 c.args.value c.ranges.value) (ap (wrap c.args.kind) (wrapping_neg_is w128 c.args.value c.ranges.value) ∙ wrap-int_wrap c.args.kind (neg_ℤ c.args.value))
