use Rattle.std.proofs.Common.{rules, SFits, negsuc}
use Rattle.std.specs.Int.{w128}
use Rattle.std.proofs.lemmas.Int.{to_z-of_z}
use Rattle.oc_values.proofs.Operations.{wrap-wrapping_sub}
use Rattle.oc_values.proofs.arithmetic.flip.Goals as goal

pub returns : goal.returns
returns c =
    let fits : SFits w128 c.wrap.result = search rules in
    rw (to_z-of_z w128 c.wrap.result fits, c.wrap.ensures.value, wrap-wrapping_sub c.args.kind (negsuc 0) c.args.value (search rules) c.ranges.value)
