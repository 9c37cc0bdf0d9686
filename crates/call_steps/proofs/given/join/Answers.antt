use Rattle.std.proofs.Common.{◌∙◌, ap, length, length-append}
use Rattle.call_steps.specs.Given.{parties_sum}
use Rattle.call_steps.proofs.Giving.{given_so, sum_joined}
use Rattle.call_steps.proofs.given.join.Goals as goal

pub returns : goal.returns
returns c =
    given_so c.in_ok-args.ensures (ap parties_sum c.in_ok-parties.ensures ∙ sum_joined _ _) c.either_type-of.ensures c.either-misplaced.ensures
    (ap length c.in_ok-parties.ensures ∙ length-append _ _)
