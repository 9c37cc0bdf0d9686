use Rattle.std.proofs.Common.{ap}
use Rattle.type_rules.specs.Written.{param_of}
use Rattle.type_steps.proofs.Steps.{said_as}
use Rattle.written_types.specs.Known.{lookup}
use Rattle.written_types.proofs.headings.param_slot.Goals as goal

pub returns : goal.returns
returns c =
    said_as (ap (λ n. param_of (lookup c.args.known.now) c.args.param.now.base n c.args.param.now.array) c.more_stars-stars.ensures) c.param_of.ensures
