use Rattle.std.proofs.Common.{ap, ◌∙◌}
use Rattle.type_rules.specs.Lookup.{find, variable}
use Rattle.type_steps.proofs.Steps.{said_as}
use Rattle.visible_variables.specs.Seen.{all_seen}
use Rattle.typed_expressions.proofs.leaves.named.Goals as goal

pub returns : goal.returns
returns c =
    said_as (ap (λ o. variable c.args.spot o) (c.find-found.ensures ∙ ap (λ x. find (all_seen c.args.site.now.variables.now) x) c.as_bytes.ensures)) c.variable.ensures
