use Rattle.std.proofs.Common.{ap}
use Rattle.type_rules.specs.Operators.{field_at}
use Rattle.type_steps.proofs.Steps.{said_as}
use Rattle.written_types.proofs.fields.place_field.Goals as goal

pub returns : goal.returns
returns c = said_as (ap (λ o. field_at c.args.spot c.args.place o) c.field_in-found.ensures) c.field_at.ensures
