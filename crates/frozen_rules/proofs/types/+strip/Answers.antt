use Rattle.std.proofs.Common.{◌∙◌, ap}
use Rattle.frozen_rules.specs.Types.{stripped}
use Rattle.frozen_rules.proofs.Forms.{stripped_array}
use Rattle.frozen_rules.proofs.types.+strip.Goals as goal

pub returns-in-Array : goal.returns-in-Array
returns-in-Array t c = rw (c.in-Array.is, stripped_array c.in-Array.len c.in-Array.of) (c.strip.ensures ∙ ap (λ x. stripped x) c.get.ensures)
