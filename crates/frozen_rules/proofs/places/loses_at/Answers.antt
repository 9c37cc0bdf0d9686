use Rattle.scope_rules.specs.Frozen.{from_frozen}
use Rattle.frozen_rules.specs.Scopes.{facts_of, around}
use Rattle.frozen_rules.proofs.Forms.{stays_else}
use Rattle.frozen_rules.proofs.places.loses_at.Goals as goal

pub returns-in_default : goal.returns-in_default
returns-in_default c =
    let g = around c.args.typed.now c.args.f.now in
    stays_else g (from_frozen g (facts_of c.args.w) c.args.e.now.node) c.args.e.now.ty c.args.to.now c.in_default.not-Pointer c.in_default.not-Struct
