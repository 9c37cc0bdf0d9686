use Rattle.oc_cells.specs.Types.{public_structs}
use Rattle.frozen_rules.proofs.Forms.{unfreezes_kept, unfreezes_null, unfreezes_other}
use Rattle.frozen_rules.proofs.types.unfreezes_to.Goals as goal

pub returns-then-is_frozen_here : goal.returns-then-is_frozen_here
returns-then-is_frozen_here c =
    unfreezes_kept (public_structs c.args.structs.now) c.args.frozen _ c.args.from.now c.in-Pointer.to c.args.target.now _ c.in-Pointer.is c.is_frozen_here.ensures c.if-is_frozen_here.true

pub returns-then-not-is_nothing : goal.returns-then-not-is_nothing
returns-then-not-is_nothing c =
    unfreezes_other (public_structs c.args.structs.now) c.args.frozen _ c.args.from.now c.in-Pointer.to c.args.target.now _ _ _ _ _ c.in-Pointer.is c.is_frozen_here.ensures c.if-is_frozen_here.false
    c.is_nothing.ensures c.get.ensures c.if-not-is_nothing.true c.is_type_here.ensures c.get-then-not-is_nothing.ensures

pub returns-else-not-is_nothing : goal.returns-else-not-is_nothing
returns-else-not-is_nothing c =
    unfreezes_null (public_structs c.args.structs.now) c.args.frozen _ c.args.from.now c.in-Pointer.to c.args.target.now _ _ _ c.in-Pointer.is c.is_frozen_here.ensures c.if-is_frozen_here.false
    c.is_nothing.ensures c.get.ensures c.if-not-is_nothing.false
