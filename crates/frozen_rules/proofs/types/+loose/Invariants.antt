use Rattle.std.proofs.Common.{◌≡◌, ◌+◌, ◌*◌, take, drop}
use Rattle.oc_cells.specs.Types.{public_structs}
use Rattle.oc_cells.specs.Layout.{field_leaves, struct_leaves}
use Rattle.scope_rules.specs.Frozen.{some_loose}
use Rattle.frozen_rules.proofs.types.+loose.Given as goal

abbrev pub decreases-field_has_loose : goal.decreases-field_has_loose
decreases-field_has_loose l = 2 * l.number

abbrev pub decreases-struct_has_loose : goal.decreases-struct_has_loose
decreases-struct_has_loose l = 2 * l.number + 1

abbrev pub invariant-struct_has_loose-loop-field : goal.invariant-struct_has_loose-loop-field
invariant-struct_has_loose-loop-field l =
    some_loose (public_structs l.structs) (field_leaves (take l.number (struct_leaves l.structs)) (drop l.field-index l.field-items))
    ≡ some_loose (public_structs l.structs) (field_leaves (take l.number (struct_leaves l.structs)) l.field-items)
