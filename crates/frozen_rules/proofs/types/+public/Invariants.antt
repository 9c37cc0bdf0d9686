use Rattle.std.proofs.Common.{◌≡◌, ◌+◌, ◌*◌, take, drop}
use Rattle.oc_cells.specs.Types.{some_public, public_structs}
use Rattle.frozen_rules.proofs.types.+public.Given as goal

abbrev pub decreases-field_has_public : goal.decreases-field_has_public
decreases-field_has_public l = 2 * l.number

abbrev pub decreases-struct_has_public : goal.decreases-struct_has_public
decreases-struct_has_public l = 2 * l.number + 1

abbrev pub invariant-struct_has_public-loop-field : goal.invariant-struct_has_public-loop-field
invariant-struct_has_public-loop-field l =
    some_public (take l.number (public_structs l.structs)) (drop l.field-index l.field-items) ≡ some_public (take l.number (public_structs l.structs)) l.field-items
