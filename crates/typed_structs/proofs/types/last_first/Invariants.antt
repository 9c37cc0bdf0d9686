use Rattle.std.proofs.Common.{◌≡◌, ◌++◌, reverse, length}
use Rattle.written_types.specs.Shapes.{types}
use Rattle.typed_structs.proofs.types.last_first.Given as goal

abbrev pub invariant-loop-shape : goal.invariant-loop-shape
invariant-loop-shape l = l.list ++ reverse (types l.left) ≡ reverse (types l.fn.shapes)

abbrev pub decreases-loop-shape : goal.decreases-loop-shape
decreases-loop-shape l = length l.left
