use Rattle.std.proofs.Common.{◌≡◌, ◌++◌, reverse, length}
use Rattle.typed_structs.proofs.types.turned.Given as goal

abbrev pub invariant-loop-ty : goal.invariant-loop-ty
invariant-loop-ty l = l.list ++ reverse l.left ≡ reverse l.fn.types

abbrev pub decreases-loop-ty : goal.decreases-loop-ty
decreases-loop-ty l = length l.left
