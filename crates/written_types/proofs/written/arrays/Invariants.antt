use Rattle.std.proofs.Common.{◌≡◌, ◌≤◌, length, take}
use Rattle.type_rules.specs.Written.{arrays}
use Rattle.written_types.proofs.written.arrays.Given as goal

abbrev pub invariant-outward : goal.invariant-outward
invariant-outward l = record { within : l.at ≤ length l.dims; rest : arrays (take l.at l.dims) l.ty ≡ arrays l.dims l.fn.ty }

abbrev pub decreases-outward : goal.decreases-outward
decreases-outward l = l.at
