use Rattle.std.proofs.Common.{◌≡◌, drop}
use Rattle.type_rules.specs.Calls.{types_of}
use Rattle.type_rules.specs.Written.{same_types}
use Rattle.typed_headings.proofs.agreeing.same_types.Given as goal

abbrev pub invariant-loop-i : goal.invariant-loop-i
invariant-loop-i l = same_types (types_of (drop l.i l.slots)) (types_of (drop l.i l.others)) ≡ same_types (types_of l.slots) (types_of l.others)
