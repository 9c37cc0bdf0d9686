use Rattle.std.proofs.Common.{◌≡◌, drop, None}
use Rattle.typed_headings.specs.Order.{ordered_after}
use Rattle.typed_headings.proofs.structs.are_ordered.Given as goal

abbrev pub invariant-loop-def : goal.invariant-loop-def
invariant-loop-def l = ordered_after l.last (drop l.def-index l.defs) ≡ ordered_after None l.defs
