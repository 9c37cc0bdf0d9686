use Rattle.typed_headings.specs.Judging.{heading_lookup, heading_added, listed}
use Rattle.typed_headings.proofs.InTurn.{Left}
use Rattle.std.proofs.Common.{[]}
use Rattle.typed_headings.specs.InTurn.{in_turn}
use Rattle.typed_headings.proofs.headings.type_headings.Given as goal

abbrev pub invariant-loop-function : goal.invariant-loop-function
invariant-loop-function l =
    let step = heading_added (heading_lookup l.structs) l.structs.names.now.defs.now in
    Left step (in_turn step [] l.function-items) l.function-items l.function-index (listed l.headings)
