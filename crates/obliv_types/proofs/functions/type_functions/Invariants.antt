use Rattle.std.proofs.Common.{[]}
use Rattle.typed_headings.specs.InTurn.{in_turn}
use Rattle.typed_headings.proofs.InTurn.{Left}
use Rattle.obliv_types.specs.Functions.{body_lookup, function_added}
use Rattle.obliv_types.proofs.functions.type_functions.Given as goal

abbrev pub invariant-loop-function : goal.invariant-loop-function
invariant-loop-function l =
    let step = function_added (body_lookup l.structs l.bodies.headings) l.structs.names.now.defs.now l.bodies.headings in
    Left step (in_turn step [] l.function-items) l.function-items l.function-index l.typed
