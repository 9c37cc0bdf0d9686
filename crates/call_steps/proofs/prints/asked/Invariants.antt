use Rattle.std.proofs.Common.{◌≡◌, ◌++◌, drop}
use Rattle.type_rules.specs.Prints.{asked}
use Rattle.call_steps.proofs.prints.asked.Given as goal

abbrev pub invariant-loop-piece : goal.invariant-loop-piece
invariant-loop-piece l = l.kinds ++ asked (drop l.piece-index l.piece-items) ≡ asked l.piece-items
