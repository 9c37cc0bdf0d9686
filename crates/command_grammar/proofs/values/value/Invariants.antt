use Rattle.std.proofs.Common.{◌≡◌, ◌≤◌, ◌-◌, length, drop}
use Rattle.command_grammar.specs.Grammar.{texts}
use Rattle.command_grammar.specs.Reading.{value_after}
use Rattle.command_grammar.proofs.values.value.Given as goal

abbrev pub invariant-loop-at : goal.invariant-loop-at
invariant-loop-at l = record { within : l.at ≤ length l.pairs; left : value_after (texts l.pairs) l.name ≡ value_after (drop l.at (texts l.pairs)) l.name }

abbrev pub decreases-loop-at : goal.decreases-loop-at
decreases-loop-at l = length l.pairs - l.at
