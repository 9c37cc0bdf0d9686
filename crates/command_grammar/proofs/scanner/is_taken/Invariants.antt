use Rattle.std.proofs.Common.{◌≡◌, ◌≤◌, ◌-◌, length, drop}
use Rattle.command_grammar.specs.Grammar.{texts, has}
use Rattle.command_grammar.specs.Scanning.{slots_in}
use Rattle.command_grammar.specs.Views.{command_options_of}
use Rattle.command_grammar.proofs.scanner.is_taken.Given as goal

abbrev pub invariant-loop-at : goal.invariant-loop-at
invariant-loop-at l = record { within : l.at ≤ length l.pairs; left : has (slots_in (command_options_of l.options) (texts l.pairs)) l.slot ≡ has (slots_in (command_options_of l.options) (drop l.at (texts l.pairs))) l.slot }

abbrev pub decreases-loop-at : goal.decreases-loop-at
decreases-loop-at l = length l.pairs - l.at
