use Rattle.std.proofs.Common.{◌≤◌, ◌+◌, ◌-◌, take, length, List}
use Rattle.command_grammar.specs.Grammar.{Given, Reads, texts}
use Rattle.command_grammar.specs.Scanning.{operands_in}
use Rattle.command_grammar.specs.Views.{command_of}
use Rattle.command_grammar.proofs.scanner.option_fault.Given as goal

abbrev pub invariant-loop-at : goal.invariant-loop-at
invariant-loop-at g l = record {
  from : 1 + length l.command.operands.now ≤ l.at;
  within : l.at ≤ length l.words;
  read : (given : List Given) × Reads (command_of l.command) (take l.at (texts l.words)) (operands_in (command_of l.command) (texts l.words)) given;
}

abbrev pub decreases-loop-at : goal.decreases-loop-at
decreases-loop-at g l = length l.words - l.at
