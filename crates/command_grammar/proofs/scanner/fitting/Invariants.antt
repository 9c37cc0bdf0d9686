use Rattle.std.proofs.Common.{◌≡◌, ◌+◌, ◌-◌, ◌≤◌, drop, length}
use Rattle.command_grammar.specs.Grammar.{texts}
use Rattle.command_grammar.specs.Scanning.{fitting}
use Rattle.command_grammar.proofs.scanner.fitting.Given as goal

abbrev pub invariant-loop-count : goal.invariant-loop-count
invariant-loop-count l = record {
  value : fitting l.operands (texts l.words) ≡ l.count + fitting (drop l.count l.operands) (drop l.count (texts l.words));
  within : l.count ≤ length l.words;
}

abbrev pub decreases-loop-count : goal.decreases-loop-count
decreases-loop-count l = length l.operands - l.count
