use Rattle.std.proofs.Common.{◌≡◌, drop}
use Rattle.command_grammar.specs.Scanning.{command_named}
use Rattle.command_grammar.specs.Views.{commands_of}
use Rattle.command_grammar.proofs.scanner.command_named.Given as goal

abbrev pub invariant-loop-command : goal.invariant-loop-command
invariant-loop-command g l = command_named (commands_of l.table) l.name ≡ command_named (commands_of (drop l.command-index l.table)) l.name
