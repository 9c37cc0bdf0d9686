use Rattle.std.proofs.Common.{◌≡◌, drop}
use Rattle.command_grammar.specs.Scanning.{option_of}
use Rattle.command_grammar.specs.Views.{command_options_of}
use Rattle.command_grammar.proofs.scanner.takes.Given as goal

abbrev pub invariant-loop-option : goal.invariant-loop-option
invariant-loop-option l = option_of (command_options_of l.options) l.name l.value ≡ option_of (command_options_of (drop l.option-index l.options)) l.name l.value
