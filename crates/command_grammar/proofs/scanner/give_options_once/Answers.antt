use Rattle.command_grammar.specs.Views.{commands_of}
use Rattle.command_grammar.proofs.Once.{gives_once}
use Rattle.command_grammar.proofs.scanner.give_options_once.Goals as goal

pub returns : goal.returns
returns g c = gives_once (commands_of c.args.table.now) c.requires
