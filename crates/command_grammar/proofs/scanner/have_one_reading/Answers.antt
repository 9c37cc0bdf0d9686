use Rattle.command_grammar.specs.Views.{commands_of}
use Rattle.command_grammar.proofs.Fronts.{one_reading}
use Rattle.command_grammar.proofs.scanner.have_one_reading.Goals as goal

pub returns : goal.returns
returns g c = one_reading (commands_of c.args.table.now) c.requires
