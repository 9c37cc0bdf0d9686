use Rattle.command_grammar.specs.Grammar.{texts}
use Rattle.command_grammar.specs.Views.{command_of}
use Rattle.oblivcc_commands.proofs.OfKind.{kind_row}
use Rattle.oblivcc_commands.proofs.asked.read_command.Goals as goal

pub read_check-requires : goal.read_check-requires
read_check-requires c = kind_row (command_of c.in-Ok.command.now) c.in-Ok.ensures.0 (texts c.args.words.now) c.in-Ok.ensures.1 _ c.in-Check.is

pub read_clear-requires : goal.read_clear-requires
read_clear-requires c = kind_row (command_of c.in-Ok.command.now) c.in-Ok.ensures.0 (texts c.args.words.now) c.in-Ok.ensures.1 _ c.in-Clear.is

pub read_deal-requires : goal.read_deal-requires
read_deal-requires c = kind_row (command_of c.in-Ok.command.now) c.in-Ok.ensures.0 (texts c.args.words.now) c.in-Ok.ensures.1 _ c.in-Deal.is
