-- A table of the program as one of the definitions.
use Rattle.std.specs.Prelude.{List, map}
use Rattle.command_grammar.specs.Grammar.{CommandOption, Command}
use Rattle.command_grammar.specs.declared.table.CommandOption.{CommandOption as OptionRow}
use Rattle.command_grammar.specs.declared.table.Command.{Command as Row}

-- the option of a row
abbrev pub command_option_of : OptionRow → CommandOption
command_option_of o = record { name = o.name.now; form = o.form; slots = o.slots.now }

-- the options of some rows
abbrev pub command_options_of : List OptionRow → List CommandOption
command_options_of options = map command_option_of options

-- the command of a row
abbrev pub command_of : {K : Type 0} → Row K → Command K
command_of c = record {
  kind = c.kind;
  name = c.name.now;
  operands = c.operands.now;
  options = command_options_of c.options.now;
  required = c.required.now;
}

-- the commands of a table
abbrev pub commands_of : {K : Type 0} → List (Row K) → List (Command K)
commands_of rows = map command_of rows
