-- The commands. The slots of an option are numbers that the options of one command share out.
use Rattle.std.specs.Prelude.{List, [], ◌∷◌, codes}
use Rattle.command_grammar.specs.declared.form.WordForm.TheVariants.{Any, Number, Key, IntegerList}
use Rattle.command_grammar.specs.Grammar.{Command}
use Rattle.oblivcc_commands.specs.declared.table.CommandKind.{CommandKind}
use Rattle.oblivcc_commands.specs.declared.table.CommandKind.TheVariants.{Check, Clear, Deal}

-- `check FILE`
abbrev pub check_command : Command CommandKind
check_command = record { kind = Check; name = codes "check"; operands = Any ∷ []; options = []; required = [] }

-- `clear FILE [--input1 F] [--input2 F] [--public LIST] [--steps N] [--dealt N]`
abbrev pub clear_command : Command CommandKind
clear_command = record {
  kind = Clear;
  name = codes "clear";
  operands = Any ∷ [];
  options =
      record { name = codes "--input1"; form = Any; slots = 0 ∷ [] } ∷
      record { name = codes "--input2"; form = Any; slots = 1 ∷ [] } ∷
      record { name = codes "--public"; form = IntegerList; slots = 2 ∷ [] } ∷
      record { name = codes "--steps"; form = Number 1 1000000000; slots = 3 ∷ [] } ∷
      record { name = codes "--dealt"; form = Number 0 1048576; slots = 4 ∷ [] } ∷
      [];
  required = [];
}

-- `deal --key K --count N --out1 F --out2 F`
abbrev pub deal_command : Command CommandKind
deal_command = record {
  kind = Deal;
  name = codes "deal";
  operands = [];
  options =
      record { name = codes "--key"; form = Key; slots = 0 ∷ [] } ∷
      record { name = codes "--count"; form = Number 0 1048576; slots = 1 ∷ [] } ∷
      record { name = codes "--out1"; form = Any; slots = 2 ∷ [] } ∷
      record { name = codes "--out2"; form = Any; slots = 3 ∷ [] } ∷
      [];
  required = 0 ∷ 1 ∷ 2 ∷ 3 ∷ [];
}

-- all of them
abbrev pub commands : List (Command CommandKind)
commands = check_command ∷ clear_command ∷ deal_command ∷ []

-- the command of a kind
abbrev pub command_for : CommandKind → Command CommandKind
command_for Check = check_command
command_for Clear = clear_command
command_for Deal = deal_command
