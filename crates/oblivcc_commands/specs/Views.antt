-- What was read of a command line as one of the definitions.
use Rattle.std.specs.Option.{option_map}
use Rattle.command_grammar.specs.Reading.{read_list}
use Rattle.oblivcc_commands.specs.Asked.{CheckAsked, ClearAsked, DealAsked}
use Rattle.oblivcc_commands.specs.declared.asked.CheckWords.{CheckWords}
use Rattle.oblivcc_commands.specs.declared.asked.ClearWords.{ClearWords}
use Rattle.oblivcc_commands.specs.declared.asked.DealWords.{DealWords}

-- what the words of `check` ask for
abbrev pub check_of : CheckWords → CheckAsked
check_of w = record { file = w.file.now }

-- what the words of `clear` ask for
abbrev pub clear_of : ClearWords → ClearAsked
clear_of w = record {
  file = w.file.now;
  first = option_map (λ v. v.now) w.first;
  second = option_map (λ v. v.now) w.second;
  public = read_list (option_map (λ v. v.now) w.public);
  steps = w.steps;
  dealt = w.dealt;
}

-- what the words of `deal` ask for
abbrev pub deal_of : DealWords → DealAsked
deal_of w = record { key = w.key; count = w.count; first = w.first.now; second = w.second.now }
