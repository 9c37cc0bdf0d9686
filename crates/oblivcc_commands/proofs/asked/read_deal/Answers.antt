use Rattle.std.proofs.Common.{refl, codes}
use Rattle.command_grammar.specs.Grammar.{texts}
use Rattle.command_grammar.specs.Scanning.{options_in}
use Rattle.command_grammar.proofs.Answering.{required_key, required_number, required_text}
use Rattle.oblivcc_commands.specs.Table.{deal_command}
use Rattle.oblivcc_commands.proofs.asked.read_deal.Goals as goal

pub returns : goal.returns
returns c =
    let ws = texts c.args.words.now in
    let os = texts c.words_from-options.result.now in
    let rest = c.words_from-options.ensures in
    let key = required_key deal_command ws c.requires os rest 0 (codes "--key") _ _ c.value.ensures c.key_or_zeros.ensures refl refl refl in
    let count = required_number deal_command ws c.requires os rest 1 (codes "--count") 0 1048576 0 _ _ c.value-2.ensures c.number_or.ensures.value refl refl refl in
    record {
      given = options_in deal_command ws;
      command = c.requires;
      key_word = key.0;
      key_given = key.1;
      key = key.2;
      count_word = count.0;
      count_given = count.1;
      count = count.2;
      few = count.4;
      first = required_text deal_command ws c.requires os rest 2 (codes "--out1") _ _ c.value-3.ensures c.text_or_empty.ensures refl refl;
      second = required_text deal_command ws c.requires os rest 3 (codes "--out2") _ _ c.value-4.ensures c.text_or_empty-2.ensures refl refl;
    }
