use Rattle.std.proofs.Common.{[], ◌∷◌, refl, sym, ap, ◌∙◌, subst, codes}
use Rattle.command_grammar.specs.Grammar.{IsCommandOf, texts}
use Rattle.command_grammar.specs.Scanning.{options_in}
use Rattle.command_grammar.proofs.Answering.{list_answer, number_answer, one_operand, text_read, words_enough}
use Rattle.oblivcc_commands.specs.Table.{clear_command}
use Rattle.oblivcc_commands.proofs.asked.read_clear.Goals as goal

pub returns : goal.returns
returns c =
    let ws = texts c.args.words.now in
    let file = one_operand ws (words_enough clear_command ws c.requires) ∙ ap (λ w. w ∷ []) (sym c.word_at.ensures) in
    let os = texts c.words_from-options.result.now in
    let rest = c.words_from-options.ensures in
    record {
      given = options_in clear_command ws;
      command = subst (λ ops. IsCommandOf clear_command ws ops (options_in clear_command ws)) file c.requires;
      first = text_read clear_command ws c.requires os rest (codes "--input1") _ c.value.ensures;
      second = text_read clear_command ws c.requires os rest (codes "--input2") _ c.value-2.ensures;
      public = list_answer clear_command ws c.requires os rest (codes "--public") _ _ c.value-3.ensures refl refl;
      steps = number_answer clear_command ws c.requires os rest (codes "--steps") 1 1000000000 1000000000 _ _ c.value-4.ensures c.number_or.ensures.value refl;
      dealt = number_answer clear_command ws c.requires os rest (codes "--dealt") 0 1048576 1048576 _ _ c.value-5.ensures c.number_or-2.ensures.value refl;
      few_steps = c.number_or.ensures.within;
      few_dealt = c.number_or-2.ensures.within;
    }
