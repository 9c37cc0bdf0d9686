use Rattle.std.proofs.Common.{[], ◌∷◌, sym, ap, ◌∙◌, subst}
use Rattle.command_grammar.specs.Grammar.{IsCommandOf, texts}
use Rattle.command_grammar.specs.Scanning.{options_in}
use Rattle.command_grammar.proofs.Answering.{one_operand, words_enough}
use Rattle.oblivcc_commands.specs.Table.{check_command}
use Rattle.oblivcc_commands.proofs.asked.read_check.Goals as goal

pub returns : goal.returns
returns c =
    let ws = texts c.args.words.now in
    let file = one_operand ws (words_enough check_command ws c.requires) ∙ ap (λ w. w ∷ []) (sym c.word_at.ensures) in
    record {
      given = options_in check_command ws;
      command = subst (λ ops. IsCommandOf check_command ws ops (options_in check_command ws)) file c.requires;
    }
