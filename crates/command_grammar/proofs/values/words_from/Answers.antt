use Rattle.command_grammar.proofs.Answering.{rest_texts}
use Rattle.command_grammar.proofs.values.words_from.Goals as goal

pub returns-then-start-words : goal.returns-then-start-words
returns-then-start-words c = rest_texts c.args.words.now c.args.start
