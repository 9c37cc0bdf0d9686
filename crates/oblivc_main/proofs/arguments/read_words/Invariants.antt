use Rattle.command_grammar.specs.Grammar.{texts}
use Rattle.oblivc_main.proofs.ProcessWords.{AreFirst}
use Rattle.oblivc_main.proofs.arguments.read_words.Given as goal

abbrev pub invariant-loop-index : goal.invariant-loop-index
invariant-loop-index g l = AreFirst (g.A.Arguments.words l.arguments) l.index (texts l.words.items)
