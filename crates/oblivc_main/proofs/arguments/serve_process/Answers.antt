use Rattle.std.proofs.Common.{refl, sym, subst}
use Rattle.command_grammar.specs.Grammar.{texts}
use Rattle.oblivc_main.specs.Arguments.{AreWords, AreBefore, by_words, by_no_text, without_memory}
use Rattle.oblivc_main.proofs.arguments.serve_process.Goals as goal

pub returns-in-All-clause-served : goal.returns-in-All-clause-served
returns-in-All-clause-served g c =
    by_words (texts c.as_slice.result.now) (subst (λ ws. AreWords (g.A.Arguments.words c.args.arguments.now) (texts ws)) (sym c.as_slice.ensures.value) c.in-All.ensures) c.oblivcc.ensures.answered

pub returns-in-UpTo-clause-served : goal.returns-in-UpTo-clause-served
returns-in-UpTo-clause-served g c =
    by_no_text (texts c.as_slice-in-UpTo.result.now) c.find_break-k.result
    (subst (λ ws. AreBefore (g.A.Arguments.words c.args.arguments.now) (texts ws)) (sym c.as_slice-in-UpTo.ensures.value) c.in-UpTo.ensures) c.find_break-k.ensures (record { silent = refl; kept = λ n. refl }) c.report.ensures

pub returns-in-NoMemory-clause-served : goal.returns-in-NoMemory-clause-served
returns-in-NoMemory-clause-served g c = without_memory (record { silent = refl; kept = λ n. refl }) c.report-in-NoMemory.ensures
