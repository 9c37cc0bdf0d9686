use Rattle.std.proofs.Common.{◌≡◌, ◌+◌, drop, ap, ◌∙◌, arith}
use Rattle.std.specs.Prelude.{if◌then◌else◌, string_bytes}
use Rattle.std.proofs.lemmas.List.{length-map}
use Rattle.command_grammar.specs.declared.form.WordForm.TheVariants.{Any}
use Rattle.command_grammar.specs.Grammar.{texts}
use Rattle.command_grammar.specs.Scanning.{fitting}
use Rattle.command_grammar.proofs.Scans.{fitting_step, fitting_end}
use Rattle.command_grammar.proofs.scanner.fitting.Goals as goal

pub returns-then-not-fits-clause-value : goal.returns-then-not-fits-clause-value
returns-then-not-fits-clause-value c =
    let fs = c.args.operands.now in
    let ws = c.args.words.now in
    let n = c.loop-count.count in
    let step = fitting_step fs ws n c.index-words-count.result c.as_str.result.now Any c.fits.result c.loop-count-test.true c.if-count-words.true c.index-words-count.is c.as_str.ensures.value c.fits.ensures in
    let none : fitting (drop n fs) (drop n (texts ws)) ≡ 0 = step ∙ ap (λ t. if t then 1 + fitting (drop (n + 1) fs) (drop (n + 1) (texts ws)) else 0) c.if-not-fits.true in
    omega (arith, none, c.loop-count.invariant.value)

pub loop-count-preserved : goal.loop-count-preserved
loop-count-preserved c =
    let fs = c.args.operands.now in
    let ws = c.args.words.now in
    let n = c.loop-count.count in
    let step = fitting_step fs ws n c.index-words-count.result c.as_str.result.now Any c.fits.result c.loop-count-test.true c.if-count-words.true c.index-words-count.is c.as_str.ensures.value c.fits.ensures in
    let more : fitting (drop n fs) (drop n (texts ws)) ≡ 1 + fitting (drop (n + 1) fs) (drop (n + 1) (texts ws)) = step ∙ ap (λ t. if t then 1 + fitting (drop (n + 1) fs) (drop (n + 1) (texts ws)) else 0) c.if-not-fits.false in
    record { value = omega (arith, more, c.loop-count.invariant.value); within = omega (arith, c.if-count-words.true) }

pub returns-else-count-words-clause-value : goal.returns-else-count-words-clause-value
returns-else-count-words-clause-value c =
    let size = length-map c.args.words.now string_bytes in
    let none = fitting_end c.args.operands.now (texts c.args.words.now) c.loop-count.count (omega (arith, size, c.if-count-words.false)) in
    omega (arith, none, c.loop-count.invariant.value)
