use Rattle.std.proofs.Common.{◌≤◌, length, arith}
use Rattle.std.proofs.lemmas.Bool.Decides.{nat_tests}
use Rattle.input_words.proofs.WordForm.{word_read, word_lost}
use Rattle.input_words.proofs.lines.read_word.Goals as goal

pub returns-in-Some-clause-form : goal.returns-in-Some-clause-form
returns-in-Some-clause-form c =
    let tested = c.is_empty.ensures in
    let some : 1 ≤ length c.without_sign-digits.result.now = grind (arith, nat_tests) in
    word_read c.args.line.now c.has_minus.result c.in-Some.value c.without_sign-digits.result.now c.without_sign-digits.ensures c.has_minus.ensures c.in-Some.ensures.value some c.if-digits-gt19.false c.word_of.result c.word_of.ensures

pub returns-in-Some-clause-none : goal.returns-in-Some-clause-none
returns-in-Some-clause-none c =
    let tested = c.is_empty.ensures in
    let some : 1 ≤ length c.without_sign-digits.result.now = grind (arith, nat_tests) in
    word_lost c.args.line.now c.has_minus.result c.in-Some.value c.without_sign-digits.result.now c.without_sign-digits.ensures c.has_minus.ensures c.in-Some.ensures.value some c.if-digits-gt19.false c.word_of.result c.word_of.ensures
