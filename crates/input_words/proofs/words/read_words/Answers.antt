use Rattle.std.proofs.Common.{[], ◌∷◌, ◌++◌, length, ◌+◌, arith, inl, inr, sym, ap, ◌∙◌, subst}
use Rattle.std.proofs.lemmas.Bool.{eqb-true}
use Rattle.std.proofs.lemmas.List.{nil_from_length}
use Rattle.input_words.proofs.WordForm.{word_fits}
use Rattle.input_words.proofs.Readings.{Going, read_more, wrong_here, read_all}
use Rattle.input_words.proofs.words.read_words.Goals as goal

pub returns-then-number-gt-MAX_WORDS : goal.returns-then-number-gt-MAX_WORDS
returns-then-number-gt-MAX_WORDS c =
    wrong_here c.args.bytes.now c.loop-rest.rest.now c.split_line.result.0.now c.split_line.result.1.now c.loop-rest.words _ c.loop-rest.invariant c.split_line.ensures.lines (ap (λ n. n + 1) c.len.ensures)
    (inl (omega (arith, c.len.ensures, c.loop-rest.invariant.few)))

pub returns-in_default : goal.returns-in_default
returns-in_default c =
    wrong_here c.args.bytes.now c.loop-rest.rest.now c.split_line.result.0.now c.split_line.result.1.now c.loop-rest.words _ c.loop-rest.invariant c.split_line.ensures.lines (ap (λ n. n + 1) c.len.ensures) (inr c.in_default.ensures.none)

pub loop-rest-preserved : goal.loop-rest-preserved
loop-rest-preserved c =
    subst (λ ws. Going c.args.bytes.now c.split_line.result.1.now ws) (sym (c.in_ok-push.ensures.ok ∙ ap (λ w. c.loop-rest.words ++ w ∷ []) (word_fits c.split_line.result.0.now c.in-Some.word c.in-Some.ensures.form))) (read_more c.args.bytes.now c.loop-rest.rest.now c.split_line.result.0.now c.split_line.result.1.now c.loop-rest.words c.in-Some.word c.loop-rest.invariant c.split_line.ensures.lines c.in-Some.ensures.form (omega (arith, c.len.ensures)))

pub returns : goal.returns
returns c = read_all c.args.bytes.now c.loop-rest.rest.now c.loop-rest.words c.loop-rest.invariant (nil_from_length c.loop-rest.rest.now (eqb-true (length c.loop-rest.rest.now) 0 (sym c.is_empty.ensures ∙ c.loop-rest-test.false)))
