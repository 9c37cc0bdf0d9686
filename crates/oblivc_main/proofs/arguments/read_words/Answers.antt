use Rattle.std.proofs.Common.{◌+◌, ◌≡◌, [], ◌∷◌, ◌++◌, sym, ap, ◌∙◌, subst, true}
use Rattle.std.specs.Prelude.{not, if◌then◌else◌, is_ok, string_bytes}
use Rattle.std.proofs.lemmas.Bool.{false≢true}
use Rattle.command_grammar.specs.Grammar.{texts}
use Rattle.oblivc_main.proofs.ProcessWords.{AreFirst, first_none, first_next, first_all, first_before, all_texts, texts_next}
use Rattle.oblivc_main.proofs.arguments.read_words.Goals as goal

pub loop-index-init : goal.loop-index-init
loop-index-init g c =
    subst (λ ws. AreFirst (g.A.Arguments.words c.args.arguments.now) 0 (texts ws)) (sym c.new-words.ensures.items) (first_none (g.A.Arguments.words c.args.arguments.now))

pub returns-in-End : goal.returns-in-End
returns-in-End g c =
    let words = c.loop-index.words.items in
    (first_all (g.A.Arguments.words c.args.arguments.now) c.loop-index.index (texts words) c.loop-index.invariant c.in-End.ensures.end, all_texts words)

pub returns-in_default : goal.returns-in_default
returns-in_default g c =
    let words = c.loop-index.words.items in
    let bytes = c.in-Word.bytes.items in
    (bytes, first_before (g.A.Arguments.words c.args.arguments.now) c.loop-index.index (texts words) bytes c.loop-index.invariant c.in-Word.ensures.word, all_texts words, λ utf8. absurd (false≢true (c.in_default.ensures.succeeds utf8)))

pub loop-index-preserved : goal.loop-index-preserved
loop-index-preserved g c =
    let told = g.A.Arguments.words c.args.arguments.now in
    let words = c.loop-index.words.items in
    let bytes = c.in-Word.bytes.items in
    let next = c.loop-index.index + 1 in
    let ok : is_ok c.push.result ≡ true = c.is_err.ensures.negation ∙ ap not c.if-is_err.false in
    let pushed = c.push.ensures.items ∙ ap (λ b. if b then words ++ c.in-Ok.text ∷ [] else words) ok in
    let same : string_bytes c.in-Ok.text ≡ bytes = ap (λ v. v.items) c.in-Ok.ensures.ok in
    let first = first_next told c.loop-index.index (texts words) bytes c.loop-index.invariant c.in-Word.ensures.word in
    subst (λ ws. AreFirst told next (texts ws)) (sym pushed) (subst (AreFirst told next) (sym (texts_next words c.in-Ok.text ∙ ap (λ b. texts words ++ b ∷ []) same)) first)
