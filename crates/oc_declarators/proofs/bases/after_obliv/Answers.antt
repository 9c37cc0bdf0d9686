use Rattle.std.proofs.Common.{sym, ◌∙◌}
use Rattle.oc_grammar.proofs.Parsing.{by_end, by_none, by_left, through, through_fails}
use Rattle.oc_grammar.proofs.Calls.{error_on}
use Rattle.oc_declarators.proofs.Marks.{obliv_opened, some_words, ints_marked, ints_fail, only_marked_obliv, marked_obliv}
use Rattle.oc_declarators.proofs.bases.after_obliv.Goals as goal

pub returns-in_default-clause-reads : goal.returns-in_default-clause-reads
returns-in_default-clause-reads c = by_end (obliv_opened _ _) (some_words _) c.in_default.ensures

pub returns-in_err-kind-in-Frozen-clause-reads : goal.returns-in_err-kind-in-Frozen-clause-reads
returns-in_err-kind-in-Frozen-clause-reads c =
    let e = sym c.opening_of.ensures ∙ c.in-Frozen.is in
    error_on _ _ _ _ _ _ _ _ c.from_residual.ensures.1 c.in_err-kind-in-Frozen.ensures.reads (λ rest f. through_fails (by_left (obliv_opened _ _) c.in-Some.ensures (λ v ys q. rw e q) (λ v ys q. rw e at q)) (ints_fail _ _ _ f))

pub returns-in_ok-kind-in-Frozen-clause-reads : goal.returns-in_ok-kind-in-Frozen-clause-reads
returns-in_ok-kind-in-Frozen-clause-reads c =
    let e = sym c.opening_of.ensures ∙ c.in-Frozen.is in
    through (by_left (obliv_opened _ _) c.in-Some.ensures (λ v ys q. rw e q) (λ v ys q. rw e at q)) (ints_marked _ _ _ _ c.in_ok-kind-in-Frozen.ensures.reads)

pub returns-in-Some-marked-clause-reads : goal.returns-in-Some-marked-clause-reads
returns-in-Some-marked-clause-reads c =
    through (by_left (obliv_opened _ _) c.in-Some.ensures (λ v ys q. rw (← c.opening_of.ensures) (marked_obliv _ _ c.in_default-opening_of.not-Frozen v ys q)) (λ v ys q. only_marked_obliv _ _ c.in_default-opening_of.not-Frozen v ys (rw (← c.opening_of.ensures) at q))) c.in-Some-marked.ensures

pub returns-in-None-clause-reads : goal.returns-in-None-clause-reads
returns-in-None-clause-reads c = by_none (obliv_opened _ _) (some_words _) c.in-Some.ensures (λ v ys q. c.in-None.ensures v ys (only_marked_obliv _ _ c.in_default-opening_of.not-Frozen v ys (rw (← c.opening_of.ensures) at q)))
