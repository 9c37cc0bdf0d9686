use Rattle.std.proofs.Common.{sym, ◌∙◌}
use Rattle.oc_grammar.proofs.Parsing.{by_end, by_none, by_left, through, through_fails}
use Rattle.oc_grammar.proofs.Calls.{error_on, mapped}
use Rattle.oc_declarators.proofs.Marks.{frozen_opened, some_frozen, ints_marked, ints_fail, only_marked_frozen, marked_frozen}
use Rattle.oc_declarators.proofs.bases.after_frozen.Goals as goal

pub returns-in_default-clause-reads : goal.returns-in_default-clause-reads
returns-in_default-clause-reads c = by_end (frozen_opened _ _) (some_frozen _) c.in_default.ensures

pub returns-in_err-kind-in-Obliv-clause-reads : goal.returns-in_err-kind-in-Obliv-clause-reads
returns-in_err-kind-in-Obliv-clause-reads c =
    let e = sym c.opening_of.ensures ∙ c.in-Obliv.is in
    error_on _ _ _ _ _ _ _ _ c.from_residual.ensures.1 c.in_err-kind-in-Obliv.ensures.reads (λ rest f. through_fails (by_left (frozen_opened _ _) c.in-Some.ensures (λ v ys q. rw e q) (λ v ys q. rw e at q)) (ints_fail _ _ _ f))

pub returns-in_ok-kind-in-Obliv-clause-reads : goal.returns-in_ok-kind-in-Obliv-clause-reads
returns-in_ok-kind-in-Obliv-clause-reads c =
    let e = sym c.opening_of.ensures ∙ c.in-Obliv.is in
    through (by_left (frozen_opened _ _) c.in-Some.ensures (λ v ys q. rw e q) (λ v ys q. rw e at q)) (ints_marked _ _ _ _ c.in_ok-kind-in-Obliv.ensures.reads)

pub returns-in-Struct-clause-reads : goal.returns-in-Struct-clause-reads
returns-in-Struct-clause-reads c =
    let e = sym c.opening_of.ensures ∙ c.in-Struct.is in
    mapped _ _ _ _ _ _ _ c.named_struct.ensures.reads (λ v r f. through (by_left (frozen_opened _ _) c.in-Some.ensures (λ v ys q. rw e q) (λ v ys q. rw e at q)) f) (λ r f. through_fails (by_left (frozen_opened _ _) c.in-Some.ensures (λ v ys q. rw e q) (λ v ys q. rw e at q)) f)

pub returns-in-Some-marked-clause-reads : goal.returns-in-Some-marked-clause-reads
returns-in-Some-marked-clause-reads c =
    through (by_left (frozen_opened _ _) c.in-Some.ensures (λ v ys q. rw (← c.opening_of.ensures) (marked_frozen _ _ c.in_default-opening_of.not-Obliv c.in_default-opening_of.not-Struct v ys q)) (λ v ys q. only_marked_frozen _ _ c.in_default-opening_of.not-Obliv c.in_default-opening_of.not-Struct v ys (rw (← c.opening_of.ensures) at q))) c.in-Some-marked.ensures

pub returns-in-None-clause-reads : goal.returns-in-None-clause-reads
returns-in-None-clause-reads c = by_none (frozen_opened _ _) (some_frozen _) c.in-Some.ensures (λ v ys q. c.in-None.ensures v ys (only_marked_frozen _ _ c.in_default-opening_of.not-Obliv c.in_default-opening_of.not-Struct v ys (rw (← c.opening_of.ensures) at q)))
