use Rattle.std.proofs.Common.{sym, ◌∙◌}
use Rattle.oc_grammar.proofs.Parsing.{by_end, by_none, by_left, through, through_fails}
use Rattle.oc_grammar.proofs.Calls.{mapped}
use Rattle.oc_declarators.proofs.Marks.{base_opened, some_base, only_marked_base, marked_base}
use Rattle.oc_declarators.proofs.bases.base.Goals as goal

pub returns-in_default-clause-reads : goal.returns-in_default-clause-reads
returns-in_default-clause-reads c = by_end (base_opened _) some_base c.in_default.ensures

pub returns-in-Frozen-clause-reads : goal.returns-in-Frozen-clause-reads
returns-in-Frozen-clause-reads c =
    let e = sym c.opening_of.ensures ∙ c.in-Frozen.is in
    mapped _ _ _ _ _ _ _ c.after_frozen.ensures.reads (λ v r f. through (by_left (base_opened _) c.in-Some.ensures (λ v ys q. rw e q) (λ v ys q. rw e at q)) f) (λ r f. through_fails (by_left (base_opened _) c.in-Some.ensures (λ v ys q. rw e q) (λ v ys q. rw e at q)) f)

pub returns-in-Obliv-clause-reads : goal.returns-in-Obliv-clause-reads
returns-in-Obliv-clause-reads c =
    let e = sym c.opening_of.ensures ∙ c.in-Obliv.is in
    mapped _ _ _ _ _ _ _ c.after_obliv.ensures.reads (λ v r f. through (by_left (base_opened _) c.in-Some.ensures (λ v ys q. rw e q) (λ v ys q. rw e at q)) f) (λ r f. through_fails (by_left (base_opened _) c.in-Some.ensures (λ v ys q. rw e q) (λ v ys q. rw e at q)) f)

pub returns-in-Struct-clause-reads : goal.returns-in-Struct-clause-reads
returns-in-Struct-clause-reads c =
    let e = sym c.opening_of.ensures ∙ c.in-Struct.is in
    mapped _ _ _ _ _ _ _ c.named_struct.ensures.reads (λ v r f. through (by_left (base_opened _) c.in-Some.ensures (λ v ys q. rw e q) (λ v ys q. rw e at q)) f) (λ r f. through_fails (by_left (base_opened _) c.in-Some.ensures (λ v ys q. rw e q) (λ v ys q. rw e at q)) f)

pub returns-in-Some-marked-clause-reads : goal.returns-in-Some-marked-clause-reads
returns-in-Some-marked-clause-reads c =
    through (by_left (base_opened _) c.in-Some.ensures (λ v ys q. rw (← c.opening_of.ensures) (marked_base _ _ c.in_default-opening_of.not-Frozen c.in_default-opening_of.not-Obliv c.in_default-opening_of.not-Struct v ys q)) (λ v ys q. only_marked_base _ _ c.in_default-opening_of.not-Frozen c.in_default-opening_of.not-Obliv c.in_default-opening_of.not-Struct v ys (rw (← c.opening_of.ensures) at q))) c.in-Some-marked.ensures

pub returns-in-None-clause-reads : goal.returns-in-None-clause-reads
returns-in-None-clause-reads c = by_none (base_opened _) some_base c.in-Some.ensures (λ v ys q. c.in-None.ensures v ys (only_marked_base _ _ c.in_default-opening_of.not-Frozen c.in_default-opening_of.not-Obliv c.in_default-opening_of.not-Struct v ys (rw (← c.opening_of.ensures) at q)))
