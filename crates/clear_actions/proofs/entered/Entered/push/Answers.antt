use Rattle.std.proofs.Common.{◌∙◌, sym, ap, None}
use Rattle.clear_actions.specs.Rising.{rises}
use Rattle.clear_actions.proofs.Rising.{pushed, both_true}
use Rattle.clear_actions.proofs.entered.Entered.push.Goals as goal

pub invariant_of-self-2 : goal.invariant_of-self-2
invariant_of-self-2 c = λ h.
    let b = both_true _ _ (sym c.stays_rising-is_rising.ensures ∙ h) in
    ap (λ l. rises None l) c.in_ok-push.ensures.ok ∙ pushed c.self.inside.slots c.args.named (c.self.invariant b.0) b.1
