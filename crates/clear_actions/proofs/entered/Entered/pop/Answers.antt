use Rattle.clear_actions.proofs.Rising.{fewer}
use Rattle.clear_actions.proofs.entered.Entered.pop.Goals as goal

pub invariant_of-self : goal.invariant_of-self
invariant_of-self c = λ h. fewer c.self.inside.slots c.pop.new.self c.pop.result c.pop.ensures (c.self.invariant h)
