use Rattle.std.proofs.Common.{ℕ, suc, ◌≡◌, ◌+◌, ◌-◌, ◌<◌, ap, ◌∙◌, arith}
use Rattle.oc_walk.specs.Walking.{close}
use Rattle.clear_actions.specs.Acting.{state_of}
use Rattle.clear_actions.proofs.variables.close_slots.Goals as goal

less_one : (n i : ℕ) → i < n → n - i ≡ suc (n - (i + 1))
less_one n i h = omega arith

pub loop-preserved : goal.loop-preserved
loop-preserved c = (
  c.loop.invariant.0 ∙ (ap (λ k. close k (state_of c.loop.machine)) (less_one c.saturating_sub-excess.result c.loop.counter c.loop-test.true) ∙ c.close_newest.ensures.closes _),
  (c.close_newest.ensures.same.0 ∙ c.loop.invariant.1.0, c.close_newest.ensures.same.1 ∙ c.loop.invariant.1.1),
)
