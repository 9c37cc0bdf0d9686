use Rattle.std.proofs.Common.{◌≡◌, ◌-◌}
use Rattle.oc_walk.specs.Walking.{close}
use Rattle.clear_actions.specs.Acting.{SameBlocks, state_of}
use Rattle.clear_actions.proofs.variables.close_slots.Given as goal

abbrev pub invariant-loop : goal.invariant-loop
invariant-loop l = (close l.excess (state_of l.initial.machine) ≡ close (l.excess - l.counter) (state_of l.machine)) × SameBlocks l.initial.machine.store l.machine.store
