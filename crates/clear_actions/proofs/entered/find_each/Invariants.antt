use Rattle.std.proofs.Common.{◌≡◌, take}
use Rattle.std.specs.Prelude.{reverse}
use Rattle.oc_walk.specs.Walking.{block_of}
use Rattle.clear_actions.proofs.entered.find_each.Given as goal

abbrev pub invariant-loop-named : goal.invariant-loop-named
invariant-loop-named l = l.found ≡ block_of l.slot (reverse (take l.named-index l.slots))
