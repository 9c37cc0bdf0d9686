use Rattle.std.proofs.Common.{ℕ, ◌<◌}
use Rattle.dealt_transfer.specs.Halves.{receiver}
use Rattle.dealt_transfer.specs.Transfers.{MatchesAt}
use Rattle.dealt_transfer.proofs.transfer.first_unmatched.Given as goal

abbrev pub invariant-loop-i : goal.invariant-loop-i
invariant-loop-i l = (k : ℕ) → k < l.i → MatchesAt l.fn.sender (receiver l.fn.receiver) k
