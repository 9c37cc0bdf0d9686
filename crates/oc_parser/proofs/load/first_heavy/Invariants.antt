use Rattle.std.proofs.Common.{◌≡◌, ◌+◌, ◌≤◌, length, reverse}
use Rattle.std.specs.List.{All}
use Rattle.oc_parser.specs.declared.entries.Entry.{Entry}
use Rattle.oc_parser.specs.Load.{stack, total}
use Rattle.oc_parser.proofs.Loads.{Passed}
use Rattle.oc_parser.proofs.load.first_heavy.Given as goal

abbrev pub invariant-loop-token : goal.invariant-loop-token
invariant-loop-token l = record {
  passed : Passed l.tokens (stack l.counts.0 (reverse l.counts.1.0)) l.rest;
  light : l.counts.1.1.0 ≤ 1000;
  summed : l.counts.1.1.0 ≡ l.counts.0.count + total l.counts.1.0;
  narrow : l.counts.0.opened ≤ l.counts.0.count;
  all_narrow : All (λ (e : Entry). e.opened ≤ e.count) l.counts.1.0;
}

abbrev pub decreases-loop-token : goal.decreases-loop-token
decreases-loop-token l = length l.rest
