use Rattle.std.proofs.Common.{◌≡◌, ◌≤◌, ◌++◌, [], length, take}
use Rattle.oc_code.specs.Lower.{leave_code, named}
use Rattle.cond_lowering.proofs.declares.leave_all.Given as goal

abbrev pub invariant-outward : goal.invariant-outward
invariant-outward l = record {
  within : l.at ≤ length l.ds;
  rest : l.code ++ leave_code l.spot (named (take l.at l.ds) []) ≡ l.fn.code ++ leave_code l.spot (named l.ds []);
}

abbrev pub decreases-outward : goal.decreases-outward
decreases-outward l = l.at
