use Rattle.std.proofs.Common.{◌≡◌, ◌+◌, ◌≤◌, drop}
use Rattle.oc_code.specs.Machine.{asked}
use Rattle.cond_lowering.proofs.calls.asked_by.Given as goal

abbrev pub invariant-loop-i : goal.invariant-loop-i
invariant-loop-i l = record {
  told : l.count + asked (drop l.i l.pieces) ≡ asked l.pieces;
  small : l.count ≤ l.i;
}
