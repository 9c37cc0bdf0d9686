use Rattle.std.proofs.Common.{◌≡◌, ◌++◌, [], take}
use Rattle.oc_code.specs.Lower.{named}
use Rattle.cond_lowering.specs.Ways.{entered}
use Rattle.cond_lowering.proofs.declares.enter_all.Given as goal

abbrev pub invariant-loop-i : goal.invariant-loop-i
invariant-loop-i l = l.exits ≡ l.fn.exits ++ entered l.spot (named (take l.i l.ds) [])
