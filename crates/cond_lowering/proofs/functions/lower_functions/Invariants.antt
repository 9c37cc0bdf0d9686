use Rattle.std.proofs.Common.{◌≡◌, take}
use Rattle.oc_code.specs.Lower.{functions_code}
use Rattle.cond_lowering.proofs.functions.lower_functions.Given as goal

abbrev pub invariant-loop-i : goal.invariant-loop-i
invariant-loop-i l = l.all ≡ functions_code l.table (take l.i l.fs)
