use Rattle.std.proofs.Common.{ap, arith, length}
use Rattle.std.proofs.lemmas.Result.{on_ok_weaker}
use Rattle.cond_lowering.proofs.ways.leave_last.Goals as goal

pub returns-in-Some : goal.returns-in-Some
returns-in-Some c = on_ok_weaker c.emit_exit.result (λ z. record { last = c.in-Some.e; popped = c.in-Some.ensures; code = z.so }) c.emit_exit.ensures

pub returns-in-None : goal.returns-in-None
returns-in-None c = let n = ap length c.in-None.ensures.0 in absurd (omega (arith, n, c.requires))
