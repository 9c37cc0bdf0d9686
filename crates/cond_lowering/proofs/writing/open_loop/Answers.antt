use Rattle.std.proofs.Common.{refl, arith}
use Rattle.cond_lowering.proofs.Adding.{adds_as, adds_seq, adds_length}
use Rattle.cond_lowering.proofs.writing.open_loop.Goals as goal

pub returns-clause-code : goal.returns-clause-code
returns-clause-code c = adds_as _ _ _ _ refl (adds_seq _ _ _ _ _ c.in_ok-put.ensures (adds_seq _ _ _ _ _ c.in_ok-put-2.ensures (adds_seq _ _ _ _ _ c.in_ok-put-3.ensures c.in_ok-put-4.ensures)))

pub returns-clause-step : goal.returns-clause-step
returns-clause-step c =
    let a = adds_length _ _ _ c.in_ok-put.ensures in
    let b = adds_length _ _ _ c.in_ok-put-2.ensures in
    let d = adds_length _ _ _ c.in_ok-put-3.ensures in
    omega (arith, a, b, d, c.len-step.ensures)
