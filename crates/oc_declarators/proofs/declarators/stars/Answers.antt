use Rattle.std.proofs.Common.{arith, ap, length}
use Rattle.oc_declarators.proofs.Names.{stars_opened, star_read, stars_done}
use Rattle.oc_declarators.proofs.declarators.stars.Goals as goal

pub loop-after-init : goal.loop-after-init
loop-after-init c = record { reads = stars_opened _; shorter = omega arith }

pub loop-after-preserved : goal.loop-after-preserved
loop-after-preserved c = record { reads = star_read c.loop-after.invariant.reads c.in-Some.ensures; shorter = omega (arith, ap length c.in-Some.ensures.whole, c.loop-after.invariant.shorter) }

pub returns-clause-reads : goal.returns-clause-reads
returns-clause-reads c = stars_done c.loop-after.invariant.reads c.in_default.ensures
