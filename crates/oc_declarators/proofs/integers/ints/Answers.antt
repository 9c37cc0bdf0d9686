use Rattle.oc_declarators.proofs.Words.{ints_read, ints_end, ints_other}
use Rattle.oc_declarators.proofs.integers.ints.Goals as goal

pub returns-in_default-clause-reads : goal.returns-in_default-clause-reads
returns-in_default-clause-reads c = ints_end _ c.in_default.ensures

pub returns-in-Some-int_after-clause-reads : goal.returns-in-Some-int_after-clause-reads
returns-in-Some-int_after-clause-reads c = ints_read _ c.in-Some.ensures (rw (← c.opening_of.ensures) c.in-Some-int_after.ensures)

pub returns-in-None-clause-reads : goal.returns-in-None-clause-reads
returns-in-None-clause-reads c = ints_other _ c.in-Some.ensures (rw (← c.opening_of.ensures) c.in-None.ensures)
