use Rattle.oc_grammar.proofs.Calls.{error_on}
use Rattle.oc_statements.proofs.Headers.{absent_read, given_fails, given_read}
use Rattle.oc_statements.proofs.simple.perhaps.Goals as goal

pub returns-in-Some-clause-reads : goal.returns-in-Some-clause-reads
returns-in-Some-clause-reads c = absent_read _ c.requires.first c.in-Some.ensures

pub returns-in_err-value-in-None-clause-reads : goal.returns-in_err-value-in-None-clause-reads
returns-in_err-value-in-None-clause-reads c = error_on _ _ _ _ _ _ _ _ c.from_residual.ensures.1 c.in_err-value-in-None.ensures.reads (λ rest f. given_fails _ c.in-None.ensures f)

pub returns-in_ok-value-in-None-clause-reads : goal.returns-in_ok-value-in-None-clause-reads
returns-in_ok-value-in-None-clause-reads c = given_read _ c.in-None.ensures c.in_ok-value-in-None.ensures.reads
