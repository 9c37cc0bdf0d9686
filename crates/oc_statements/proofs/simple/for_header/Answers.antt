use Rattle.oc_grammar.proofs.Calls.{error_on}
use Rattle.oc_statements.proofs.Headers.{open_fails, init_fails, cond_fails, advance_fails, header_read}
use Rattle.oc_statements.proofs.simple.for_header.Goals as goal

pub returns-in_err-rest-clause-reads : goal.returns-in_err-rest-clause-reads
returns-in_err-rest-clause-reads c = error_on _ _ _ _ _ _ _ _ c.from_residual.ensures.1 c.in_err-rest.ensures (λ rest f. open_fails f)

pub returns-in_err-init-clause-reads : goal.returns-in_err-init-clause-reads
returns-in_err-init-clause-reads c = error_on _ _ _ _ _ _ _ _ c.from_residual-in_err-init.ensures.1 c.in_err-init.ensures.reads (λ rest f. init_fails c.in_ok-rest.ensures f)

pub returns-in_err-cond-clause-reads : goal.returns-in_err-cond-clause-reads
returns-in_err-cond-clause-reads c = error_on _ _ _ _ _ _ _ _ c.from_residual-in_err-cond.ensures.1 c.in_err-cond.ensures.reads (λ rest f. cond_fails c.in_ok-rest.ensures c.in_ok-init.ensures.reads f)

pub returns-in_err-advance-clause-reads : goal.returns-in_err-advance-clause-reads
returns-in_err-advance-clause-reads c = error_on _ _ _ _ _ _ _ _ c.from_residual-in_err-advance.ensures.1 c.in_err-advance.ensures.reads (λ rest f. advance_fails c.in_ok-rest.ensures c.in_ok-init.ensures.reads c.in_ok-cond.ensures.reads f)

pub returns-clause-reads : goal.returns-clause-reads
returns-clause-reads c = header_read c.in_ok-rest.ensures c.in_ok-init.ensures.reads c.in_ok-cond.ensures.reads c.in_ok-advance.ensures.reads
