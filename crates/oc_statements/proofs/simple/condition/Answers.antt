use Rattle.oc_grammar.proofs.Calls.{error_on}
use Rattle.oc_statements.proofs.Headers.{paren_fails, inner_fails, condition_read}
use Rattle.oc_statements.proofs.simple.condition.Goals as goal

pub returns-in_err-rest-clause-reads : goal.returns-in_err-rest-clause-reads
returns-in_err-rest-clause-reads c = error_on _ _ _ _ _ _ _ _ c.from_residual.ensures.1 c.in_err-rest.ensures (λ rest f. paren_fails f)

pub returns-in_err-value-clause-reads : goal.returns-in_err-value-clause-reads
returns-in_err-value-clause-reads c = error_on _ _ _ _ _ _ _ _ c.from_residual-in_err-value.ensures.1 c.in_err-value.ensures.reads (λ rest f. inner_fails c.in_ok-rest.ensures f)

pub returns-clause-reads : goal.returns-clause-reads
returns-clause-reads c = condition_read c.in_ok-rest.ensures c.in_ok-value.ensures.reads
