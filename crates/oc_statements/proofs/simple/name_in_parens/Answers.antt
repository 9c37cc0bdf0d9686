use Rattle.oc_grammar.proofs.Calls.{error_on}
use Rattle.oc_statements.proofs.Headers.{name_open_fails, name_fails, name_close_fails, name_read}
use Rattle.oc_statements.proofs.simple.name_in_parens.Goals as goal

pub returns-in_err-rest-clause-reads : goal.returns-in_err-rest-clause-reads
returns-in_err-rest-clause-reads c = error_on _ _ _ _ _ _ _ _ c.from_residual.ensures.1 c.in_err-rest.ensures (λ rest f. name_open_fails f)

pub returns-in_err-named-clause-reads : goal.returns-in_err-named-clause-reads
returns-in_err-named-clause-reads c = error_on _ _ _ _ _ _ _ _ c.from_residual-in_err-named.ensures.1 c.in_err-named.ensures.reads (λ rest f. name_fails c.in_ok-rest.ensures f)

pub returns-in_err-rest-2-clause-reads : goal.returns-in_err-rest-2-clause-reads
returns-in_err-rest-2-clause-reads c = error_on _ _ _ _ _ _ _ _ c.from_residual-in_err-rest-2.ensures.1 c.in_err-rest-2.ensures (λ rest f. name_close_fails c.in_ok-rest.ensures c.in_ok-named.ensures.reads f)

pub returns-clause-reads : goal.returns-clause-reads
returns-clause-reads c = name_read c.in_ok-rest.ensures c.in_ok-named.ensures.reads c.in_ok-rest-2.ensures
