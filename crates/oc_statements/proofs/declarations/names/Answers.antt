use Rattle.oc_grammar.proofs.Calls.{error_on}
use Rattle.oc_statements.proofs.Declaring.{list_fails, end_fails, names_read}
use Rattle.oc_statements.proofs.declarations.names.Goals as goal

pub returns-in_err-found-clause-reads : goal.returns-in_err-found-clause-reads
returns-in_err-found-clause-reads c = error_on _ _ _ _ _ _ _ _ c.from_residual.ensures.1 c.in_err-found.ensures.reads (λ rest f. list_fails _ f)

pub returns-in_err-rest-clause-reads : goal.returns-in_err-rest-clause-reads
returns-in_err-rest-clause-reads c = error_on _ _ _ _ _ _ _ _ c.from_residual-in_err-rest.ensures.1 c.in_err-rest.ensures (λ rest f. end_fails _ c.in_ok-found.ensures.reads f)

pub returns-clause-reads : goal.returns-clause-reads
returns-clause-reads c = names_read _ c.in_ok-found.ensures.reads c.in_ok-rest.ensures
