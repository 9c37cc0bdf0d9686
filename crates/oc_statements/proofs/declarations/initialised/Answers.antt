use Rattle.oc_grammar.proofs.Calls.{error_on}
use Rattle.oc_statements.proofs.Declaring.{declr_fails, value_fails, bare_read, set_read}
use Rattle.oc_statements.proofs.declarations.initialised.Goals as goal

pub returns-in_err-field-clause-reads : goal.returns-in_err-field-clause-reads
returns-in_err-field-clause-reads c = error_on _ _ _ _ _ _ _ _ c.from_residual.ensures.1 c.in_err-field.ensures.reads (λ rest f. declr_fails _ f)

pub returns-in_err-value-in-Some-clause-reads : goal.returns-in_err-value-in-Some-clause-reads
returns-in_err-value-in-Some-clause-reads c = error_on _ _ _ _ _ _ _ _ c.from_residual-in_err-value-in-Some.ensures.1 c.in_err-value-in-Some.ensures.reads (λ rest f. value_fails _ c.in_ok-field.ensures.reads c.in-Some.ensures f)

pub returns-in-None-clause-reads : goal.returns-in-None-clause-reads
returns-in-None-clause-reads c = bare_read _ c.in_ok-field.ensures.reads c.in-None.ensures

pub returns-in_ok-value-in-Some-clause-reads : goal.returns-in_ok-value-in-Some-clause-reads
returns-in_ok-value-in-Some-clause-reads c = set_read _ c.in_ok-field.ensures.reads c.in-Some.ensures c.in_ok-value-in-Some.ensures.reads
