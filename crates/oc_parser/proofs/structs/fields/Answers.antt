use Rattle.oc_grammar.proofs.Calls.{error_on}
use Rattle.oc_parser.proofs.Fields.{base_fails, names_fail, end_fails, fields_read}
use Rattle.oc_parser.proofs.structs.fields.Goals as goal

pub returns-in_err-base-clause-reads : goal.returns-in_err-base-clause-reads
returns-in_err-base-clause-reads c = error_on _ _ _ _ _ _ _ _ c.from_residual.ensures.1 c.in_err-base.ensures.reads (λ rest f. base_fails f)

pub returns-in_err-found-clause-reads : goal.returns-in_err-found-clause-reads
returns-in_err-found-clause-reads c = error_on _ _ _ _ _ _ _ _ c.from_residual-in_err-found.ensures.1 c.in_err-found.ensures.reads (λ rest f. names_fail c.in_ok-base.ensures.reads f)

pub returns-in_err-rest-clause-reads : goal.returns-in_err-rest-clause-reads
returns-in_err-rest-clause-reads c = error_on _ _ _ _ _ _ _ _ c.from_residual-in_err-rest.ensures.1 c.in_err-rest.ensures (λ rest f. end_fails c.in_ok-base.ensures.reads c.in_ok-found.ensures.reads f)

pub returns-clause-reads : goal.returns-clause-reads
returns-clause-reads c = fields_read c.in_ok-base.ensures.reads c.in_ok-found.ensures.reads c.in_ok-rest.ensures
