use Rattle.oc_grammar.proofs.Calls.{error_on}
use Rattle.oc_parser.proofs.AfterResults.{named_fails, open_fails, list_fails, signature_read}
use Rattle.oc_parser.proofs.functions.signature.Goals as goal

pub returns-in_err-named-clause-reads : goal.returns-in_err-named-clause-reads
returns-in_err-named-clause-reads c = error_on _ _ _ _ _ _ _ _ c.from_residual.ensures.1 c.in_err-named.ensures.reads (λ rest f. named_fails f)

pub returns-in_err-rest-clause-reads : goal.returns-in_err-rest-clause-reads
returns-in_err-rest-clause-reads c = error_on _ _ _ _ _ _ _ _ c.from_residual-in_err-rest.ensures.1 c.in_err-rest.ensures (λ rest f. open_fails c.in_ok-named.ensures.reads f)

pub returns-in_err-params-clause-reads : goal.returns-in_err-params-clause-reads
returns-in_err-params-clause-reads c = error_on _ _ _ _ _ _ _ _ c.from_residual-in_err-params.ensures.1 c.in_err-params.ensures.reads (λ rest f. list_fails c.in_ok-named.ensures.reads c.in_ok-rest.ensures f)

pub returns-clause-reads : goal.returns-clause-reads
returns-clause-reads c = signature_read c.in_ok-named.ensures.reads c.in_ok-rest.ensures c.in_ok-params.ensures.reads c.mark-obliv.ensures
