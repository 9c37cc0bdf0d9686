use Rattle.oc_grammar.proofs.Calls.{error_on}
use Rattle.oc_parser.proofs.AfterResults.{signature_fails, body_fails, function_read}
use Rattle.oc_parser.proofs.functions.function.Goals as goal

pub returns-in_err-heading-clause-reads : goal.returns-in_err-heading-clause-reads
returns-in_err-heading-clause-reads c = error_on _ _ _ _ _ _ _ _ c.from_residual.ensures.1 c.in_err-heading.ensures.reads (λ rest f. signature_fails _ f)

pub returns-in_err-body-clause-reads : goal.returns-in_err-body-clause-reads
returns-in_err-body-clause-reads c = error_on _ _ _ _ _ _ _ _ c.from_residual-in_err-body.ensures.1 c.in_err-body.ensures.reads (λ rest f. body_fails _ c.in_ok-heading.ensures.reads f)

pub returns-clause-reads : goal.returns-clause-reads
returns-clause-reads c = function_read _ c.in_ok-heading.ensures.reads c.in_ok-body.ensures.reads
