use Rattle.oc_grammar.proofs.Calls.{error_on}
use Rattle.oc_parser.proofs.ParameterLists.{base_fails, stars_fail, name_fails, array_fails, param_read}
use Rattle.oc_parser.proofs.params.param.Goals as goal

pub returns-in_err-base-clause-reads : goal.returns-in_err-base-clause-reads
returns-in_err-base-clause-reads c = error_on _ _ _ _ _ _ _ _ c.from_residual.ensures.1 c.in_err-base.ensures.reads (λ rest f. base_fails f)

pub returns-in_err-stars-clause-reads : goal.returns-in_err-stars-clause-reads
returns-in_err-stars-clause-reads c = error_on _ _ _ _ _ _ _ _ c.from_residual-in_err-stars.ensures.1 c.in_err-stars.ensures.reads (λ rest f. stars_fail c.in_ok-base.ensures.reads f)

pub returns-in_err-named-clause-reads : goal.returns-in_err-named-clause-reads
returns-in_err-named-clause-reads c = error_on _ _ _ _ _ _ _ _ c.from_residual-in_err-named.ensures.1 c.in_err-named.ensures.reads (λ rest f. name_fails c.in_ok-base.ensures.reads c.in_ok-stars.ensures.reads f)

pub returns-in_err-array-clause-reads : goal.returns-in_err-array-clause-reads
returns-in_err-array-clause-reads c = error_on _ _ _ _ _ _ _ _ c.from_residual-in_err-array.ensures.1 c.in_err-array.ensures.reads (λ rest f. array_fails c.in_ok-base.ensures.reads c.in_ok-stars.ensures.reads c.in_ok-named.ensures.reads f)

pub returns-clause-reads : goal.returns-clause-reads
returns-clause-reads c = param_read c.in_ok-base.ensures.reads c.in_ok-stars.ensures.reads c.in_ok-named.ensures.reads c.in_ok-array.ensures.reads
