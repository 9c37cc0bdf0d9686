use Rattle.oc_grammar.proofs.Calls.{error_on}
use Rattle.oc_declarators.proofs.Names.{type_fails, pointers_fail, paren_fails, type_read}
use Rattle.oc_declarators.proofs.declarators.closed_type.Goals as goal

pub returns-in_err-base-clause-reads : goal.returns-in_err-base-clause-reads
returns-in_err-base-clause-reads c = error_on _ _ _ _ _ _ _ _ c.from_residual.ensures.1 c.in_err-base.ensures.reads (λ rest f. type_fails f)

pub returns-in_err-stars-clause-reads : goal.returns-in_err-stars-clause-reads
returns-in_err-stars-clause-reads c = error_on _ _ _ _ _ _ _ _ c.from_residual-in_err-stars.ensures.1 c.in_err-stars.ensures.reads (λ rest f. pointers_fail c.in_ok-base.ensures.reads f)

pub returns-in_err-rest-clause-reads : goal.returns-in_err-rest-clause-reads
returns-in_err-rest-clause-reads c = error_on _ _ _ _ _ _ _ _ c.from_residual-in_err-rest.ensures.1 c.in_err-rest.ensures (λ rest f. paren_fails c.in_ok-base.ensures.reads c.in_ok-stars.ensures.reads f)

pub returns-clause-reads : goal.returns-clause-reads
returns-clause-reads c = type_read c.in_ok-base.ensures.reads c.in_ok-stars.ensures.reads c.in_ok-rest.ensures
