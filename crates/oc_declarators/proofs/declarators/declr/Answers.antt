use Rattle.oc_grammar.proofs.Calls.{error_on}
use Rattle.oc_declarators.proofs.Names.{stars_fail, name_fails, dims_fail, declr_read}
use Rattle.oc_declarators.proofs.declarators.declr.Goals as goal

pub returns-in_err-stars-clause-reads : goal.returns-in_err-stars-clause-reads
returns-in_err-stars-clause-reads c = error_on _ _ _ _ _ _ _ _ c.from_residual.ensures.1 c.in_err-stars.ensures.reads (λ rest f. stars_fail _ f)

pub returns-in_err-named-clause-reads : goal.returns-in_err-named-clause-reads
returns-in_err-named-clause-reads c = error_on _ _ _ _ _ _ _ _ c.from_residual-in_err-named.ensures.1 c.in_err-named.ensures.reads (λ rest f. name_fails _ c.in_ok-stars.ensures.reads f)

pub returns-in_err-dims-clause-reads : goal.returns-in_err-dims-clause-reads
returns-in_err-dims-clause-reads c = error_on _ _ _ _ _ _ _ _ c.from_residual-in_err-dims.ensures.1 c.in_err-dims.ensures.reads (λ rest f. dims_fail _ c.in_ok-stars.ensures.reads c.in_ok-named.ensures.reads f)

pub returns-clause-reads : goal.returns-clause-reads
returns-clause-reads c = rw c.in_ok-copied.ensures (declr_read _ c.in_ok-stars.ensures.reads c.in_ok-named.ensures.reads c.in_ok-dims.ensures.reads)
