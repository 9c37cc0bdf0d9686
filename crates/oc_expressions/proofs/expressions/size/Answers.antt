use Rattle.oc_grammar.proofs.Calls.{error_on}
use Rattle.oc_expressions.proofs.Turns.{size_open_fails, size_type_fails, size_read}
use Rattle.oc_expressions.proofs.expressions.size.Goals as goal

pub returns-in_err-rest-clause-reads : goal.returns-in_err-rest-clause-reads
returns-in_err-rest-clause-reads c = error_on _ _ _ _ _ _ _ _ c.from_residual.ensures.1 c.in_err-rest.ensures (λ rest f. size_open_fails _ f)

pub returns-in_err-ty-clause-reads : goal.returns-in_err-ty-clause-reads
returns-in_err-ty-clause-reads c = error_on _ _ _ _ _ _ _ _ c.from_residual-in_err-ty.ensures.1 c.in_err-ty.ensures.reads (λ rest f. size_type_fails _ c.in_ok-rest.ensures f)

pub returns-clause-reads : goal.returns-clause-reads
returns-clause-reads c = rw c.in_ok-boxed.ensures (size_read _ c.in_ok-rest.ensures c.in_ok-ty.ensures.reads)
