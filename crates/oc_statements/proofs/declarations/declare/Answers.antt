use Rattle.oc_grammar.proofs.Calls.{error_on}
use Rattle.oc_statements.proofs.Declaring.{names_fail, declare_read}
use Rattle.oc_statements.proofs.declarations.declare.Goals as goal

pub returns-in_err-found-clause-reads : goal.returns-in_err-found-clause-reads
returns-in_err-found-clause-reads c = error_on _ _ _ _ _ _ _ _ c.from_residual.ensures.1 c.in_err-found.ensures.reads (λ rest f. names_fail _ f)

pub returns-clause-reads : goal.returns-clause-reads
returns-clause-reads c = rw c.in_ok-boxed.ensures (declare_read _ c.in_ok-found.ensures.reads)
