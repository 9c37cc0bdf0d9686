use Rattle.oc_grammar.proofs.Calls.{error_on}
use Rattle.oc_declarators.proofs.Marks.{struct_read, struct_fails}
use Rattle.oc_declarators.proofs.bases.named_struct.Goals as goal

pub returns-in_err-named-clause-reads : goal.returns-in_err-named-clause-reads
returns-in_err-named-clause-reads c = error_on _ _ _ _ _ _ _ _ c.from_residual.ensures.1 c.in_err-named.ensures.reads (λ rest f. struct_fails _ _ _ _ f)

pub returns-clause-reads : goal.returns-clause-reads
returns-clause-reads c = struct_read _ _ _ _ _ c.in_ok-named.ensures.reads
