use Rattle.oc_grammar.proofs.Calls.{error_on}
use Rattle.oc_statements.proofs.Headers.{base_fails, names_fail, declares_read, perhaps_fails, perhaps_read}
use Rattle.oc_statements.proofs.simple.init.Goals as goal

pub returns-in_err-base-clause-reads : goal.returns-in_err-base-clause-reads
returns-in_err-base-clause-reads c = error_on _ _ _ _ _ _ _ _ c.from_residual.ensures.1 c.in_err-base.ensures.reads (λ rest f. base_fails (c.begins_type.ensures.0 c.if-begins_type.true) f)

pub returns-in_err-found-clause-reads : goal.returns-in_err-found-clause-reads
returns-in_err-found-clause-reads c = error_on _ _ _ _ _ _ _ _ c.from_residual-in_err-found.ensures.1 c.in_err-found.ensures.reads (λ rest f. names_fail (c.begins_type.ensures.0 c.if-begins_type.true) c.in_ok-base.ensures.reads f)

pub returns-then-begins_type-clause-reads : goal.returns-then-begins_type-clause-reads
returns-then-begins_type-clause-reads c = declares_read (c.begins_type.ensures.0 c.if-begins_type.true) c.in_ok-base.ensures.reads c.in_ok-found.ensures.reads

pub returns-in_err-value-clause-reads : goal.returns-in_err-value-clause-reads
returns-in_err-value-clause-reads c = error_on _ _ _ _ _ _ _ _ c.from_residual-in_err-value.ensures.1 c.in_err-value.ensures.reads (λ rest f. perhaps_fails (λ b. let h = c.begins_type.ensures.1 b in let g = c.if-begins_type.false in cc) f)

pub returns-in-Some-clause-reads : goal.returns-in-Some-clause-reads
returns-in-Some-clause-reads c = perhaps_read (λ b. let h = c.begins_type.ensures.1 b in let g = c.if-begins_type.false in cc) (rw c.in-Some.is at c.in_ok-value.ensures.reads)

pub returns-in-None-clause-reads : goal.returns-in-None-clause-reads
returns-in-None-clause-reads c = perhaps_read (λ b. let h = c.begins_type.ensures.1 b in let g = c.if-begins_type.false in cc) (rw c.in-None.is at c.in_ok-value.ensures.reads)
