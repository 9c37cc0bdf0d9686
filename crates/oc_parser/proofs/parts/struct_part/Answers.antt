use Rattle.oc_grammar.proofs.Calls.{error_on}
use Rattle.oc_parser.proofs.Tops.{closed_fails, end_fails, struct_read}
use Rattle.oc_parser.proofs.parts.struct_part.Goals as goal

pub returns-in_err-fields-clause-reads : goal.returns-in_err-fields-clause-reads
returns-in_err-fields-clause-reads c = error_on _ _ _ _ _ _ _ _ c.from_residual.ensures.1 c.in_err-fields.ensures.reads (λ rest f. closed_fails _ f)

pub returns-in_err-rest-clause-reads : goal.returns-in_err-rest-clause-reads
returns-in_err-rest-clause-reads c = error_on _ _ _ _ _ _ _ _ c.from_residual-in_err-rest.ensures.1 c.in_err-rest.ensures (λ rest f. end_fails _ c.in_ok-fields.ensures.reads f)

pub returns-clause-reads : goal.returns-clause-reads
returns-clause-reads c = struct_read _ c.in_ok-fields.ensures.reads c.in_ok-rest.ensures
