use Rattle.oc_grammar.proofs.Calls.{error_on}
use Rattle.oc_parser.proofs.Tops.{function_fails, function_part_read}
use Rattle.oc_parser.proofs.parts.function_part.Goals as goal

pub returns-in_err-function-clause-reads : goal.returns-in_err-function-clause-reads
returns-in_err-function-clause-reads c = error_on _ _ _ _ _ _ _ _ c.from_residual.ensures.1 c.in_err-function.ensures.reads (λ rest f. function_fails _ f)

pub returns-clause-reads : goal.returns-clause-reads
returns-clause-reads c = function_part_read _ c.in_ok-function.ensures.reads
