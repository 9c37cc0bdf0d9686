use Rattle.oc_grammar.proofs.Parsing.{through, through_fails}
use Rattle.oc_grammar.proofs.Calls.{error_on, mapped}
use Rattle.oc_parser.proofs.Tops.{stars_fail, stars_read}
use Rattle.oc_parser.proofs.parts.typed_part.Goals as goal

pub returns-in_err-stars-clause-reads : goal.returns-in_err-stars-clause-reads
returns-in_err-stars-clause-reads c = error_on _ _ _ _ _ _ _ _ c.from_residual.ensures.1 c.in_err-stars.ensures.reads (λ rest f. stars_fail _ f)

pub returns-clause-reads : goal.returns-clause-reads
returns-clause-reads c = mapped _ _ _ _ _ _ _ c.function_part.ensures.reads (λ v r f. through (stars_read _ c.in_ok-stars.ensures.reads) f) (λ r f. through_fails (stars_read _ c.in_ok-stars.ensures.reads) f)
