use Rattle.oc_grammar.proofs.Parsing.{through, through_fails}
use Rattle.oc_grammar.proofs.Calls.{error_on, mapped}
use Rattle.oc_parser.proofs.Tops.{name_fails, brace_left, result_left}
use Rattle.oc_parser.proofs.parts.named_part.Goals as goal

pub returns-in_err-named-clause-reads : goal.returns-in_err-named-clause-reads
returns-in_err-named-clause-reads c = error_on _ _ _ _ _ _ _ _ c.from_residual.ensures.1 c.in_err-named.ensures.reads (λ rest f. name_fails _ f)

pub returns-in-Some-clause-reads : goal.returns-in-Some-clause-reads
returns-in-Some-clause-reads c = mapped _ _ _ _ _ _ _ c.struct_part.ensures.reads (λ v r f. through (brace_left _ c.in_ok-named.ensures.reads c.in-Some.ensures) f) (λ r f. through_fails (brace_left _ c.in_ok-named.ensures.reads c.in-Some.ensures) f)

pub returns-in-None-clause-reads : goal.returns-in-None-clause-reads
returns-in-None-clause-reads c = mapped _ _ _ _ _ _ _ c.typed_part.ensures.reads (λ v r f. through (result_left _ c.in_ok-named.ensures.reads c.in-None.ensures) f) (λ r f. through_fails (result_left _ c.in_ok-named.ensures.reads c.in-None.ensures) f)
