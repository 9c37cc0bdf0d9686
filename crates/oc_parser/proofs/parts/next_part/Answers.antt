use Rattle.oc_grammar.proofs.Parsing.{through, through_fails}
use Rattle.oc_grammar.proofs.Calls.{error_on, mapped}
use Rattle.oc_parser.proofs.Tops.{named_left, void_left, type_fails, type_read}
use Rattle.oc_parser.proofs.parts.next_part.Goals as goal

pub returns-in-Some-clause-reads : goal.returns-in-Some-clause-reads
returns-in-Some-clause-reads c = mapped _ _ _ _ _ _ _ c.named_part.ensures.reads (λ v r f. through (rw c.next_spot.ensures (named_left c.in-Some.ensures)) f) (λ r f. through_fails (rw c.next_spot.ensures (named_left c.in-Some.ensures)) f)

pub returns-in-Some-eat_word-clause-reads : goal.returns-in-Some-eat_word-clause-reads
returns-in-Some-eat_word-clause-reads c = mapped _ _ _ _ _ _ _ c.function_part.ensures.reads (λ v r f. through (void_left c.in-Some-eat_word.ensures) f) (λ r f. through_fails (void_left c.in-Some-eat_word.ensures) f)

pub returns-in_err-base-clause-reads : goal.returns-in_err-base-clause-reads
returns-in_err-base-clause-reads c = error_on _ _ _ _ _ _ _ _ c.from_residual.ensures.1 c.in_err-base.ensures.reads (λ rest f. type_fails c.in_default.ensures c.in_default-eat_word.ensures f)

pub returns-clause-reads : goal.returns-clause-reads
returns-clause-reads c = mapped _ _ _ _ _ _ _ c.typed_part.ensures.reads (λ v r f. through (type_read c.in_default.ensures c.in_default-eat_word.ensures c.in_ok-base.ensures.reads) f) (λ r f. through_fails (type_read c.in_default.ensures c.in_default-eat_word.ensures c.in_ok-base.ensures.reads) f)
