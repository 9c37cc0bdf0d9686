use Rattle.oc_grammar.proofs.Calls.{error_on}
use Rattle.oc_parser.proofs.ParameterLists.{none_read, void_fails, void_read, listed_fails, paren_fails, params_read}
use Rattle.oc_parser.proofs.params.closed_parameters.Goals as goal

pub returns-in-Some-clause-reads : goal.returns-in-Some-clause-reads
returns-in-Some-clause-reads c = rw c.new.ensures (none_read c.in-Some.ensures)

pub returns-in_err-rest-clause-reads : goal.returns-in_err-rest-clause-reads
returns-in_err-rest-clause-reads c = error_on _ _ _ _ _ _ _ _ c.from_residual.ensures.1 c.in_err-rest.ensures (λ rest f. void_fails c.in_default.ensures c.in-Some-eat_word.ensures f)

pub returns-in-Some-eat_word-clause-reads : goal.returns-in-Some-eat_word-clause-reads
returns-in-Some-eat_word-clause-reads c = rw c.new-in-Some-eat_word.ensures (void_read c.in_default.ensures c.in-Some-eat_word.ensures c.in_ok-rest.ensures)

pub returns-in_err-found-clause-reads : goal.returns-in_err-found-clause-reads
returns-in_err-found-clause-reads c = error_on _ _ _ _ _ _ _ _ c.from_residual-in_err-found.ensures.1 c.in_err-found.ensures.reads (λ rest f. listed_fails c.in_default.ensures c.in_default-eat_word.ensures f)

pub returns-in_err-rest-2-clause-reads : goal.returns-in_err-rest-2-clause-reads
returns-in_err-rest-2-clause-reads c = error_on _ _ _ _ _ _ _ _ c.from_residual-in_err-rest-2.ensures.1 c.in_err-rest-2.ensures (λ rest f. paren_fails c.in_default.ensures c.in_default-eat_word.ensures c.in_ok-found.ensures.reads f)

pub returns-clause-reads : goal.returns-clause-reads
returns-clause-reads c = params_read c.in_default.ensures c.in_default-eat_word.ensures c.in_ok-found.ensures.reads c.in_ok-rest-2.ensures
