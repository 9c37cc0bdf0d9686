use Rattle.oc_grammar.proofs.Calls.{error_on}
use Rattle.oc_parser.proofs.ParameterLists.{no_brackets, open_read, size_fails, size_read}
use Rattle.oc_parser.proofs.params.brackets.Goals as goal

pub returns-in_default-clause-reads : goal.returns-in_default-clause-reads
returns-in_default-clause-reads c = no_brackets c.in_default.ensures

pub returns-in-Some-eat-clause-reads : goal.returns-in-Some-eat-clause-reads
returns-in-Some-eat-clause-reads c = open_read c.in-Some.ensures c.in-Some-eat.ensures

pub returns-in_err-size-in-None-clause-reads : goal.returns-in_err-size-in-None-clause-reads
returns-in_err-size-in-None-clause-reads c = error_on _ _ _ _ _ _ _ _ c.from_residual.ensures.1 c.in_err-size-in-None.ensures.reads (λ rest f. size_fails c.in-Some.ensures c.in-None.ensures f)

pub returns-in_ok-size-in-None-clause-reads : goal.returns-in_ok-size-in-None-clause-reads
returns-in_ok-size-in-None-clause-reads c = size_read c.in-Some.ensures c.in-None.ensures c.in_ok-size-in-None.ensures.reads
