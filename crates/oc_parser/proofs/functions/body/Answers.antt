use Rattle.oc_grammar.proofs.Calls.{error_on}
use Rattle.oc_parser.proofs.AfterResults.{prototype_read, block_fails, block_read}
use Rattle.oc_parser.proofs.functions.body.Goals as goal

pub returns-in-Some-clause-reads : goal.returns-in-Some-clause-reads
returns-in-Some-clause-reads c = prototype_read c.in-Some.ensures

pub returns-in_err-steps-in-None-clause-reads : goal.returns-in_err-steps-in-None-clause-reads
returns-in_err-steps-in-None-clause-reads c = error_on _ _ _ _ _ _ _ _ c.from_residual.ensures.1 c.in_err-steps-in-None.ensures.reads (λ rest f. block_fails c.in-None.ensures f)

pub returns-in_ok-steps-in-None-clause-reads : goal.returns-in_ok-steps-in-None-clause-reads
returns-in_ok-steps-in-None-clause-reads c = block_read c.in-None.ensures c.in_ok-steps-in-None.ensures.reads
