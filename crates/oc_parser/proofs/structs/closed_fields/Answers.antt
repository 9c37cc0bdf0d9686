use Rattle.std.proofs.Common.{arith}
use Rattle.oc_grammar.proofs.Calls.{error_on}
use Rattle.oc_parser.proofs.Fields.{first_fails, first_read, run_done, run_fails, run_read}
use Rattle.oc_parser.proofs.structs.closed_fields.Goals as goal

pub returns-in_err-found-clause-reads : goal.returns-in_err-found-clause-reads
returns-in_err-found-clause-reads c = error_on _ _ _ _ _ _ _ _ c.from_residual.ensures.1 c.in_err-found.ensures.reads (λ rest f. first_fails f)

pub loop-after-init : goal.loop-after-init
loop-after-init c = record { reads = first_read c.in_ok-found.ensures.reads; shorter = c.in_ok-found.ensures.shorter }

pub returns-in-Some-clause-reads : goal.returns-in-Some-clause-reads
returns-in-Some-clause-reads c = run_done c.loop-after.invariant.reads c.in-Some.ensures

pub returns-in_err-more-in-None-clause-reads : goal.returns-in_err-more-in-None-clause-reads
returns-in_err-more-in-None-clause-reads c = error_on _ _ _ _ _ _ _ _ c.from_residual-in_err-more-in-None.ensures.1 c.in_err-more-in-None.ensures.reads (λ rest f. run_fails c.loop-after.invariant.reads c.in-None.ensures f)

pub loop-after-preserved : goal.loop-after-preserved
loop-after-preserved c = record { reads = rw c.in_ok-append-in-None.ensures (run_read c.loop-after.invariant.reads c.in-None.ensures c.in_ok-more-in-None.ensures.reads); shorter = omega (arith, c.in_ok-more-in-None.ensures.shorter, c.loop-after.invariant.shorter) }
