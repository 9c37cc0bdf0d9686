use Rattle.std.proofs.Common.{arith, ap, length}
use Rattle.oc_grammar.proofs.Calls.{error_on}
use Rattle.oc_declarators.proofs.Names.{dims_opened, length_fails, length_read, dims_done}
use Rattle.oc_declarators.proofs.declarators.dims.Goals as goal

pub loop-after-init : goal.loop-after-init
loop-after-init c = record { reads = rw c.new-found.ensures (dims_opened _); shorter = omega arith }

pub returns-in_err-value-clause-reads : goal.returns-in_err-value-clause-reads
returns-in_err-value-clause-reads c = error_on _ _ _ _ _ _ _ _ c.from_residual.ensures.1 c.in_err-value.ensures.reads (λ rest f. length_fails c.loop-after.invariant.reads c.in-Some.ensures f)

pub loop-after-preserved : goal.loop-after-preserved
loop-after-preserved c = record { reads = rw c.in_ok-push.ensures.ok (length_read c.loop-after.invariant.reads c.in-Some.ensures c.in_ok-value.ensures.reads); shorter = omega (arith, ap length c.in-Some.ensures.whole, c.in_ok-value.ensures.shorter, c.loop-after.invariant.shorter) }

pub returns-clause-reads : goal.returns-clause-reads
returns-clause-reads c = dims_done c.loop-after.invariant.reads c.in_default.ensures
