use Rattle.std.proofs.Common.{sym}
use Rattle.oc_grammar.proofs.Calls.{error_on}
use Rattle.oc_statements.proofs.Lone as lone
use Rattle.oc_statements.proofs.simple.simple.Goals as goal

pub returns-in_default-clause-reads : goal.returns-in_default-clause-reads
returns-in_default-clause-reads c = lone.simple_end c.in_default.ensures

pub returns-in_ok-boxed-in-Empty-clause-reads : goal.returns-in_ok-boxed-in-Empty-clause-reads
returns-in_ok-boxed-in-Empty-clause-reads c = rw c.in_ok-boxed-in-Empty.ensures (lone.empty_read c.in-Some.ensures (sym c.in-Empty.ensures))

pub returns-in_err-value-in-Return-clause-reads : goal.returns-in_err-value-in-Return-clause-reads
returns-in_err-value-in-Return-clause-reads c = error_on _ _ _ _ _ _ _ _ c.from_residual-in_err-value-in-Return.ensures.1 c.in_err-value-in-Return.ensures.reads (λ rest f. lone.return_fails c.in-Some.ensures (sym c.in-Return.ensures) f)

pub returns-in_ok-boxed-in-Return-clause-reads : goal.returns-in_ok-boxed-in-Return-clause-reads
returns-in_ok-boxed-in-Return-clause-reads c = rw c.in_ok-boxed-in-Return.ensures (lone.return_read c.in-Some.ensures (sym c.in-Return.ensures) c.in_ok-value-in-Return.ensures.reads)

pub returns-in_err-rest-in-Break-clause-reads : goal.returns-in_err-rest-in-Break-clause-reads
returns-in_err-rest-in-Break-clause-reads c = error_on _ _ _ _ _ _ _ _ c.from_residual-in_err-rest-in-Break.ensures.1 c.in_err-rest-in-Break.ensures (λ rest f. lone.break_fails c.in-Some.ensures (sym c.in-Break.ensures) f)

pub returns-in_ok-boxed-in-Break-clause-reads : goal.returns-in_ok-boxed-in-Break-clause-reads
returns-in_ok-boxed-in-Break-clause-reads c = rw c.in_ok-boxed-in-Break.ensures (lone.break_read c.in-Some.ensures (sym c.in-Break.ensures) c.in_ok-rest-in-Break.ensures)

pub returns-in_err-rest-in-Continue-clause-reads : goal.returns-in_err-rest-in-Continue-clause-reads
returns-in_err-rest-in-Continue-clause-reads c = error_on _ _ _ _ _ _ _ _ c.from_residual-in_err-rest-in-Continue.ensures.1 c.in_err-rest-in-Continue.ensures (λ rest f. lone.continue_fails c.in-Some.ensures (sym c.in-Continue.ensures) f)

pub returns-in_ok-boxed-in-Continue-clause-reads : goal.returns-in_ok-boxed-in-Continue-clause-reads
returns-in_ok-boxed-in-Continue-clause-reads c = rw c.in_ok-boxed-in-Continue.ensures (lone.continue_read c.in-Some.ensures (sym c.in-Continue.ensures) c.in_ok-rest-in-Continue.ensures)

pub returns-in_err-value-in-Express-clause-reads : goal.returns-in_err-value-in-Express-clause-reads
returns-in_err-value-in-Express-clause-reads c = error_on _ _ _ _ _ _ _ _ c.from_residual-in_err-value-in-Express.ensures.1 c.in_err-value-in-Express.ensures.reads (λ rest f. lone.express_fails c.in-Some.ensures (sym c.in-Express.ensures) f)

pub returns-in_ok-boxed-in-Express-clause-reads : goal.returns-in_ok-boxed-in-Express-clause-reads
returns-in_ok-boxed-in-Express-clause-reads c = rw c.in_ok-boxed-in-Express.ensures (lone.express_read c.in-Some.ensures (sym c.in-Express.ensures) c.in_ok-value-in-Express.ensures.reads)
