use Rattle.std.proofs.Common.{arith, sym, ◌∙◌}
use Rattle.oc_grammar.proofs.Parsing.{through, through_fails}
use Rattle.oc_grammar.proofs.Calls.{error_on, mapped}
use Rattle.oc_statements.proofs.Blocks as block
use Rattle.oc_statements.proofs.Branching as branch
use Rattle.oc_statements.proofs.Closing as closing
use Rattle.oc_statements.proofs.Stepping as step
use Rattle.oc_statements.proofs.Turns as turn
use Rattle.oc_statements.proofs.statements.+stmt.Goals as goal

-- ---- a statement

pub stmt-returns-in_default-clause-reads : goal.stmt-returns-in_default-clause-reads
stmt-returns-in_default-clause-reads t c = turn.statement_end c.in_default.ensures

pub stmt-returns-in_err-steps-in-Block-clause-reads : goal.stmt-returns-in_err-steps-in-Block-clause-reads
stmt-returns-in_err-steps-in-Block-clause-reads t c = error_on _ _ _ _ _ _ _ _ c.from_residual.ensures.1 c.in_err-steps-in-Block.ensures.reads (λ rest f. turn.block_fails c.in-Some.ensures (sym c.in-Block.ensures) f)

pub stmt-returns-in_ok-boxed-in-Block-clause-reads : goal.stmt-returns-in_ok-boxed-in-Block-clause-reads
stmt-returns-in_ok-boxed-in-Block-clause-reads t c = rw c.in_ok-boxed-in-Block.ensures (turn.block_found c.in-Some.ensures (sym c.in-Block.ensures) c.in_ok-steps-in-Block.ensures.reads)

pub stmt-returns-in-If-clause-reads : goal.stmt-returns-in-If-clause-reads
stmt-returns-in-If-clause-reads t c = let l = turn.lead_left c.in-Some.ensures (sym c.in-If.ensures) in mapped _ _ _ _ _ _ _ c.conditional.ensures.reads (λ v r f. through l f) (λ r f. through_fails l f)

pub stmt-returns-in-While-clause-reads : goal.stmt-returns-in-While-clause-reads
stmt-returns-in-While-clause-reads t c = let l = turn.lead_left c.in-Some.ensures (sym c.in-While.ensures) in mapped _ _ _ _ _ _ _ c.while_loop.ensures.reads (λ v r f. through l f) (λ r f. through_fails l f)

pub stmt-returns-in-For-clause-reads : goal.stmt-returns-in-For-clause-reads
stmt-returns-in-For-clause-reads t c = let l = turn.lead_left c.in-Some.ensures (sym c.in-For.ensures) in mapped _ _ _ _ _ _ _ c.for_loop.ensures.reads (λ v r f. through l f) (λ r f. through_fails l f)

pub stmt-returns-in_err-rest-in-Obliv-clause-reads : goal.stmt-returns-in_err-rest-in-Obliv-clause-reads
stmt-returns-in_err-rest-in-Obliv-clause-reads t c = error_on _ _ _ _ _ _ _ _ c.from_residual-in_err-rest-in-Obliv.ensures.1 c.in_err-rest-in-Obliv.ensures.reads (λ rest f. turn.word_fails c.in-Some.ensures (sym c.in-Obliv.ensures) f)

pub stmt-returns-in_ok-rest-in-Obliv-clause-reads : goal.stmt-returns-in_ok-rest-in-Obliv-clause-reads
stmt-returns-in_ok-rest-in-Obliv-clause-reads t c = let l = turn.obliv_left c.in-Some.ensures (sym c.in-Obliv.ensures) c.in_ok-rest-in-Obliv.ensures.reads in mapped _ _ _ _ _ _ _ c.conditional-in-Obliv.ensures.reads (λ v r f. through l f) (λ r f. through_fails l f)

pub stmt-returns-in-Some-eat_word-clause-reads : goal.stmt-returns-in-Some-eat_word-clause-reads
stmt-returns-in-Some-eat_word-clause-reads t c = let l = turn.always_left c.in-Some.ensures (sym c.in-Tilde.ensures) c.in-Some-eat_word.ensures in mapped _ _ _ _ _ _ _ c.always.ensures.reads (λ v r f. closing.last_read l f) (λ r f. closing.last_fails l f)

pub stmt-returns-in-None-clause-reads : goal.stmt-returns-in-None-clause-reads
stmt-returns-in-None-clause-reads t c = mapped _ _ _ _ _ _ _ c.simple.ensures.reads (λ v r f. turn.tilde_found c.in-Some.ensures (sym c.in-Tilde.ensures) c.in-None.ensures f) (λ r f. turn.tilde_fails c.in-Some.ensures (sym c.in-Tilde.ensures) c.in-None.ensures f)

pub stmt-returns-in-Simple-clause-reads : goal.stmt-returns-in-Simple-clause-reads
stmt-returns-in-Simple-clause-reads t c = mapped _ _ _ _ _ _ _ c.simple-in-Simple.ensures.reads (λ v r f. turn.simple_found c.in-Some.ensures (sym c.in-Simple.ensures) f) (λ r f. turn.simple_fails c.in-Some.ensures (sym c.in-Simple.ensures) f)

pub stmt-returns-in-None-clause-closed : goal.stmt-returns-in-None-clause-closed
stmt-returns-in-None-clause-closed t c = closing.simple_closed _ _ c.simple.ensures.reads

pub stmt-returns-in-Simple-clause-closed : goal.stmt-returns-in-Simple-clause-closed
stmt-returns-in-Simple-clause-closed t c = closing.simple_closed _ _ c.simple-in-Simple.ensures.reads

-- ---- `if`

pub conditional-returns-in_err-cond-clause-reads : goal.conditional-returns-in_err-cond-clause-reads
conditional-returns-in_err-cond-clause-reads t c = error_on _ _ _ _ _ _ _ _ c.from_residual.ensures.1 c.in_err-cond.ensures.reads (λ rest f. branch.cond_fails _ _ f)

pub conditional-returns-in_err-yes-clause-reads : goal.conditional-returns-in_err-yes-clause-reads
conditional-returns-in_err-yes-clause-reads t c = error_on _ _ _ _ _ _ _ _ c.from_residual-in_err-yes.ensures.1 c.in_err-yes.ensures.reads (λ rest f. branch.yes_fails _ _ c.in_ok-cond.ensures.reads f)

pub conditional-returns-in_err-no-in-Some-clause-reads : goal.conditional-returns-in_err-no-in-Some-clause-reads
conditional-returns-in_err-no-in-Some-clause-reads t c = error_on _ _ _ _ _ _ _ _ c.from_residual-in_err-no-in-Some.ensures.1 c.in_err-no-in-Some.ensures.reads (λ rest f. branch.no_fails _ _ c.in_ok-cond.ensures.reads c.in_ok-yes.ensures.reads c.in_ok-yes.ensures.closed c.in-Some.ensures f)

pub conditional-returns-in_ok-branched-in-None-clause-reads : goal.conditional-returns-in_ok-branched-in-None-clause-reads
conditional-returns-in_ok-branched-in-None-clause-reads t c = rw c.in_ok-branched-in-None.ensures (branch.if_read _ _ c.in_ok-cond.ensures.reads c.in_ok-yes.ensures.reads c.in-None.ensures)

pub conditional-returns-in_ok-branched-in-Some-clause-reads : goal.conditional-returns-in_ok-branched-in-Some-clause-reads
conditional-returns-in_ok-branched-in-Some-clause-reads t c = rw c.in_ok-branched-in-Some.ensures (branch.if_else_read _ _ c.in_ok-cond.ensures.reads c.in_ok-yes.ensures.reads c.in_ok-yes.ensures.closed c.in-Some.ensures c.in_ok-no-in-Some.ensures.reads)

pub conditional-returns-in_ok-branched-in-Some-clause-closed : goal.conditional-returns-in_ok-branched-in-Some-clause-closed
conditional-returns-in_ok-branched-in-Some-clause-closed t c = rw c.in_ok-branched-in-Some.ensures (λ o. c.in_ok-no-in-Some.ensures.closed (sym (branch.open_some c.args.spot c.args.obliv c.in_ok-cond.cond c.in_ok-yes.yes c.in_ok-no-in-Some.no) ∙ o))

-- ---- `while`

pub while_loop-returns-in_err-cond-clause-reads : goal.while_loop-returns-in_err-cond-clause-reads
while_loop-returns-in_err-cond-clause-reads t c = error_on _ _ _ _ _ _ _ _ c.from_residual.ensures.1 c.in_err-cond.ensures.reads (λ rest f. branch.while_cond_fails _ f)

pub while_loop-returns-in_err-body-clause-reads : goal.while_loop-returns-in_err-body-clause-reads
while_loop-returns-in_err-body-clause-reads t c = error_on _ _ _ _ _ _ _ _ c.from_residual-in_err-body.ensures.1 c.in_err-body.ensures.reads (λ rest f. branch.while_body_fails _ c.in_ok-cond.ensures.reads f)

pub while_loop-returns-clause-reads : goal.while_loop-returns-clause-reads
while_loop-returns-clause-reads t c = rw c.in_ok-boxed.ensures (branch.while_read _ c.in_ok-cond.ensures.reads c.in_ok-body.ensures.reads)

-- ---- `for`

pub for_loop-returns-in_err-header-clause-reads : goal.for_loop-returns-in_err-header-clause-reads
for_loop-returns-in_err-header-clause-reads t c = error_on _ _ _ _ _ _ _ _ c.from_residual.ensures.1 c.in_err-header.ensures.reads (λ rest f. branch.header_fails _ f)

pub for_loop-returns-in_err-body-clause-reads : goal.for_loop-returns-in_err-body-clause-reads
for_loop-returns-in_err-body-clause-reads t c = error_on _ _ _ _ _ _ _ _ c.from_residual-in_err-body.ensures.1 c.in_err-body.ensures.reads (λ rest f. branch.for_body_fails _ c.in_ok-header.ensures.reads f)

pub for_loop-returns-clause-reads : goal.for_loop-returns-clause-reads
for_loop-returns-clause-reads t c = rw c.in_ok-boxed.ensures (branch.for_read _ c.in_ok-header.ensures.reads c.in_ok-body.ensures.reads)

-- ---- `~ obliv`

pub always-returns-in_err-name-clause-reads : goal.always-returns-in_err-name-clause-reads
always-returns-in_err-name-clause-reads t c = error_on _ _ _ _ _ _ _ _ c.from_residual.ensures.1 c.in_err-name.ensures.reads (λ rest f. branch.always_name_fails _ f)

pub always-returns-in_err-steps-clause-reads : goal.always-returns-in_err-steps-clause-reads
always-returns-in_err-steps-clause-reads t c = error_on _ _ _ _ _ _ _ _ c.from_residual-in_err-steps.ensures.1 c.in_err-steps.ensures.reads (λ rest f. branch.always_block_fails _ c.in_ok-name.ensures.reads f)

pub always-returns-clause-reads : goal.always-returns-clause-reads
always-returns-clause-reads t c = rw (c.in_ok-boxed.ensures, c.in_ok-body.ensures, c.next_spot-start.ensures) (branch.always_read _ c.in_ok-name.ensures.reads c.in_ok-steps.ensures.reads)

-- ---- blocks

pub block-returns-in_err-rest-clause-reads : goal.block-returns-in_err-rest-clause-reads
block-returns-in_err-rest-clause-reads t c = error_on _ _ _ _ _ _ _ _ c.from_residual.ensures.1 c.in_err-rest.ensures (λ rest f. block.brace_fails f)

pub block-returns-in_err-steps-clause-reads : goal.block-returns-in_err-steps-clause-reads
block-returns-in_err-steps-clause-reads t c = error_on _ _ _ _ _ _ _ _ c.from_residual-in_err-steps.ensures.1 c.in_err-steps.ensures.reads (λ rest f. block.run_fails c.in_ok-rest.ensures f)

pub block-returns-clause-reads : goal.block-returns-clause-reads
block-returns-clause-reads t c = block.block_read c.in_ok-rest.ensures c.in_ok-steps.ensures.reads

pub steps-returns-in-Some-clause-reads : goal.steps-returns-in-Some-clause-reads
steps-returns-in-Some-clause-reads t c = block.run_done c.loop-after.invariant.reads c.in-Some.ensures

pub steps-returns-in_err-more-in-None-clause-reads : goal.steps-returns-in_err-more-in-None-clause-reads
steps-returns-in_err-more-in-None-clause-reads t c = error_on _ _ _ _ _ _ _ _ c.from_residual.ensures.1 c.in_err-more-in-None.ensures.reads (λ rest f. block.step_fails c.loop-after.invariant.reads c.in-None.ensures f)

pub steps-loop-after-preserved : goal.steps-loop-after-preserved
steps-loop-after-preserved t c = record { reads = rw (c.in_ok-push-in-None.ensures.ok, c.into_inner.ensures) (block.step_read c.loop-after.invariant.reads c.in-None.ensures c.in_ok-more-in-None.ensures.reads); shorter = omega (arith, c.in_ok-more-in-None.ensures.shorter, c.loop-after.invariant.shorter) }

-- ---- a declaration or a statement

pub step-returns-in-Some-eat_word-clause-reads : goal.step-returns-in-Some-eat_word-clause-reads
step-returns-in-Some-eat_word-clause-reads t c = let l = step.step_if c.in-Some.ensures c.in-Some-eat_word.ensures in mapped _ _ _ _ _ _ _ (rw c.next_spot-spot.ensures at c.conditional.ensures.reads) (λ v r f. through l f) (λ r f. through_fails l f)

pub step-returns-in_err-base-in-None-eat_word-clause-reads : goal.step-returns-in_err-base-in-None-eat_word-clause-reads
step-returns-in_err-base-in-None-eat_word-clause-reads t c = error_on _ _ _ _ _ _ _ _ c.from_residual.ensures.1 (rw c.next_spot-spot.ensures at c.in_err-base-in-None-eat_word.ensures.reads) (λ rest f. step.words_fail c.in-Some.ensures c.in-None-eat_word.ensures f)

pub step-returns-in_ok-base-in-None-eat_word-clause-reads : goal.step-returns-in_ok-base-in-None-eat_word-clause-reads
step-returns-in_ok-base-in-None-eat_word-clause-reads t c = let l = step.words_read c.in-Some.ensures c.in-None-eat_word.ensures (rw c.next_spot-spot.ensures at c.in_ok-base-in-None-eat_word.ensures.reads) in mapped _ _ _ _ _ _ _ c.declare.ensures.reads (λ v r f. closing.last_read l f) (λ r f. closing.last_fails l f)

pub step-returns-in_ok-base-in-None-eat_word-clause-closed : goal.step-returns-in_ok-base-in-None-eat_word-clause-closed
step-returns-in_ok-base-in-None-eat_word-clause-closed t c = closing.declare_closed _ _ _ c.declare.ensures.reads

pub step-returns-in_err-base-in-None-clause-reads : goal.step-returns-in_err-base-in-None-clause-reads
step-returns-in_err-base-in-None-clause-reads t c = error_on _ _ _ _ _ _ _ _ c.from_residual-in_err-base-in-None.ensures.1 c.in_err-base-in-None.ensures.reads (λ rest f. step.base_fails c.in-None.ensures (c.begins_type.ensures.0 c.if-begins_type.true) f)

pub step-returns-in_ok-base-in-None-clause-reads : goal.step-returns-in_ok-base-in-None-clause-reads
step-returns-in_ok-base-in-None-clause-reads t c = let l = step.base_read c.in-None.ensures (c.begins_type.ensures.0 c.if-begins_type.true) c.in_ok-base-in-None.ensures.reads in mapped _ _ _ _ _ _ _ c.declare-then-begins_type.ensures.reads (λ v r f. closing.last_read l f) (λ r f. closing.last_fails l f)

pub step-returns-in_ok-base-in-None-clause-closed : goal.step-returns-in_ok-base-in-None-clause-closed
step-returns-in_ok-base-in-None-clause-closed t c = closing.declare_closed _ _ _ c.declare-then-begins_type.ensures.reads

pub step-returns-else-begins_type-clause-reads : goal.step-returns-else-begins_type-clause-reads
step-returns-else-begins_type-clause-reads t c = let l = step.statement_left (λ b. let h = c.begins_type.ensures.1 b in let g = c.if-begins_type.false in cc) in mapped _ _ _ _ _ _ _ c.stmt.ensures.reads (λ v r f. through l f) (λ r f. through_fails l f)
