use Rattle.std.proofs.Common.{arith, ap, length}
use Rattle.oc_grammar.proofs.Parsing.{through, through_fails}
use Rattle.oc_grammar.proofs.Calls.{error_on, mapped}
use Rattle.oc_grammar.proofs.Lists as list
use Rattle.oc_grammar.specs.Expressions.{Expression, BindsWeaker}
use Rattle.oc_expressions.proofs.Choosing as choose
use Rattle.oc_expressions.proofs.Operators as operator
use Rattle.oc_expressions.proofs.Turns as turn
use Rattle.oc_expressions.proofs.expressions.+expr.Goals as goal

-- ---- assignments and choices

pub expr-returns-in_err-left-clause-reads : goal.expr-returns-in_err-left-clause-reads
expr-returns-in_err-left-clause-reads t c = error_on _ _ _ _ _ _ _ _ c.from_residual.ensures.1 c.in_err-left.ensures.reads (λ rest f. choose.expr_fails f)

pub expr-returns-in-None-clause-reads : goal.expr-returns-in-None-clause-reads
expr-returns-in-None-clause-reads t c = choose.expr_alone c.in_ok-left.ensures.reads c.in-None.ensures

pub expr-returns-in_err-right-in-Some-clause-reads : goal.expr-returns-in_err-right-in-Some-clause-reads
expr-returns-in_err-right-in-Some-clause-reads t c = error_on _ _ _ _ _ _ _ _ c.from_residual-in_err-right-in-Some.ensures.1 c.in_err-right-in-Some.ensures.reads (λ rest f. choose.right_fails c.in_ok-left.ensures.reads c.in-Some.ensures f)

pub expr-returns-in_ok-boxed-in-Some-clause-reads : goal.expr-returns-in_ok-boxed-in-Some-clause-reads
expr-returns-in_ok-boxed-in-Some-clause-reads t c = rw (c.in_ok-boxed-in-Some.ensures, c.next_spot-spot.ensures) (choose.assigned c.in_ok-left.ensures.reads c.in-Some.ensures c.in_ok-right-in-Some.ensures.reads)

pub cond-returns-in_err-first-clause-reads : goal.cond-returns-in_err-first-clause-reads
cond-returns-in_err-first-clause-reads t c = error_on _ _ _ _ _ _ _ _ c.from_residual.ensures.1 c.in_err-first.ensures.reads (λ rest f. choose.cond_fails f)

pub cond-returns-in-None-clause-reads : goal.cond-returns-in-None-clause-reads
cond-returns-in-None-clause-reads t c = choose.cond_alone c.in_ok-first.ensures.reads c.in-None.ensures

pub cond-returns-in_err-yes-in-Some-clause-reads : goal.cond-returns-in_err-yes-in-Some-clause-reads
cond-returns-in_err-yes-in-Some-clause-reads t c = error_on _ _ _ _ _ _ _ _ c.from_residual-in_err-yes-in-Some.ensures.1 c.in_err-yes-in-Some.ensures.reads (λ rest f. choose.yes_fails c.in_ok-first.ensures.reads c.in-Some.ensures f)

pub cond-returns-in_err-no-in-Some-clause-reads : goal.cond-returns-in_err-no-in-Some-clause-reads
cond-returns-in_err-no-in-Some-clause-reads t c = error_on _ _ _ _ _ _ _ _ c.from_residual-in_err-no-in-Some.ensures.1 c.in_err-no-in-Some.ensures.reads (λ rest f. choose.no_fails c.in_ok-first.ensures.reads c.in-Some.ensures c.in_ok-yes-in-Some.ensures.reads f)

pub cond-returns-in_ok-boxed-in-Some-clause-reads : goal.cond-returns-in_ok-boxed-in-Some-clause-reads
cond-returns-in_ok-boxed-in-Some-clause-reads t c = rw (c.in_ok-boxed-in-Some.ensures, c.next_spot-spot.ensures) (choose.chosen c.in_ok-first.ensures.reads c.in-Some.ensures c.in_ok-yes-in-Some.ensures.reads c.in_ok-no-in-Some.ensures.reads)

pub before-returns-in_err-value-clause-reads : goal.before-returns-in_err-value-clause-reads
before-returns-in_err-value-clause-reads t c = error_on _ _ _ _ _ _ _ _ c.from_residual.ensures.1 c.in_err-value.ensures.reads (λ rest f. choose.value_fails _ c.requires f)

pub before-returns-in_err-rest-clause-reads : goal.before-returns-in_err-rest-clause-reads
before-returns-in_err-rest-clause-reads t c = error_on _ _ _ _ _ _ _ _ c.from_residual-in_err-rest.ensures.1 c.in_err-rest.ensures (λ rest f. choose.sign_fails _ c.requires c.in_ok-value.ensures.reads f)

pub before-returns-clause-reads : goal.before-returns-clause-reads
before-returns-clause-reads t c = choose.before_read _ c.requires c.in_ok-value.ensures.reads c.in_ok-rest.ensures

-- ---- operators

pub binary-returns-in_err-left-clause-reads : goal.binary-returns-in_err-left-clause-reads
binary-returns-in_err-left-clause-reads t c = error_on _ _ _ _ _ _ _ _ c.from_residual.ensures.1 c.in_err-left.ensures.reads (λ rest f. operator.binary_fails _ c.requires.0 c.requires.1 f)

pub binary-loop-level-init : goal.binary-loop-level-init
binary-loop-level-init t c = record { cap = 13; above = c.requires.1; below = operator.all_below _; reads = operator.binary_first _ c.requires.0 c.requires.1 c.in_ok-left.ensures.reads; spot = c.next_spot-spot.ensures; shorter = c.in_ok-left.ensures.shorter }

pub binary-returns-in_err-right-clause-reads : goal.binary-returns-in_err-right-clause-reads
binary-returns-in_err-right-clause-reads t c = error_on _ _ _ _ _ _ _ _ c.from_residual-in_err-right.ensures.1 c.in_err-right.ensures.reads (λ rest f. operator.right_fails c.loop-level.invariant.reads c.loop-level.invariant.above c.loop-level.invariant.below c.in-Some.ensures f)

pub binary-loop-level-preserved : goal.binary-loop-level-preserved
binary-loop-level-preserved t c = record {
  cap = c.in-Some.level;
  above = c.in-Some.ensures.above;
  below = c.in_ok-right.ensures.below;
  reads = rw (c.in_ok-left-2.ensures, c.loop-level.invariant.spot) (operator.right_read c.loop-level.invariant.reads c.loop-level.invariant.above c.loop-level.invariant.below c.in-Some.ensures c.in_ok-right.ensures.reads);
  spot = c.loop-level.invariant.spot;
  shorter = omega (arith, c.in_ok-right.ensures.shorter, ap length c.in-Some.ensures.whole, c.loop-level.invariant.shorter);
}

pub binary-returns-clause-reads : goal.binary-returns-clause-reads
binary-returns-clause-reads t c = operator.binary_done c.loop-level.invariant.reads c.loop-level.invariant.above c.in_default.ensures

-- ---- operands

pub unary-returns-in-Some-clause-reads : goal.unary-returns-in-Some-clause-reads
unary-returns-in-Some-clause-reads t c = mapped _ _ _ _ _ _ _ (rw c.next_spot-spot.ensures at c.parens.ensures.reads) (λ v r f. through (turn.paren_left c.in-Some.ensures) f) (λ r f. through_fails (turn.paren_left c.in-Some.ensures) f)

pub unary-returns-in_err-part-in-Some-prefix_next-clause-reads : goal.unary-returns-in_err-part-in-Some-prefix_next-clause-reads
unary-returns-in_err-part-in-Some-prefix_next-clause-reads t c = error_on _ _ _ _ _ _ _ _ c.from_residual.ensures.1 c.in_err-part-in-Some-prefix_next.ensures.reads (λ rest f. turn.part_fails c.in-Some-prefix_next.ensures f)

pub unary-returns-in_ok-prefixed-in-Some-prefix_next-clause-reads : goal.unary-returns-in_ok-prefixed-in-Some-prefix_next-clause-reads
unary-returns-in_ok-prefixed-in-Some-prefix_next-clause-reads t c = rw (c.in_ok-prefixed-in-Some-prefix_next.ensures, c.next_spot-spot.ensures) (turn.part_read c.in-Some-prefix_next.ensures c.in_ok-part-in-Some-prefix_next.ensures.reads)

pub unary-returns-in_err-left-in-None-prefix_next-clause-reads : goal.unary-returns-in_err-left-in-None-prefix_next-clause-reads
unary-returns-in_err-left-in-None-prefix_next-clause-reads t c = error_on _ _ _ _ _ _ _ _ c.from_residual-in_err-left-in-None-prefix_next.ensures.1 c.in_err-left-in-None-prefix_next.ensures.reads (λ rest f. turn.plain_fails c.in-None.ensures c.in-None-prefix_next.ensures f)

pub unary-returns-in_ok-left-in-None-prefix_next-clause-reads : goal.unary-returns-in_ok-left-in-None-prefix_next-clause-reads
unary-returns-in_ok-left-in-None-prefix_next-clause-reads t c =
    let l = turn.plain_read c.in-None.ensures c.in-None-prefix_next.ensures c.in_ok-left-in-None-prefix_next.ensures.reads in
    mapped _ _ _ _ _ _ _ (rw c.next_spot-spot.ensures at c.postfixes.ensures.reads) (λ v r f. through l f) (λ r f. through_fails l f)

pub parens-returns-in_err-to-clause-reads : goal.parens-returns-in_err-to-clause-reads
parens-returns-in_err-to-clause-reads t c = error_on _ _ _ _ _ _ _ _ c.from_residual.ensures.1 c.in_err-to.ensures.reads (λ rest f. turn.type_fails _ (c.begins_type.ensures.0 c.if-begins_type.true) f)

pub parens-returns-in_err-part-clause-reads : goal.parens-returns-in_err-part-clause-reads
parens-returns-in_err-part-clause-reads t c = error_on _ _ _ _ _ _ _ _ c.from_residual-in_err-part.ensures.1 c.in_err-part.ensures.reads (λ rest f. turn.cast_fails _ (c.begins_type.ensures.0 c.if-begins_type.true) c.in_ok-to.ensures.reads f)

pub parens-returns-then-begins_type-clause-reads : goal.parens-returns-then-begins_type-clause-reads
parens-returns-then-begins_type-clause-reads t c = rw c.in_ok-boxed.ensures (turn.cast_read _ (c.begins_type.ensures.0 c.if-begins_type.true) c.in_ok-to.ensures.reads c.in_ok-part.ensures.reads)

pub parens-returns-in_err-inner-clause-reads : goal.parens-returns-in_err-inner-clause-reads
parens-returns-in_err-inner-clause-reads t c = error_on _ _ _ _ _ _ _ _ c.from_residual-in_err-inner.ensures.1 c.in_err-inner.ensures.reads (λ rest f. turn.inner_fails _ (λ b. let h = c.begins_type.ensures.1 b in let g = c.if-begins_type.false in cc) f)

pub parens-returns-clause-reads : goal.parens-returns-clause-reads
parens-returns-clause-reads t c =
    let l = turn.inner_read _ (λ b. let h = c.begins_type.ensures.1 b in let g = c.if-begins_type.false in cc) c.in_ok-inner.ensures.reads in
    mapped _ _ _ _ _ _ _ c.postfixes.ensures.reads (λ v r f. through l f) (λ r f. through_fails l f)

-- ---- what stands after

pub postfixes-returns-in_err-more-clause-reads : goal.postfixes-returns-in_err-more-clause-reads
postfixes-returns-in_err-more-clause-reads t c = error_on _ _ _ _ _ _ _ _ c.from_residual.ensures.1 c.in_err-more.ensures.reads (λ rest f. turn.postfixed_fails c.loop-postfix.invariant.reads c.in-Some.ensures f)

pub postfixes-loop-postfix-preserved : goal.postfixes-loop-postfix-preserved
postfixes-loop-postfix-preserved t c = record { reads = turn.postfixed_read c.loop-postfix.invariant.reads c.in-Some.ensures c.in_ok-more.ensures.reads; shorter = omega (arith, ap length c.in-Some.ensures.whole, c.in_ok-more.ensures.shorter, c.loop-postfix.invariant.shorter) }

pub postfixes-returns-clause-reads : goal.postfixes-returns-clause-reads
postfixes-returns-clause-reads t c = turn.postfixes_done c.loop-postfix.invariant.reads c.in_default.ensures

pub postfixed-returns-in_err-amount-in-Index-clause-reads : goal.postfixed-returns-in_err-amount-in-Index-clause-reads
postfixed-returns-in_err-amount-in-Index-clause-reads t c = rw c.in-Index.is (error_on _ _ _ _ _ _ _ _ c.from_residual.ensures.1 c.in_err-amount-in-Index.ensures.reads (λ rest f. turn.index_fails _ _ f))

pub postfixed-returns-in_ok-boxed-in-Index-clause-reads : goal.postfixed-returns-in_ok-boxed-in-Index-clause-reads
postfixed-returns-in_ok-boxed-in-Index-clause-reads t c = rw (c.in-Index.is, c.in_ok-boxed-in-Index.ensures) (turn.index_read _ _ c.in_ok-amount-in-Index.ensures.reads)

pub postfixed-returns-in_err-named-in-Field-clause-reads : goal.postfixed-returns-in_err-named-in-Field-clause-reads
postfixed-returns-in_err-named-in-Field-clause-reads t c = rw c.in-Field.is (error_on _ _ _ _ _ _ _ _ c.from_residual-in_err-named-in-Field.ensures.1 c.in_err-named-in-Field.ensures.reads (λ rest f. turn.field_fails _ _ f))

pub postfixed-returns-in_ok-boxed-in-Field-clause-reads : goal.postfixed-returns-in_ok-boxed-in-Field-clause-reads
postfixed-returns-in_ok-boxed-in-Field-clause-reads t c = rw (c.in-Field.is, c.in_ok-boxed-in-Field.ensures) (turn.field_read _ _ c.in_ok-named-in-Field.ensures.reads)

pub postfixed-returns-in_err-named-in-Arrow-clause-reads : goal.postfixed-returns-in_err-named-in-Arrow-clause-reads
postfixed-returns-in_err-named-in-Arrow-clause-reads t c = rw c.in-Arrow.is (error_on _ _ _ _ _ _ _ _ c.from_residual-in_err-named-in-Arrow.ensures.1 c.in_err-named-in-Arrow.ensures.reads (λ rest f. turn.arrow_fails _ _ f))

pub postfixed-returns-in_ok-boxed-in-Arrow-clause-reads : goal.postfixed-returns-in_ok-boxed-in-Arrow-clause-reads
postfixed-returns-in_ok-boxed-in-Arrow-clause-reads t c = rw (c.in-Arrow.is, c.in_ok-boxed-in-Arrow.ensures) (turn.arrow_read _ _ c.in_ok-named-in-Arrow.ensures.reads)

pub postfixed-returns-in_ok-boxed-in-Bump-clause-reads : goal.postfixed-returns-in_ok-boxed-in-Bump-clause-reads
postfixed-returns-in_ok-boxed-in-Bump-clause-reads t c = rw (c.in-Bump.is, c.in_ok-boxed-in-Bump.ensures) (turn.bump_read _ _ _)

-- ---- what stands alone

pub primary-returns-in_default-clause-reads : goal.primary-returns-in_default-clause-reads
primary-returns-in_default-clause-reads t c = turn.primary_end c.in_default.ensures

pub primary-returns-in-Some-2-clause-reads : goal.primary-returns-in-Some-2-clause-reads
primary-returns-in-Some-2-clause-reads t c = turn.leaf_read c.in-Some.ensures (rw c.in-Some-2.is at c.in_ok-leaf.ensures)

pub primary-returns-then-is_word-clause-reads : goal.primary-returns-then-is_word-clause-reads
primary-returns-then-is_word-clause-reads t c = mapped _ _ _ _ _ _ _ c.size.ensures.reads (λ v r f. through (turn.size_left c.in-Some.ensures (c.is_word.ensures.0 c.if-is_word.true)) f) (λ r f. through_fails (turn.size_left c.in-Some.ensures (c.is_word.ensures.0 c.if-is_word.true)) f)

pub primary-returns-in-Name-clause-reads : goal.primary-returns-in-Name-clause-reads
primary-returns-in-Name-clause-reads t c = mapped _ _ _ _ _ _ _ c.call.ensures.reads (λ v r f. through (turn.name_left c.in-Some.ensures (record { kind = c.in-Name.is })) f) (λ r f. through_fails (turn.name_left c.in-Some.ensures (record { kind = c.in-Name.is })) f)

pub primary-returns-in-Keyword-clause-reads : goal.primary-returns-in-Keyword-clause-reads
primary-returns-in-Keyword-clause-reads t c = turn.primary_none c.in-Some.ensures (rw c.in_default-2.is at c.in_ok-leaf.ensures) (λ i. let h = c.is_word.ensures.1 i in let g = c.if-is_word.false in cc) (λ n i. let h = c.in-Keyword.is in let k = i.kind in grind arith)

-- ---- calls

pub call-returns-in_ok-boxed-in-None-clause-reads : goal.call-returns-in_ok-boxed-in-None-clause-reads
call-returns-in_ok-boxed-in-None-clause-reads t c = rw (c.in_ok-boxed-in-None.ensures, c.in_ok-name.ensures) (turn.call_alone _ _ c.in-None.ensures)

pub call-returns-in_err-args-in-Some-clause-reads : goal.call-returns-in_err-args-in-Some-clause-reads
call-returns-in_err-args-in-Some-clause-reads t c = error_on _ _ _ _ _ _ _ _ c.from_residual-in_err-args-in-Some.ensures.1 c.in_err-args-in-Some.ensures.reads (λ rest f. turn.call_fails _ _ c.in-Some.ensures f)

pub call-returns-in_ok-boxed-in-Some-clause-reads : goal.call-returns-in_ok-boxed-in-Some-clause-reads
call-returns-in_ok-boxed-in-Some-clause-reads t c = rw (c.in_ok-boxed-in-Some.ensures, c.in_ok-name.ensures) (turn.call_read _ _ c.in-Some.ensures c.in_ok-args-in-Some.ensures.reads)

pub arguments-returns-in-Some-clause-reads : goal.arguments-returns-in-Some-clause-reads
arguments-returns-in-Some-clause-reads t c = rw c.new.ensures (turn.args_none c.in-Some.ensures)

pub arguments-returns-in_err-args-in-None-clause-reads : goal.arguments-returns-in_err-args-in-None-clause-reads
arguments-returns-in_err-args-in-None-clause-reads t c = error_on _ _ _ _ _ _ _ _ c.from_residual.ensures.1 c.in_err-args-in-None.ensures.reads (λ rest f. turn.list_fails c.in-None.ensures f)

pub arguments-returns-in_err-rest-in-None-clause-reads : goal.arguments-returns-in_err-rest-in-None-clause-reads
arguments-returns-in_err-rest-in-None-clause-reads t c = error_on _ _ _ _ _ _ _ _ c.from_residual-in_err-rest-in-None.ensures.1 c.in_err-rest-in-None.ensures (λ rest f. turn.close_fails c.in-None.ensures c.in_ok-args-in-None.ensures.reads f)

pub arguments-returns-in_ok-rest-in-None-clause-reads : goal.arguments-returns-in_ok-rest-in-None-clause-reads
arguments-returns-in_ok-rest-in-None-clause-reads t c = turn.args_read c.in-None.ensures c.in_ok-args-in-None.ensures.reads c.in_ok-rest-in-None.ensures

pub listed-returns-in_err-first-clause-reads : goal.listed-returns-in_err-first-clause-reads
listed-returns-in_err-first-clause-reads t c = error_on _ _ _ _ _ _ _ _ c.from_residual.ensures.1 c.in_err-first.ensures.reads (λ rest f. list.list_fails (Expression 1) (BindsWeaker 1) turn.comma_stops _ f)

pub listed-loop-after-init : goal.listed-loop-after-init
listed-loop-after-init t c = record { reads = rw (c.in_ok-push.ensures.ok, c.new-found.ensures, c.into_inner.ensures) (list.list_first (Expression 1) (BindsWeaker 1) turn.comma_stops _ c.in_ok-first.ensures.reads); shorter = c.in_ok-first.ensures.shorter }

pub listed-returns-in_err-more-clause-reads : goal.listed-returns-in_err-more-clause-reads
listed-returns-in_err-more-clause-reads t c = error_on _ _ _ _ _ _ _ _ c.from_residual-in_err-more.ensures.1 c.in_err-more.ensures.reads (λ rest f. list.more_fails (Expression 1) (BindsWeaker 1) turn.comma_stops _ c.loop-after.invariant.reads c.in-Some.ensures f)

pub listed-loop-after-preserved : goal.listed-loop-after-preserved
listed-loop-after-preserved t c = record { reads = rw (c.in_ok-push-2.ensures.ok, c.into_inner-in-Some.ensures) (list.more_read (Expression 1) (BindsWeaker 1) turn.comma_stops _ c.loop-after.invariant.reads c.in-Some.ensures c.in_ok-more.ensures.reads); shorter = omega (arith, ap length c.in-Some.ensures.whole, c.in_ok-more.ensures.shorter, c.loop-after.invariant.shorter) }

pub listed-returns-clause-reads : goal.listed-returns-clause-reads
listed-returns-clause-reads t c = list.list_done (Expression 1) (BindsWeaker 1) turn.comma_stops _ c.loop-after.invariant.reads c.in_default.ensures
