use Rattle.std.proofs.Common.{◌∙◌, ◌+◌, ap, sym, refl, subst, drop, Err, rules}
use Rattle.std.proofs.lemmas.Result.{err_from_is_err_and}
use Rattle.scope_rules.specs.Frozen.{in_loop}
use Rattle.frozen_rules.specs.Scopes.{facts_of, around}
use Rattle.frozen_rules.proofs.Sequences.{Left, failed, passed, value_is, loop_failed, loop_next, loop_ended}
use Rattle.frozen_rules.proofs.Parts.{declare_so, express_so, block_so, if_so, obliv_so, always_so, while_so, for_so, return_so, break_so, continue_so, other_so}
use Rattle.numbered_scopes.specs.Numbered.{numbered_stmts}
use Rattle.frozen_rules.specs.Lists.{last_all}
use Rattle.frozen_rules.proofs.Loops.{stmts_next, stmts_end, all_next, all_end}
use Rattle.frozen_rules.proofs.Weight.{stmt_weight}
use Rattle.frozen_rules.proofs.Falls.{item_weight}
use Rattle.frozen_rules.proofs.statements.+statements.Goals as goal

pub check_stmt-returns-in-Declare : goal.check_stmt-returns-in-Declare
check_stmt-returns-in-Declare t c = declare_so (around c.args.typed.now c.args.f.now) (facts_of c.args.w) c.args.last c.args.s.now _ c.in-Declare.ds c.in-Declare.is c.as_slice.ensures c.check_declares.ensures

pub check_stmt-returns-in-Express : goal.check_stmt-returns-in-Express
check_stmt-returns-in-Express t c = express_so (around c.args.typed.now c.args.f.now) (facts_of c.args.w) c.args.last c.args.s.now _ c.in-Express.e c.in-Express.is c.get.ensures c.check_alone.ensures

pub check_stmt-returns-in-Block : goal.check_stmt-returns-in-Block
check_stmt-returns-in-Block t c = block_so (around c.args.typed.now c.args.f.now) (facts_of c.args.w) c.args.last c.args.s.now _ c.in-Block.ss c.in-Block.is c.as_slice-in-Block.ensures c.check_list.ensures

pub check_stmt-returns-in_err-last-in-If : goal.check_stmt-returns-in_err-last-in-If
check_stmt-returns-in_err-last-in-If t c =
    let q = err_from_is_err_and c.from_residual.result c.from_residual.ensures.1 in
    if_so (around c.args.typed.now c.args.f.now) (facts_of c.args.w) c.args.last c.args.s.now _ c.in-If.cond _ c.in-If.yes c.in-If.no _ c.in-If.is c.get-in-If.ensures c.get-in-If-2.ensures refl (failed _ c.in_err-last-in-If.ensures (q.1 ∙ ap Err q.2))

pub check_stmt-returns-in_ok-last-in-If : goal.check_stmt-returns-in_ok-last-in-If
check_stmt-returns-in_ok-last-in-If t c = if_so (around c.args.typed.now c.args.f.now) (facts_of c.args.w) c.args.last c.args.s.now _ c.in-If.cond _ c.in-If.yes c.in-If.no _ c.in-If.is c.get-in-If.ensures c.get-in-If-2.ensures (value_is c.in_ok-last-in-If.ensures) (passed c.in_ok-last-in-If.ensures c.check_other.ensures)

pub check_stmt-returns-in_err-last-in-OblivIf : goal.check_stmt-returns-in_err-last-in-OblivIf
check_stmt-returns-in_err-last-in-OblivIf t c =
    let q = err_from_is_err_and c.from_residual-in_err-last-in-OblivIf.result c.from_residual-in_err-last-in-OblivIf.ensures.1 in
    obliv_so (around c.args.typed.now c.args.f.now) (facts_of c.args.w) c.args.last c.args.s.now _ _ c.in-OblivIf.cond _ c.in-OblivIf.yes c.in-OblivIf.no _ c.in-OblivIf.is c.get-in-OblivIf.ensures c.get-in-OblivIf-2.ensures refl c.of_part-inner.ensures (failed _ c.in_err-last-in-OblivIf.ensures (q.1 ∙ ap Err q.2))

pub check_stmt-returns-in_ok-last-in-OblivIf : goal.check_stmt-returns-in_ok-last-in-OblivIf
check_stmt-returns-in_ok-last-in-OblivIf t c = obliv_so (around c.args.typed.now c.args.f.now) (facts_of c.args.w) c.args.last c.args.s.now _ _ c.in-OblivIf.cond _ c.in-OblivIf.yes c.in-OblivIf.no _ c.in-OblivIf.is c.get-in-OblivIf.ensures c.get-in-OblivIf-2.ensures (value_is c.in_ok-last-in-OblivIf.ensures) c.of_part-inner.ensures (passed c.in_ok-last-in-OblivIf.ensures c.check_other-in-OblivIf.ensures)

pub check_stmt-returns-in-Always : goal.check_stmt-returns-in-Always
check_stmt-returns-in-Always t c = always_so (around c.args.typed.now c.args.f.now) (facts_of c.args.w) c.args.last c.args.s.now _ _ c.in-Always.body c.in-Always.slot c.in-Always.is c.get-in-Always.ensures c.of_open.ensures c.check_stmt.ensures

pub check_stmt-returns-in-While : goal.check_stmt-returns-in-While
check_stmt-returns-in-While t c = while_so (around c.args.typed.now c.args.f.now) (facts_of c.args.w) c.args.last c.args.s.now _ _ c.in-While.cond _ c.in-While.body c.in-While.is c.get-in-While.ensures c.get-in-While-2.ensures c.of_loop.ensures c.check_part-in-While.ensures

pub check_stmt-returns-in_err-last-in-For : goal.check_stmt-returns-in_err-last-in-For
check_stmt-returns-in_err-last-in-For t c =
    let q = err_from_is_err_and c.from_residual-in_err-last-in-For.result c.from_residual-in_err-last-in-For.ensures.1 in
    for_so (around c.args.typed.now c.args.f.now) (facts_of c.args.w) c.args.last c.args.s.now (in_loop (facts_of c.args.w)) c.in-For.init c.in-For.cond c.in-For.advance _ c.in-For.body _ c.in-For.is refl refl refl (failed _ c.in_err-last-in-For.ensures (q.1 ∙ ap Err q.2))

pub check_stmt-returns-in_ok-last-in-For : goal.check_stmt-returns-in_ok-last-in-For
check_stmt-returns-in_ok-last-in-For t c = for_so (around c.args.typed.now c.args.f.now) (facts_of c.args.w) c.args.last c.args.s.now _ c.in-For.init c.in-For.cond c.in-For.advance _ c.in-For.body _ c.in-For.is c.get-in-For.ensures c.of_loop-in-For.ensures (value_is c.in_ok-last-in-For.ensures) (passed c.in_ok-last-in-For.ensures c.check_stmt-in-For.ensures)

pub check_stmt-returns-in-Return : goal.check_stmt-returns-in-Return
check_stmt-returns-in-Return t c = return_so (around c.args.typed.now c.args.f.now) (facts_of c.args.w) c.args.last c.args.s.now c.in-Return.e c.in-Return.is c.check_return.ensures

pub check_stmt-returns-in-Break : goal.check_stmt-returns-in-Break
check_stmt-returns-in-Break t c = break_so (around c.args.typed.now c.args.f.now) (facts_of c.args.w) c.args.last c.args.s.now c.in-Break.is c.check_jump.ensures

pub check_stmt-returns-in-Continue : goal.check_stmt-returns-in-Continue
check_stmt-returns-in-Continue t c = continue_so (around c.args.typed.now c.args.f.now) (facts_of c.args.w) c.args.last c.args.s.now c.in-Continue.is c.check_jump-in-Continue.ensures

pub check_part-returns-in_err-check_expr : goal.check_part-returns-in_err-check_expr
check_part-returns-in_err-check_expr t c =
    let q = err_from_is_err_and c.from_residual.result c.from_residual.ensures.1 in
    failed _ c.in_err-check_expr.ensures (q.1 ∙ ap Err q.2)

pub check_part-returns : goal.check_part-returns
check_part-returns t c = passed c.in_ok-check_expr.ensures c.check_stmt.ensures

pub check_other-returns-in-Some : goal.check_other-returns-in-Some
check_other-returns-in-Some t c = other_so (around c.args.typed.now c.args.f.now) (facts_of c.args.w) c.args.last c.args.no.now _ c.in-Some.part c.in-Some.is c.get.ensures c.check_stmt.ensures

pub check_list-returns-in_err-last : goal.check_list-returns-in_err-last
check_list-returns-in_err-last t c =
    let q = err_from_is_err_and c.from_residual.result c.from_residual.ensures.1 in
    loop_failed _ c.loop-s.invariant.left (stmts_next (around c.args.typed.now c.args.f.now) (facts_of c.args.w) c.loop-s.last c.args.ss.now c.loop-s.s-index _ c.loop-s-test.true c.s-item.is) c.in_err-last.ensures (q.1 ∙ ap Err q.2)

pub check_list-check_stmt-requires : goal.check_list-check_stmt-requires
check_list-check_stmt-requires t c = let r = item_weight stmt_weight c.args.ss.now c.loop-s.s-index c.s-item.result c.loop-s-test.true c.s-item.is in search (rules, r)

pub check_list-loop-s-preserved : goal.check_list-loop-s-preserved
check_list-loop-s-preserved t c =
    let g = around c.args.typed.now c.args.f.now in
    let w = facts_of c.args.w in
    let e = value_is c.in_ok-last.ensures in
    let rest = drop (c.loop-s.s-index + 1) c.args.ss.now in
    record {
      left = subst (λ o. Left (numbered_stmts g w o rest) (numbered_stmts g w c.args.before c.args.ss.now)) (sym e)
          (loop_next _ c.loop-s.invariant.left (stmts_next g w c.loop-s.last c.args.ss.now c.loop-s.s-index _ c.loop-s-test.true c.s-item.is) c.in_ok-last.ensures);
      slots = ap (λ o. last_all o rest) e ∙ sym (all_next c.loop-s.last c.args.ss.now c.loop-s.s-index _ c.loop-s-test.true c.s-item.is) ∙ c.loop-s.invariant.slots;
    }

pub check_list-returns : goal.check_list-returns
check_list-returns t c =
    loop_ended c.loop-s.invariant.left (stmts_end (around c.args.typed.now c.args.f.now) (facts_of c.args.w) c.loop-s.last c.args.ss.now c.loop-s.s-index c.loop-s-test.false)
    (sym (all_end c.loop-s.last c.args.ss.now c.loop-s.s-index c.loop-s-test.false) ∙ c.loop-s.invariant.slots)
