use Rattle.std.proofs.Common.{◌∙◌, ap, sym, refl, length, rules, arith, [], append-nil}
use Rattle.oc_typed.specs.declared.typed.TStmtNode.{Declare, Express, Block, If, OblivIf, Always as AlwaysStmt, While, For, Return, Break, Continue, Empty}
use Rattle.cond_lowering.specs.Pieces.{none}
use Rattle.cond_lowering.specs.Statements.{coding, other_of}
use Rattle.cond_lowering.proofs.Adding.{told_as, adds_as, adds_none, adds_seq, seq_puts, choice_lands}
use Rattle.cond_lowering.proofs.Exits.{anyway, popped_back}
use Rattle.cond_lowering.proofs.Parts.{stmt_as, stmt_now, block_at, if_at, when_at, always_at, while_at, for_at}
use Rattle.cond_lowering.proofs.Rounds.{body_so, while_lands, round_lands, loop_room, block_next, block_marks, block_code, block_exits}
use Rattle.cond_lowering.proofs.Weight.{stmt_item}
use Rattle.cond_lowering.proofs.statements.+statements.Goals as goal

pub emit_stmt-returns-in-Declare-clause-code : goal.emit_stmt-returns-in-Declare-clause-code
emit_stmt-returns-in-Declare-clause-code t c = stmt_as (coding c.args.table.now c.args.slots.now) c.args.gives.now c.args.depth c.args.exits.now c.args.s.now (Declare c.in-Declare.ds) _ _ _ c.emit_declares.result (rw (c.as_slice.ensures) at c.emit_declares.ensures) c.in-Declare.is refl

pub emit_stmt-returns-in-Declare-clause-exits : goal.emit_stmt-returns-in-Declare-clause-exits
emit_stmt-returns-in-Declare-clause-exits t c = anyway c.emit_declares.result refl

pub emit_stmt-returns-in-Express-clause-code : goal.emit_stmt-returns-in-Express-clause-code
emit_stmt-returns-in-Express-clause-code t c = stmt_as (coding c.args.table.now c.args.slots.now) c.args.gives.now c.args.depth c.args.exits.now c.args.s.now (Express c.in-Express.e) _ _ _ c.emit_express.result (rw (c.get.ensures) at c.emit_express.ensures) c.in-Express.is refl

pub emit_stmt-returns-in-Express-clause-exits : goal.emit_stmt-returns-in-Express-clause-exits
emit_stmt-returns-in-Express-clause-exits t c = anyway c.emit_express.result refl

pub emit_stmt-returns-in-Block-clause-code : goal.emit_stmt-returns-in-Block-clause-code
emit_stmt-returns-in-Block-clause-code t c = stmt_as (coding c.args.table.now c.args.slots.now) c.args.gives.now c.args.depth c.args.exits.now c.args.s.now (Block c.in-Block.ss) _ _ _ c.emit_block.result (rw (c.as_slice-in-Block.ensures) at c.emit_block.ensures.code) c.in-Block.is (block_at (coding c.args.table.now c.args.slots.now) c.args.gives.now c.args.depth c.args.exits.now c.args.s.now.spot _ c.in-Block.ss)

pub emit_stmt-returns-in-Block-clause-exits : goal.emit_stmt-returns-in-Block-clause-exits
emit_stmt-returns-in-Block-clause-exits t c = c.emit_block.ensures.exits

pub emit_stmt-returns-in-If-clause-code : goal.emit_stmt-returns-in-If-clause-code
emit_stmt-returns-in-If-clause-code t c = stmt_as (coding c.args.table.now c.args.slots.now) c.args.gives.now c.args.depth c.args.exits.now c.args.s.now (If c.in-If.cond c.in-If.yes c.in-If.no) _ _ _ c.emit_if.result (rw (c.get-in-If.ensures, c.get-in-If-2.ensures) at c.emit_if.ensures.code) c.in-If.is (if_at (coding c.args.table.now c.args.slots.now) c.args.gives.now c.args.depth c.args.exits.now c.args.s.now.spot _ c.in-If.cond c.in-If.yes c.in-If.no)

pub emit_stmt-returns-in-If-clause-exits : goal.emit_stmt-returns-in-If-clause-exits
emit_stmt-returns-in-If-clause-exits t c = c.emit_if.ensures.exits

pub emit_stmt-returns-in-OblivIf-clause-code : goal.emit_stmt-returns-in-OblivIf-clause-code
emit_stmt-returns-in-OblivIf-clause-code t c = stmt_as (coding c.args.table.now c.args.slots.now) c.args.gives.now c.args.depth c.args.exits.now c.args.s.now (OblivIf c.in-OblivIf.cond c.in-OblivIf.yes c.in-OblivIf.no) _ _ _ c.emit_when.result (rw (c.get-in-OblivIf.ensures, c.get-in-OblivIf-2.ensures) at c.emit_when.ensures.code) c.in-OblivIf.is (when_at (coding c.args.table.now c.args.slots.now) c.args.gives.now c.args.depth c.args.exits.now c.args.s.now.spot _ c.in-OblivIf.cond c.in-OblivIf.yes c.in-OblivIf.no)

pub emit_stmt-returns-in-OblivIf-clause-exits : goal.emit_stmt-returns-in-OblivIf-clause-exits
emit_stmt-returns-in-OblivIf-clause-exits t c = c.emit_when.ensures.exits

pub emit_stmt-returns-in-Always-clause-code : goal.emit_stmt-returns-in-Always-clause-code
emit_stmt-returns-in-Always-clause-code t c = stmt_as (coding c.args.table.now c.args.slots.now) c.args.gives.now c.args.depth c.args.exits.now c.args.s.now (AlwaysStmt c.in-Always.slot c.in-Always.body) _ _ _ c.emit_always.result (rw (c.get-in-Always.ensures) at c.emit_always.ensures.code) c.in-Always.is (always_at (coding c.args.table.now c.args.slots.now) c.args.gives.now c.args.depth c.args.exits.now c.args.s.now.spot _ c.in-Always.slot c.in-Always.body)

pub emit_stmt-returns-in-Always-clause-exits : goal.emit_stmt-returns-in-Always-clause-exits
emit_stmt-returns-in-Always-clause-exits t c = c.emit_always.ensures.exits

pub emit_stmt-returns-in-While-clause-code : goal.emit_stmt-returns-in-While-clause-code
emit_stmt-returns-in-While-clause-code t c = stmt_as (coding c.args.table.now c.args.slots.now) c.args.gives.now c.args.depth c.args.exits.now c.args.s.now (While c.in-While.cond c.in-While.body) _ _ _ c.emit_while.result (rw (c.get-in-While.ensures, c.get-in-While-2.ensures) at c.emit_while.ensures.code) c.in-While.is (while_at (coding c.args.table.now c.args.slots.now) c.args.gives.now c.args.depth c.args.exits.now c.args.s.now.spot _ c.in-While.cond c.in-While.body)

pub emit_stmt-returns-in-While-clause-exits : goal.emit_stmt-returns-in-While-clause-exits
emit_stmt-returns-in-While-clause-exits t c = c.emit_while.ensures.exits

pub emit_stmt-returns-in-For-clause-code : goal.emit_stmt-returns-in-For-clause-code
emit_stmt-returns-in-For-clause-code t c = stmt_as (coding c.args.table.now c.args.slots.now) c.args.gives.now c.args.depth c.args.exits.now c.args.s.now (For c.in-For.init c.in-For.cond c.in-For.advance c.in-For.body) _ _ _ c.emit_for.result (rw (c.get-in-For.ensures) at c.emit_for.ensures.code) c.in-For.is (for_at (coding c.args.table.now c.args.slots.now) c.args.gives.now c.args.depth c.args.exits.now c.args.s.now.spot _ c.in-For.init c.in-For.cond c.in-For.advance c.in-For.body)

pub emit_stmt-returns-in-For-clause-exits : goal.emit_stmt-returns-in-For-clause-exits
emit_stmt-returns-in-For-clause-exits t c = c.emit_for.ensures.exits

pub emit_stmt-returns-in-Return-clause-code : goal.emit_stmt-returns-in-Return-clause-code
emit_stmt-returns-in-Return-clause-code t c = stmt_as (coding c.args.table.now c.args.slots.now) c.args.gives.now c.args.depth c.args.exits.now c.args.s.now (Return c.in-Return.e) _ _ _ c.emit_back.result c.emit_back.ensures c.in-Return.is refl

pub emit_stmt-returns-in-Return-clause-exits : goal.emit_stmt-returns-in-Return-clause-exits
emit_stmt-returns-in-Return-clause-exits t c = anyway c.emit_back.result refl

pub emit_stmt-returns-in-Break-clause-code : goal.emit_stmt-returns-in-Break-clause-code
emit_stmt-returns-in-Break-clause-code t c = stmt_as (coding c.args.table.now c.args.slots.now) c.args.gives.now c.args.depth c.args.exits.now c.args.s.now Break _ _ _ c.emit_way.result c.emit_way.ensures c.in-Break.is refl

pub emit_stmt-returns-in-Break-clause-exits : goal.emit_stmt-returns-in-Break-clause-exits
emit_stmt-returns-in-Break-clause-exits t c = anyway c.emit_way.result refl

pub emit_stmt-returns-in-Continue-clause-code : goal.emit_stmt-returns-in-Continue-clause-code
emit_stmt-returns-in-Continue-clause-code t c = stmt_as (coding c.args.table.now c.args.slots.now) c.args.gives.now c.args.depth c.args.exits.now c.args.s.now Continue _ _ _ c.emit_way-in-Continue.result c.emit_way-in-Continue.ensures c.in-Continue.is refl

pub emit_stmt-returns-in-Continue-clause-exits : goal.emit_stmt-returns-in-Continue-clause-exits
emit_stmt-returns-in-Continue-clause-exits t c = anyway c.emit_way-in-Continue.result refl

pub emit_stmt-returns-in-Empty-clause-code : goal.emit_stmt-returns-in-Empty-clause-code
emit_stmt-returns-in-Empty-clause-code t c = stmt_now (coding c.args.table.now c.args.slots.now) c.args.gives.now c.args.depth c.args.exits.now c.args.s.now Empty none _ _ (adds_none _) c.in-Empty.is refl

pub emit_turn_of-returns-clause-code : goal.emit_turn_of-returns-clause-code
emit_turn_of-returns-clause-code t c = seq_puts _ _ _ _ _ c.emit_stmt.result c.in_ok-put.ensures (rw c.below.ensures.value at c.emit_stmt.ensures.code)

pub emit_turn_of-returns-clause-exits : goal.emit_turn_of-returns-clause-exits
emit_turn_of-returns-clause-exits t c = c.emit_stmt.ensures.exits

pub emit_part-returns-clause-code : goal.emit_part-returns-clause-code
emit_part-returns-clause-code t c = seq_puts _ _ _ _ _ c.leave_declared.result c.in_ok-emit_turn_of.ensures.code c.leave_declared.ensures

pub emit_part-returns-clause-exits : goal.emit_part-returns-clause-exits
emit_part-returns-clause-exits t c = anyway c.leave_declared.result c.in_ok-emit_turn_of.ensures.exits

pub emit_other-returns-in-Some-clause-code : goal.emit_other-returns-in-Some-clause-code
emit_other-returns-in-Some-clause-code t c = told_as _ _ _ _ c.emit_part.result (rw c.get.ensures at c.emit_part.ensures.code) (ap (λ o. other_of (coding c.args.table.now c.args.slots.now) c.args.gives.now c.args.depth c.args.exits.now o (length c.args.code.now)) c.in-Some.is)

pub emit_other-returns-in-Some-clause-exits : goal.emit_other-returns-in-Some-clause-exits
emit_other-returns-in-Some-clause-exits t c = c.emit_part.ensures.exits

pub emit_other-returns-in-None-clause-code : goal.emit_other-returns-in-None-clause-code
emit_other-returns-in-None-clause-code t c = adds_as _ _ none (other_of (coding c.args.table.now c.args.slots.now) c.args.gives.now c.args.depth c.args.exits.now c.args.no.now) (ap (λ o. other_of (coding c.args.table.now c.args.slots.now) c.args.gives.now c.args.depth c.args.exits.now o (length c.args.code.now)) c.in-None.is) (adds_none _)

pub emit_if-returns-clause-code : goal.emit_if-returns-clause-code
emit_if-returns-clause-code t c = choice_lands _ _ _ _ _ _ _ _ _ _ c.args.cond.now.spot _ _ _ _ c.in_ok-emit_expr.ensures c.len-test.ensures c.in_ok-put.ensures c.in_ok-emit_part.ensures.code c.len-jump.ensures c.in_ok-put-2.ensures (rw c.in_ok-emit_part.ensures.exits at c.in_ok-emit_other.ensures.code) c.land.ensures

pub emit_if-returns-clause-exits : goal.emit_if-returns-clause-exits
emit_if-returns-clause-exits t c = c.in_ok-emit_other.ensures.exits ∙ c.in_ok-emit_part.ensures.exits

pub emit_parts-returns-clause-code : goal.emit_parts-returns-clause-code
emit_parts-returns-clause-code t c = seq_puts _ _ _ _ _ c.put-2.result c.in_ok-emit_part.ensures.code (seq_puts _ _ _ _ _ c.put-2.result c.in_ok-put.ensures (seq_puts _ _ _ _ _ c.put-2.result (rw c.in_ok-emit_part.ensures.exits at c.in_ok-emit_other.ensures.code) c.put-2.ensures))

pub emit_parts-returns-clause-exits : goal.emit_parts-returns-clause-exits
emit_parts-returns-clause-exits t c = anyway c.put-2.result (c.in_ok-emit_other.ensures.exits ∙ c.in_ok-emit_part.ensures.exits)

pub emit_when-returns-clause-code : goal.emit_when-returns-clause-code
emit_when-returns-clause-code t c = adds_seq _ _ _ _ _ c.in_ok-emit_expr.ensures (adds_seq _ _ _ _ _ c.in_ok-put.ensures (rw c.in_ok-push.ensures.ok at c.in_ok-emit_parts.ensures.code))

pub emit_when-returns-clause-exits : goal.emit_when-returns-clause-exits
emit_when-returns-clause-exits t c = popped_back c.pop.result _ _ _ _ (c.in_ok-emit_parts.ensures.exits ∙ c.in_ok-push.ensures.ok) c.pop.ensures

pub emit_always-returns-clause-code : goal.emit_always-returns-clause-code
emit_always-returns-clause-code t c = seq_puts _ _ _ _ _ c.put-2.result c.in_ok-put.ensures (seq_puts _ _ _ _ _ c.put-2.result (rw c.in_ok-push.ensures.ok at c.in_ok-emit_part.ensures.code) c.put-2.ensures)

pub emit_always-returns-clause-exits : goal.emit_always-returns-clause-exits
emit_always-returns-clause-exits t c = anyway c.put-2.result (popped_back c.pop.result _ _ _ _ (c.in_ok-emit_part.ensures.exits ∙ c.in_ok-push.ensures.ok) c.pop.ensures)

pub emit_body_at-returns-clause-code : goal.emit_body_at-returns-clause-code
emit_body_at-returns-clause-code t c = body_so (coding c.args.table.now c.args.slots.now) c.args.gives.now c.args.depth c.args.exits.now _ c.args.spot c.args.top _ _ c.args.body.now _ _ c.in_ok-push.ensures.ok c.requires.end c.requires.next c.in_ok-emit_part.ensures.code

pub emit_body_at-returns-clause-exits : goal.emit_body_at-returns-clause-exits
emit_body_at-returns-clause-exits t c = popped_back c.pop.result _ _ _ _ (c.in_ok-emit_part.ensures.exits ∙ c.in_ok-push.ensures.ok) c.pop.ensures

pub emit_while-returns-clause-code : goal.emit_while-returns-clause-code
emit_while-returns-clause-code t c = while_lands (coding c.args.table.now c.args.slots.now) c.args.gives.now c.args.depth c.args.exits.now _ _ _ _ _ _ c.args.spot c.args.cond.now c.args.body.now _ _ _ _ c.len-top.ensures (omega (arith, c.in_ok-step.ensures.step, c.len-top.ensures)) (omega (arith, c.in_ok-step.ensures.step, c.len-top.ensures)) c.in_ok-step.ensures.code c.in_ok-emit_body_at.ensures.code c.len-test.ensures c.in_ok-emit_test.ensures c.in_ok-put.ensures c.land_loop.ensures

pub emit_while-land_loop-requires : goal.emit_while-land_loop-requires
emit_while-land_loop-requires t c = loop_room _ _ _ _ _ _ _ none _ _ c.args.spot _ c.len-top.ensures c.in_ok-step.ensures.code c.in_ok-emit_body_at.ensures.code (adds_none _) c.in_ok-emit_test.ensures c.in_ok-put.ensures

pub emit_round-land_loop-requires : goal.emit_round-land_loop-requires
emit_round-land_loop-requires t c = loop_room _ _ _ _ _ _ _ _ _ _ c.args.spot _ c.len-top.ensures c.in_ok-step.ensures.code c.in_ok-emit_body_at.ensures.code c.in_ok-emit_advance.ensures c.in_ok-emit_maybe_test.ensures c.in_ok-put.ensures

pub emit_while-returns-clause-exits : goal.emit_while-returns-clause-exits
emit_while-returns-clause-exits t c = c.in_ok-emit_body_at.ensures.exits

pub emit_round-returns-clause-code : goal.emit_round-returns-clause-code
emit_round-returns-clause-code t c = round_lands (coding c.args.table.now c.args.slots.now) c.args.gives.now c.args.depth c.args.exits.now _ _ _ _ _ _ _ c.args.spot c.args.cond.now c.args.advance.now c.args.body.now _ _ _ _ _ c.len-top.ensures (omega (arith, c.in_ok-step.ensures.step, c.len-top.ensures)) (omega (arith, c.in_ok-step.ensures.step, c.len-top.ensures)) c.in_ok-step.ensures.code c.in_ok-emit_body_at.ensures.code c.len-after.ensures c.in_ok-emit_advance.ensures c.len-test.ensures c.in_ok-emit_maybe_test.ensures c.in_ok-put.ensures c.land_loop.ensures

pub emit_round-returns-clause-exits : goal.emit_round-returns-clause-exits
emit_round-returns-clause-exits t c = c.in_ok-emit_body_at.ensures.exits

pub emit_for-returns-clause-code : goal.emit_for-returns-clause-code
emit_for-returns-clause-code t c = seq_puts _ _ _ _ _ c.leave_header.result c.in_ok-emit_header.ensures (seq_puts _ _ _ _ _ c.leave_header.result c.in_ok-emit_round.ensures.code c.leave_header.ensures)

pub emit_for-returns-clause-exits : goal.emit_for-returns-clause-exits
emit_for-returns-clause-exits t c = anyway c.leave_header.result c.in_ok-emit_round.ensures.exits

pub emit_block-emit_turn_of-requires : goal.emit_block-emit_turn_of-requires
emit_block-emit_turn_of-requires t c = let r = stmt_item c.args.ss.now c.loop-i.i c.index-ss-i.result c.loop-i-test.true c.index-ss-i.is in
    search (rules, r, c.requires)

pub emit_block-loop-i-init : goal.emit_block-loop-i-init
emit_block-loop-i-init t c = record { mine = []; exits = sym (append-nil c.args.exits.now); code = refl }

pub emit_block-loop-i-preserved : goal.emit_block-loop-i-preserved
emit_block-loop-i-preserved t c = block_next (coding c.args.table.now c.args.slots.now) c.args.gives.now c.args.depth c.args.exits.now _ _ _ c.args.spot _ _ _ c.args.ss.now c.loop-i.i c.index-ss-i.result c.loop-i-test.true c.index-ss-i.is c.loop-i.invariant c.in_ok-emit_turn_of.ensures.code c.in_ok-emit_turn_of.ensures.exits c.in_ok-enter_declared.ensures

pub emit_block-close-requires : goal.emit_block-close-requires
emit_block-close-requires t c = block_marks (coding c.args.table.now c.args.slots.now) c.args.gives.now c.args.depth c.args.exits.now _ c.args.spot _ _ _ _ c.len-mark.ensures c.loop-i.invariant

pub emit_block-returns-clause-code : goal.emit_block-returns-clause-code
emit_block-returns-clause-code t c = block_code (coding c.args.table.now c.args.slots.now) c.args.gives.now c.args.depth c.args.exits.now _ c.args.spot _ _ c.args.ss.now c.loop-i.i _ c.args.code.now c.close.result c.loop-i-test.false c.len-mark.ensures c.loop-i.invariant c.close.ensures.code

pub emit_block-returns-clause-exits : goal.emit_block-returns-clause-exits
emit_block-returns-clause-exits t c = block_exits (coding c.args.table.now c.args.slots.now) c.args.gives.now c.args.depth c.args.exits.now _ _ c.args.spot _ _ _ _ c.close.result c.len-mark.ensures c.loop-i.invariant c.close.ensures.exits
