use Rattle.std.proofs.Common.{◌∙◌, ap, sym, refl, length, true, false, rules}
use Rattle.oc_typed.specs.declared.typed.TExprNode.{NullPointer, Read, AddressOf, Decay, Unary, Binary, PointerStep, PointerSame, Logic, Choose, Assign, Update, Convert, Call, Builtin as Known}
use Rattle.oc_typed.specs.declared.typed.TPlaceNode.{Slot, Deref, Index, Field}
use Rattle.cond_lowering.specs.Forms.{moved_of, update_of}
use Rattle.cond_lowering.proofs.Adding.{told_as, seq_puts, choice_lands}
use Rattle.cond_lowering.proofs.Views.{node_as, place_as, unary_at, binary_at, moved_at, same_at, logic_at, choose_at, assign_at, update_at, convert_at, call_at, own_at, deref_at, index_at, field_at, logic_hidden, logic_shown}
use Rattle.cond_lowering.proofs.Loops.{args_next, args_end}
use Rattle.cond_lowering.proofs.Weight.{item_weight}
use Rattle.cond_lowering.proofs.expressions.+emit.Goals as goal

pub emit_expr-returns-in-NullPointer : goal.emit_expr-returns-in-NullPointer
emit_expr-returns-in-NullPointer t c = node_as c.args.table.now c.args.depth c.args.e.now NullPointer _ _ _ c.put-in-NullPointer.result c.put-in-NullPointer.ensures c.in-NullPointer.is refl

pub emit_expr-returns-in-Read : goal.emit_expr-returns-in-Read
emit_expr-returns-in-Read t c = node_as c.args.table.now c.args.depth c.args.e.now (Read c.in-Read.place) _ _ _ c.emit_held.result (rw (c.below-within.ensures.value) at c.emit_held.ensures) c.in-Read.is refl

pub emit_expr-returns-in-AddressOf : goal.emit_expr-returns-in-AddressOf
emit_expr-returns-in-AddressOf t c = node_as c.args.table.now c.args.depth c.args.e.now (AddressOf c.in-AddressOf.place) _ _ _ c.emit_place.result (rw (c.below-within.ensures.value) at c.emit_place.ensures) c.in-AddressOf.is refl

pub emit_expr-returns-in-Decay : goal.emit_expr-returns-in-Decay
emit_expr-returns-in-Decay t c = node_as c.args.table.now c.args.depth c.args.e.now (Decay c.in-Decay.place) _ _ _ c.emit_place-in-Decay.result (rw (c.below-within.ensures.value) at c.emit_place-in-Decay.ensures) c.in-Decay.is refl

pub emit_expr-returns-in-Unary : goal.emit_expr-returns-in-Unary
emit_expr-returns-in-Unary t c = node_as c.args.table.now c.args.depth c.args.e.now (Unary c.in-Unary.op c.in-Unary.part) _ _ _ c.emit_unary.result (rw (c.below-within.ensures.value, c.get.ensures) at c.emit_unary.ensures) c.in-Unary.is (unary_at c.args.table.now c.args.depth c.args.e.now.spot c.args.e.now.ty _ c.in-Unary.op c.in-Unary.part)

pub emit_expr-returns-in-Binary : goal.emit_expr-returns-in-Binary
emit_expr-returns-in-Binary t c = node_as c.args.table.now c.args.depth c.args.e.now (Binary c.in-Binary.op c.in-Binary.left c.in-Binary.right) _ _ _ c.emit_binary.result (rw (c.below-within.ensures.value, c.get-in-Binary.ensures, c.get-in-Binary-2.ensures) at c.emit_binary.ensures) c.in-Binary.is (binary_at c.args.table.now c.args.depth c.args.e.now.spot c.args.e.now.ty _ c.in-Binary.op c.in-Binary.left c.in-Binary.right)

pub emit_expr-returns-in-PointerStep : goal.emit_expr-returns-in-PointerStep
emit_expr-returns-in-PointerStep t c = node_as c.args.table.now c.args.depth c.args.e.now (PointerStep c.in-PointerStep.pointer c.in-PointerStep.amount c.in-PointerStep.back c.in-PointerStep.amount_first) _ _ _ c.emit_moved.result (rw (c.below-within.ensures.value, c.get-in-PointerStep.ensures, c.get-in-PointerStep-2.ensures) at c.emit_moved.ensures) c.in-PointerStep.is (moved_at c.args.table.now c.args.depth c.args.e.now.spot c.args.e.now.ty _ c.in-PointerStep.pointer c.in-PointerStep.amount c.in-PointerStep.back c.in-PointerStep.amount_first)

pub emit_expr-returns-in-PointerSame : goal.emit_expr-returns-in-PointerSame
emit_expr-returns-in-PointerSame t c = node_as c.args.table.now c.args.depth c.args.e.now (PointerSame c.in-PointerSame.left c.in-PointerSame.right c.in-PointerSame.negated) _ _ _ c.emit_same.result (rw (c.below-within.ensures.value, c.get-in-PointerSame.ensures, c.get-in-PointerSame-2.ensures) at c.emit_same.ensures) c.in-PointerSame.is (same_at c.args.table.now c.args.depth c.args.e.now.spot c.args.e.now.ty _ c.in-PointerSame.left c.in-PointerSame.right c.in-PointerSame.negated)

pub emit_expr-returns-in-Logic : goal.emit_expr-returns-in-Logic
emit_expr-returns-in-Logic t c = node_as c.args.table.now c.args.depth c.args.e.now (Logic c.in-Logic.all c.in-Logic.left c.in-Logic.right) _ _ _ c.emit_logic.result (rw (c.below-within.ensures.value, c.get-in-Logic.ensures, c.get-in-Logic-2.ensures) at c.emit_logic.ensures) c.in-Logic.is (logic_at c.args.table.now c.args.depth c.args.e.now.spot c.args.e.now.ty _ c.in-Logic.all c.in-Logic.left c.in-Logic.right)

pub emit_expr-returns-in-Choose : goal.emit_expr-returns-in-Choose
emit_expr-returns-in-Choose t c = node_as c.args.table.now c.args.depth c.args.e.now (Choose c.in-Choose.cond c.in-Choose.yes c.in-Choose.no) _ _ _ c.emit_choose.result (rw (c.below-within.ensures.value, c.get-in-Choose.ensures, c.get-in-Choose-2.ensures, c.get-in-Choose-3.ensures) at c.emit_choose.ensures) c.in-Choose.is (choose_at c.args.table.now c.args.depth c.args.e.now.spot c.args.e.now.ty _ c.in-Choose.cond c.in-Choose.yes c.in-Choose.no)

pub emit_expr-returns-in-Assign : goal.emit_expr-returns-in-Assign
emit_expr-returns-in-Assign t c = node_as c.args.table.now c.args.depth c.args.e.now (Assign c.in-Assign.place c.in-Assign.value) _ _ _ c.emit_assign.result (rw (c.below-within.ensures.value, c.get-in-Assign.ensures) at c.emit_assign.ensures) c.in-Assign.is (assign_at c.args.table.now c.args.depth c.args.e.now.spot c.args.e.now.ty _ c.in-Assign.place c.in-Assign.value)

pub emit_expr-returns-in-Update : goal.emit_expr-returns-in-Update
emit_expr-returns-in-Update t c = node_as c.args.table.now c.args.depth c.args.e.now (Update c.in-Update.op c.in-Update.place c.in-Update.value c.in-Update.old) _ _ _ c.emit_update.result (rw (c.below-within.ensures.value, c.get-in-Update.ensures) at c.emit_update.ensures) c.in-Update.is (update_at c.args.table.now c.args.depth c.args.e.now.spot c.args.e.now.ty _ c.in-Update.op c.in-Update.place c.in-Update.value c.in-Update.old)

pub emit_expr-returns-in-Convert : goal.emit_expr-returns-in-Convert
emit_expr-returns-in-Convert t c = node_as c.args.table.now c.args.depth c.args.e.now (Convert c.in-Convert.part) _ _ _ c.emit_convert.result (rw (c.get-in-Convert.ensures) at c.emit_convert.ensures) c.in-Convert.is (convert_at c.args.table.now c.args.depth c.args.e.now.spot c.args.e.now.ty _ c.in-Convert.part)

pub emit_expr-returns-in-Call : goal.emit_expr-returns-in-Call
emit_expr-returns-in-Call t c = node_as c.args.table.now c.args.depth c.args.e.now (Call c.in-Call.function c.in-Call.args) _ _ _ c.emit_call.result (rw (c.as_slice.ensures) at c.emit_call.ensures) c.in-Call.is (call_at c.args.table.now c.args.depth c.args.e.now.spot c.args.e.now.ty _ c.in-Call.function c.in-Call.args)

pub emit_expr-returns-in-Builtin : goal.emit_expr-returns-in-Builtin
emit_expr-returns-in-Builtin t c = node_as c.args.table.now c.args.depth c.args.e.now (Known c.in-Builtin.which c.in-Builtin.args) _ _ _ c.emit_own.result (rw (c.below-within.ensures.value, c.as_slice-in-Builtin.ensures) at c.emit_own.ensures) c.in-Builtin.is (own_at c.args.table.now c.args.depth c.args.e.now.spot c.args.e.now.ty _ c.in-Builtin.which c.in-Builtin.args)

pub emit_place-returns-in-Slot : goal.emit_place-returns-in-Slot
emit_place-returns-in-Slot t c = place_as c.args.table.now c.args.depth c.args.place.now (Slot c.in-Slot.n) _ _ _ c.put.result c.put.ensures c.in-Slot.is refl

pub emit_place-returns-in-Deref : goal.emit_place-returns-in-Deref
emit_place-returns-in-Deref t c = place_as c.args.table.now c.args.depth c.args.place.now (Deref c.in-Deref.pointer) _ _ _ c.emit_deref.result (rw (c.below-within.ensures.value, c.get.ensures) at c.emit_deref.ensures) c.in-Deref.is (deref_at c.args.table.now c.args.depth c.args.place.now.spot c.args.place.now.ty _ c.in-Deref.pointer)

pub emit_place-returns-in-Index : goal.emit_place-returns-in-Index
emit_place-returns-in-Index t c = place_as c.args.table.now c.args.depth c.args.place.now (Index c.in-Index.pointer c.in-Index.amount) _ _ _ c.emit_index.result (rw (c.below-within.ensures.value, c.get-in-Index.ensures, c.get-in-Index-2.ensures) at c.emit_index.ensures) c.in-Index.is (index_at c.args.table.now c.args.depth c.args.place.now.spot c.args.place.now.ty _ c.in-Index.pointer c.in-Index.amount)

pub emit_place-returns-in-Field : goal.emit_place-returns-in-Field
emit_place-returns-in-Field t c = place_as c.args.table.now c.args.depth c.args.place.now (Field c.in-Field.base c.in-Field.offset) _ _ _ c.emit_field.result (rw (c.below-within.ensures.value, c.get-in-Field.ensures) at c.emit_field.ensures) c.in-Field.is (field_at c.args.table.now c.args.depth c.args.place.now.spot c.args.place.now.ty _ c.in-Field.base c.in-Field.offset)

pub emit_deref-returns : goal.emit_deref-returns
emit_deref-returns t c = seq_puts _ _ _ _ _ c.put.result c.in_ok-emit_expr.ensures c.put.ensures

pub emit_index-returns : goal.emit_index-returns
emit_index-returns t c = seq_puts _ _ _ _ _ c.put.result c.in_ok-emit_expr.ensures (seq_puts _ _ _ _ _ c.put.result c.in_ok-emit_expr-2.ensures (rw (c.size_of-size.ensures) at c.put.ensures))

pub emit_field-returns : goal.emit_field-returns
emit_field-returns t c = seq_puts _ _ _ _ _ c.put.result c.in_ok-emit_place.ensures c.put.ensures

pub emit_held-returns : goal.emit_held-returns
emit_held-returns t c = seq_puts _ _ _ _ _ c.emit_read.result c.in_ok-emit_place.ensures c.emit_read.ensures

pub emit_unary-returns : goal.emit_unary-returns
emit_unary-returns t c = seq_puts _ _ _ _ _ c.put.result c.in_ok-emit_expr.ensures (rw (c.kind_of.ensures, c.is_hidden.ensures) at c.put.ensures)

pub emit_binary-returns : goal.emit_binary-returns
emit_binary-returns t c = seq_puts _ _ _ _ _ c.put.result c.in_ok-emit_expr.ensures (seq_puts _ _ _ _ _ c.put.result c.in_ok-emit_expr-2.ensures (rw (c.kind_of.ensures, c.is_hidden.ensures) at c.put.ensures))

pub emit_moved-returns-then-amount_first : goal.emit_moved-returns-then-amount_first
emit_moved-returns-then-amount_first t c = told_as _ _ _ _ c.emit_step.result (seq_puts _ _ _ _ _ c.emit_step.result c.in_ok-emit_expr.ensures (seq_puts _ _ _ _ _ c.emit_step.result c.in_ok-emit_expr-2.ensures (rw (c.target_size-size.ensures) at c.emit_step.ensures))) (ap (λ b. moved_of c.args.table.now c.args.depth c.args.spot c.args.ty.now c.args.pointer.now c.args.amount.now c.args.back b (length c.args.code.now)) c.if-amount_first.true)

pub emit_moved-returns : goal.emit_moved-returns
emit_moved-returns t c = told_as _ _ _ _ c.emit_step-2.result (seq_puts _ _ _ _ _ c.emit_step-2.result c.in_ok-emit_expr-3.ensures (seq_puts _ _ _ _ _ c.emit_step-2.result c.in_ok-emit_expr-4.ensures (rw (c.target_size-size.ensures) at c.emit_step-2.ensures))) (ap (λ b. moved_of c.args.table.now c.args.depth c.args.spot c.args.ty.now c.args.pointer.now c.args.amount.now c.args.back b (length c.args.code.now)) c.if-amount_first.false)

pub emit_same-returns : goal.emit_same-returns
emit_same-returns t c = seq_puts _ _ _ _ _ c.put.result c.in_ok-emit_expr.ensures (seq_puts _ _ _ _ _ c.put.result c.in_ok-emit_expr-2.ensures c.put.ensures)

pub emit_hidden_logic-returns : goal.emit_hidden_logic-returns
emit_hidden_logic-returns t c = seq_puts _ _ _ _ _ c.put.result c.in_ok-emit_expr.ensures (seq_puts _ _ _ _ _ c.put.result c.in_ok-emit_expr-2.ensures (rw (c.logic_op.ensures) at c.put.ensures))

pub emit_truth-returns : goal.emit_truth-returns
emit_truth-returns t c = seq_puts _ _ _ _ _ c.put.result c.in_ok-emit_expr.ensures c.put.ensures

pub emit_choose-returns : goal.emit_choose-returns
emit_choose-returns t c = choice_lands _ _ _ _ _ _ _ _ _ _ c.args.spot _ _ _ _ c.in_ok-emit_expr.ensures c.len-test.ensures c.in_ok-put.ensures c.in_ok-emit_expr-2.ensures c.len-jump.ensures c.in_ok-put-2.ensures c.in_ok-emit_expr-3.ensures c.land.ensures

pub emit_all-returns : goal.emit_all-returns
emit_all-returns t c = choice_lands _ _ _ _ _ _ _ _ _ _ c.args.spot _ _ _ _ c.in_ok-emit_expr.ensures c.len-test.ensures c.in_ok-put.ensures c.in_ok-emit_truth.ensures c.len-jump.ensures c.in_ok-put-2.ensures c.in_ok-put-3.ensures c.land.ensures

pub emit_any-returns : goal.emit_any-returns
emit_any-returns t c = choice_lands _ _ _ _ _ _ _ _ _ _ c.args.spot _ _ _ _ c.in_ok-emit_expr.ensures c.len-test.ensures c.in_ok-put.ensures c.in_ok-put-2.ensures c.len-jump.ensures c.in_ok-put-3.ensures c.in_ok-emit_truth.ensures c.land.ensures

pub emit_logic-returns-then-is_hidden : goal.emit_logic-returns-then-is_hidden
emit_logic-returns-then-is_hidden t c = told_as _ _ _ _ c.emit_hidden_logic.result c.emit_hidden_logic.ensures (logic_hidden c.args.table.now c.args.depth c.args.spot c.args.ty.now c.args.all c.args.left.now c.args.right.now _ (sym c.is_hidden.ensures ∙ c.if-is_hidden.true))

pub emit_logic-returns-then-all : goal.emit_logic-returns-then-all
emit_logic-returns-then-all t c = told_as _ _ _ _ c.emit_all.result c.emit_all.ensures (logic_shown c.args.table.now c.args.depth c.args.spot c.args.ty.now c.args.all true c.args.left.now c.args.right.now _ (sym c.is_hidden.ensures ∙ c.if-is_hidden.false) c.if-all.true)

pub emit_logic-returns : goal.emit_logic-returns
emit_logic-returns t c = told_as _ _ _ _ c.emit_any.result c.emit_any.ensures (logic_shown c.args.table.now c.args.depth c.args.spot c.args.ty.now c.args.all false c.args.left.now c.args.right.now _ (sym c.is_hidden.ensures ∙ c.if-is_hidden.false) c.if-all.false)

pub emit_assign-returns : goal.emit_assign-returns
emit_assign-returns t c = seq_puts _ _ _ _ _ c.emit_write.result c.in_ok-emit_place.ensures (seq_puts _ _ _ _ _ c.emit_write.result c.in_ok-emit_expr.ensures c.emit_write.ensures)

pub emit_renewed-returns : goal.emit_renewed-returns
emit_renewed-returns t c = seq_puts _ _ _ _ _ c.emit_renewal.result c.in_ok-emit_place.ensures (seq_puts _ _ _ _ _ c.emit_renewal.result c.in_ok-put.ensures (seq_puts _ _ _ _ _ c.emit_renewal.result c.in_ok-emit_expr.ensures c.emit_renewal.ensures))

pub emit_kept-returns : goal.emit_kept-returns
emit_kept-returns t c = seq_puts _ _ _ _ _ c.emit_storing.result c.in_ok-emit_place.ensures (seq_puts _ _ _ _ _ c.emit_storing.result c.in_ok-emit_keeping.ensures (seq_puts _ _ _ _ _ c.emit_storing.result c.in_ok-emit_expr.ensures c.emit_storing.ensures))

pub emit_update-returns-then-old : goal.emit_update-returns-then-old
emit_update-returns-then-old t c = told_as _ _ _ _ c.emit_kept.result c.emit_kept.ensures (ap (λ b. update_of c.args.table.now c.args.depth c.args.spot c.args.op c.args.place.now c.args.value.now b (length c.args.code.now)) c.if-old.true)

pub emit_update-returns : goal.emit_update-returns
emit_update-returns t c = told_as _ _ _ _ c.emit_renewed.result c.emit_renewed.ensures (ap (λ b. update_of c.args.table.now c.args.depth c.args.spot c.args.op c.args.place.now c.args.value.now b (length c.args.code.now)) c.if-old.false)

pub emit_convert-returns : goal.emit_convert-returns
emit_convert-returns t c = seq_puts _ _ _ _ _ c.emit_turn.result (rw c.lighter.ensures.value at c.in_ok-emit_expr.ensures) c.emit_turn.ensures

pub emit_call-returns : goal.emit_call-returns
emit_call-returns t c = seq_puts _ _ _ _ _ c.put.result (rw c.below.ensures.value at c.in_ok-emit_args.ensures) c.put.ensures

pub emit_own-returns : goal.emit_own-returns
emit_own-returns t c = seq_puts _ _ _ _ _ c.perform.result c.in_ok-emit_args.ensures c.perform.ensures

pub emit_args-emit_expr-requires : goal.emit_args-emit_expr-requires
emit_args-emit_expr-requires t c = let r = item_weight c.args.args.now c.loop-i.i c.index-args-i.result c.loop-i-test.true c.index-args-i.is in
    search (rules, r, c.requires)

pub emit_args-loop-i-preserved : goal.emit_args-loop-i-preserved
emit_args-loop-i-preserved t c = args_next c.args.table.now c.args.depth _ _ _ c.args.args.now c.loop-i.i c.index-args-i.result c.loop-i-test.true c.index-args-i.is c.loop-i.invariant c.in_ok-emit_expr.ensures

pub emit_args-returns : goal.emit_args-returns
emit_args-returns t c = args_end c.args.table.now c.args.depth _ _ c.args.args.now c.loop-i.i c.loop-i-test.false c.loop-i.invariant
