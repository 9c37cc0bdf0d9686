use Rattle.std.proofs.Common.{◌∙◌, ap, refl, Err, Some, [], rules}
use Rattle.std.proofs.lemmas.Result.{err_from_is_err_and}
use Rattle.oc_typed.specs.declared.typed.TExprNode.{Read, AddressOf, Decay}
use Rattle.frozen_rules.specs.Scopes.{facts_of, around}
use Rattle.std.specs.Prelude.{if◌then◌else◌}
use Rattle.std.specs.Option.{option_copied}
use Rattle.scope_rules.specs.InScope.{params_of, comings, first_unfrozen}
use Rattle.frozen_rules.specs.Lists.{whole, types_in}
use Rattle.frozen_rules.proofs.Sequences.{failed, passed, told_as, loop_failed, loop_next, loop_ended}
use Rattle.frozen_rules.proofs.Nodes.{place_so, unary_so, binary_so, same_so, logic_so, step_so, choose_so, assign_so, update_so, convert_so, call_so, own_so, deref_so, index_so, field_so, order_behind, order_before, callee_so, marked_so}
use Rattle.frozen_rules.proofs.Rests.{arg_next, args_end, own_args}
use Rattle.frozen_rules.proofs.Weight.{expr_weight}
use Rattle.frozen_rules.proofs.Falls.{item_weight, first_weight}
use Rattle.frozen_rules.proofs.expressions.+expressions.Goals as goal

pub check_expr-returns-in-Read : goal.check_expr-returns-in-Read
check_expr-returns-in-Read t c = place_so (around c.args.typed.now c.args.f.now) (facts_of c.args.w) c.args.e.now (Read c.in-Read.place) c.in-Read.place c.in-Read.is refl c.check_place.ensures

pub check_expr-returns-in-AddressOf : goal.check_expr-returns-in-AddressOf
check_expr-returns-in-AddressOf t c = place_so (around c.args.typed.now c.args.f.now) (facts_of c.args.w) c.args.e.now (AddressOf c.in-AddressOf.place) c.in-AddressOf.place c.in-AddressOf.is refl c.check_place-in-AddressOf.ensures

pub check_expr-returns-in-Decay : goal.check_expr-returns-in-Decay
check_expr-returns-in-Decay t c = place_so (around c.args.typed.now c.args.f.now) (facts_of c.args.w) c.args.e.now (Decay c.in-Decay.place) c.in-Decay.place c.in-Decay.is refl c.check_place-in-Decay.ensures

pub check_expr-returns-in-Unary : goal.check_expr-returns-in-Unary
check_expr-returns-in-Unary t c = unary_so (around c.args.typed.now c.args.f.now) (facts_of c.args.w) c.args.e.now c.in-Unary.op _ _ c.in-Unary.is c.get.ensures c.check_expr.ensures

pub check_expr-returns-in-Binary : goal.check_expr-returns-in-Binary
check_expr-returns-in-Binary t c = binary_so (around c.args.typed.now c.args.f.now) (facts_of c.args.w) c.args.e.now c.in-Binary.op _ _ c.in-Binary.left c.in-Binary.right c.in-Binary.is c.get-in-Binary.ensures c.get-in-Binary-2.ensures c.check_two.ensures

pub check_expr-returns-in-PointerSame : goal.check_expr-returns-in-PointerSame
check_expr-returns-in-PointerSame t c = same_so (around c.args.typed.now c.args.f.now) (facts_of c.args.w) c.args.e.now _ _ c.in-PointerSame.left c.in-PointerSame.right c.in-PointerSame.negated c.in-PointerSame.is c.get-in-PointerSame.ensures c.get-in-PointerSame-2.ensures c.check_two-in-PointerSame.ensures

pub check_expr-returns-in-Logic : goal.check_expr-returns-in-Logic
check_expr-returns-in-Logic t c = logic_so (around c.args.typed.now c.args.f.now) (facts_of c.args.w) c.args.e.now c.in-Logic.all _ _ c.in-Logic.left c.in-Logic.right c.in-Logic.is c.get-in-Logic.ensures c.get-in-Logic-2.ensures c.check_two-in-Logic.ensures

pub check_expr-returns-in-PointerStep : goal.check_expr-returns-in-PointerStep
check_expr-returns-in-PointerStep t c = step_so (around c.args.typed.now c.args.f.now) (facts_of c.args.w) c.args.e.now _ _ c.in-PointerStep.pointer c.in-PointerStep.amount c.in-PointerStep.back c.in-PointerStep.amount_first c.in-PointerStep.is c.get-in-PointerStep.ensures c.get-in-PointerStep-2.ensures c.check_step.ensures

pub check_expr-returns-in-Choose : goal.check_expr-returns-in-Choose
check_expr-returns-in-Choose t c = choose_so (around c.args.typed.now c.args.f.now) (facts_of c.args.w) c.args.e.now _ _ _ c.in-Choose.cond c.in-Choose.yes c.in-Choose.no c.in-Choose.is c.get-in-Choose.ensures c.get-in-Choose-2.ensures c.get-in-Choose-3.ensures c.check_choice.ensures

pub check_expr-returns-in-Assign : goal.check_expr-returns-in-Assign
check_expr-returns-in-Assign t c = assign_so (around c.args.typed.now c.args.f.now) (facts_of c.args.w) c.args.e.now c.in-Assign.place _ c.in-Assign.value c.in-Assign.is c.get-in-Assign.ensures c.check_assign.ensures

pub check_expr-returns-in-Update : goal.check_expr-returns-in-Update
check_expr-returns-in-Update t c = update_so (around c.args.typed.now c.args.f.now) (facts_of c.args.w) c.args.e.now c.in-Update.op c.in-Update.place _ c.in-Update.value c.in-Update.old c.in-Update.is c.get-in-Update.ensures c.check_update.ensures

pub check_expr-returns-in-Convert : goal.check_expr-returns-in-Convert
check_expr-returns-in-Convert t c = convert_so (around c.args.typed.now c.args.f.now) (facts_of c.args.w) c.args.e.now _ c.in-Convert.part c.in-Convert.is c.get-in-Convert.ensures c.check_coming.ensures

pub check_expr-returns-in-Call : goal.check_expr-returns-in-Call
check_expr-returns-in-Call t c = call_so (around c.args.typed.now c.args.f.now) (facts_of c.args.w) c.args.e.now c.in-Call.function _ c.in-Call.args c.in-Call.is c.as_slice.ensures c.check_call.ensures

pub check_expr-returns-in-Builtin : goal.check_expr-returns-in-Builtin
check_expr-returns-in-Builtin t c = own_so (around c.args.typed.now c.args.f.now) (facts_of c.args.w) c.args.e.now c.in-Builtin.which _ c.in-Builtin.args c.in-Builtin.is c.as_slice-in-Builtin.ensures c.check_own_call.ensures

pub check_place-returns-in-Deref : goal.check_place-returns-in-Deref
check_place-returns-in-Deref t c = deref_so (around c.args.typed.now c.args.f.now) (facts_of c.args.w) c.args.place.now _ c.in-Deref.pointer c.in-Deref.is c.get.ensures c.check_expr.ensures

pub check_place-returns-in-Index : goal.check_place-returns-in-Index
check_place-returns-in-Index t c = index_so (around c.args.typed.now c.args.f.now) (facts_of c.args.w) c.args.place.now _ _ c.in-Index.pointer c.in-Index.amount c.in-Index.is c.get-in-Index.ensures c.get-in-Index-2.ensures c.check_two.ensures

pub check_place-returns-in-Field : goal.check_place-returns-in-Field
check_place-returns-in-Field t c = field_so (around c.args.typed.now c.args.f.now) (facts_of c.args.w) c.args.place.now _ c.in-Field.base c.in-Field.offset c.in-Field.is c.get-in-Field.ensures c.check_place.ensures

pub check_step-returns-then-amount_first : goal.check_step-returns-then-amount_first
check_step-returns-then-amount_first t c = order_behind (whole (around c.args.typed.now c.args.f.now) (facts_of c.args.w) c.args.pointer.now) (whole (around c.args.typed.now c.args.f.now) (facts_of c.args.w) c.args.amount.now) c.args.amount_first c.if-amount_first.true c.check_two.ensures

pub check_step-returns : goal.check_step-returns
check_step-returns t c = order_before (whole (around c.args.typed.now c.args.f.now) (facts_of c.args.w) c.args.pointer.now) (whole (around c.args.typed.now c.args.f.now) (facts_of c.args.w) c.args.amount.now) c.args.amount_first c.if-amount_first.false c.check_two-2.ensures

pub check_two-returns-in_err-check_expr : goal.check_two-returns-in_err-check_expr
check_two-returns-in_err-check_expr t c =
    let q = err_from_is_err_and c.from_residual.result c.from_residual.ensures.1 in
    failed _ c.in_err-check_expr.ensures (q.1 ∙ ap Err q.2)

pub check_two-returns : goal.check_two-returns
check_two-returns t c = passed c.in_ok-check_expr.ensures c.check_expr-2.ensures

pub check_choice-returns-in_err-check_two : goal.check_choice-returns-in_err-check_two
check_choice-returns-in_err-check_two t c =
    let q = err_from_is_err_and c.from_residual.result c.from_residual.ensures.1 in
    failed _ c.in_err-check_two.ensures (q.1 ∙ ap Err q.2)

pub check_choice-returns : goal.check_choice-returns
check_choice-returns t c = passed c.in_ok-check_two.ensures c.check_expr.ensures

pub check_coming-returns-in_err-check_expr : goal.check_coming-returns-in_err-check_expr
check_coming-returns-in_err-check_expr t c =
    let q = err_from_is_err_and c.from_residual.result c.from_residual.ensures.1 in
    failed _ c.in_err-check_expr.ensures (q.1 ∙ ap Err q.2)

pub check_coming-returns : goal.check_coming-returns
check_coming-returns t c = passed c.in_ok-check_expr.ensures c.check_loss.ensures

pub check_unfrozen-returns-in_err-check_expr : goal.check_unfrozen-returns-in_err-check_expr
check_unfrozen-returns-in_err-check_expr t c =
    let q = err_from_is_err_and c.from_residual.result c.from_residual.ensures.1 in
    failed _ c.in_err-check_expr.ensures (q.1 ∙ ap Err q.2)

pub check_unfrozen-returns : goal.check_unfrozen-returns
check_unfrozen-returns t c = passed c.in_ok-check_expr.ensures c.check_own_loss.ensures

pub check_sides-returns-in_err-check_place : goal.check_sides-returns-in_err-check_place
check_sides-returns-in_err-check_place t c =
    let q = err_from_is_err_and c.from_residual.result c.from_residual.ensures.1 in
    failed _ c.in_err-check_place.ensures (q.1 ∙ ap Err q.2)

pub check_sides-returns : goal.check_sides-returns
check_sides-returns t c = passed c.in_ok-check_place.ensures c.check_expr.ensures

pub check_filling-returns-in_err-check_sides : goal.check_filling-returns-in_err-check_sides
check_filling-returns-in_err-check_sides t c =
    let q = err_from_is_err_and c.from_residual.result c.from_residual.ensures.1 in
    failed _ c.in_err-check_sides.ensures (q.1 ∙ ap Err q.2)

pub check_filling-returns : goal.check_filling-returns
check_filling-returns t c = passed c.in_ok-check_sides.ensures c.check_loss.ensures

pub check_assign-returns-in_err-check_filling : goal.check_assign-returns-in_err-check_filling
check_assign-returns-in_err-check_filling t c =
    let q = err_from_is_err_and c.from_residual.result c.from_residual.ensures.1 in
    failed _ c.in_err-check_filling.ensures (q.1 ∙ ap Err q.2)

pub check_assign-returns : goal.check_assign-returns
check_assign-returns t c = passed c.in_ok-check_filling.ensures c.check_write.ensures

pub check_update-returns-in_err-check_sides : goal.check_update-returns-in_err-check_sides
check_update-returns-in_err-check_sides t c =
    let q = err_from_is_err_and c.from_residual.result c.from_residual.ensures.1 in
    failed _ c.in_err-check_sides.ensures (q.1 ∙ ap Err q.2)

pub check_update-returns : goal.check_update-returns
check_update-returns t c = passed c.in_ok-check_sides.ensures c.check_write.ensures

pub check_own_call-returns-in_err-check_own_args : goal.check_own_call-returns-in_err-check_own_args
check_own_call-returns-in_err-check_own_args t c =
    let q = err_from_is_err_and c.from_residual.result c.from_residual.ensures.1 in
    failed _ c.in_err-check_own_args.ensures (q.1 ∙ ap Err q.2)

pub check_own_call-returns : goal.check_own_call-returns
check_own_call-returns t c = passed c.in_ok-check_own_args.ensures c.keep.ensures

pub check_args-returns-in_err-check_arg : goal.check_args-returns-in_err-check_arg
check_args-returns-in_err-check_arg t c =
    let q = err_from_is_err_and c.from_residual.result c.from_residual.ensures.1 in
    let ts = params_of (option_copied c.args.callee) in
    let e = arg_next (around c.args.typed.now c.args.f.now) (facts_of c.args.w) ts c.args.args.now c.loop-i.i c.index-args-i.result (option_copied c.param_type.result) c.loop-i-test.true c.index-args-i.is c.param_type.ensures in
    loop_failed _ c.loop-i.invariant e c.in_err-check_arg.ensures (q.1 ∙ ap Err q.2)

pub check_args-loop-i-preserved : goal.check_args-loop-i-preserved
check_args-loop-i-preserved t c =
    let ts = params_of (option_copied c.args.callee) in
    let e = arg_next (around c.args.typed.now c.args.f.now) (facts_of c.args.w) ts c.args.args.now c.loop-i.i c.index-args-i.result (option_copied c.param_type.result) c.loop-i-test.true c.index-args-i.is c.param_type.ensures in
    loop_next _ c.loop-i.invariant e c.in_ok-check_arg.ensures

pub check_args-check_arg-requires : goal.check_args-check_arg-requires
check_args-check_arg-requires t c =
    let r = item_weight expr_weight c.args.args.now c.loop-i.i c.index-args-i.result c.loop-i-test.true c.index-args-i.is in
    search (rules, r)

pub check_own_args-check_unfrozen-requires : goal.check_own_args-check_unfrozen-requires
check_own_args-check_unfrozen-requires t c =
    let r = first_weight expr_weight c.args.args.now c.in-Some.rest.now c.in-Some.first.now c.in-Some.ensures.cases.0 in
    search (rules, r)

pub check_own_args-returns-in_err-check_unfrozen-in-Some : goal.check_own_args-returns-in_err-check_unfrozen-in-Some
check_own_args-returns-in_err-check_unfrozen-in-Some t c =
    let q = err_from_is_err_and c.from_residual.result c.from_residual.ensures.1 in
    let ts = types_in c.args.args.now in
    told_as (own_args (around c.args.typed.now c.args.f.now) (facts_of c.args.w) (comings c.args.which.now ts) c.args.args.now c.in-Some.rest.now c.in-Some.first.now c.in-Some.ensures.cases.0
    (c.takes_unfrozen.ensures ts ∙ ap (λ b. if b then first_unfrozen ts else []) c.if-not-takes_unfrozen.false))
    (failed _ c.in_err-check_unfrozen-in-Some.ensures (q.1 ∙ ap Err q.2))

pub check_own_args-returns-in_ok-check_unfrozen-in-Some : goal.check_own_args-returns-in_ok-check_unfrozen-in-Some
check_own_args-returns-in_ok-check_unfrozen-in-Some t c =
    let ts = types_in c.args.args.now in
    told_as (own_args (around c.args.typed.now c.args.f.now) (facts_of c.args.w) (comings c.args.which.now ts) c.args.args.now c.in-Some.rest.now c.in-Some.first.now c.in-Some.ensures.cases.0
    (c.takes_unfrozen.ensures ts ∙ ap (λ b. if b then first_unfrozen ts else []) c.if-not-takes_unfrozen.false))
    (passed c.in_ok-check_unfrozen-in-Some.ensures c.check_args-in-Some.ensures)

pub check_args-returns : goal.check_args-returns
check_args-returns t c =
    loop_ended c.loop-i.invariant (args_end (around c.args.typed.now c.args.f.now) (facts_of c.args.w) _ c.args.args.now c.loop-i.i c.loop-i-test.false) refl

pub check_call-returns-in_err-check_args : goal.check_call-returns-in_err-check_args
check_call-returns-in_err-check_args t c =
    let q = err_from_is_err_and c.from_residual.result c.from_residual.ensures.1 in
    callee_so (around c.args.typed.now c.args.f.now) (facts_of c.args.w) c.args.args.now c.args.spot _ _ c.get-callee.ensures.value (failed _ c.in_err-check_args.ensures (q.1 ∙ ap Err q.2))

pub check_call-returns : goal.check_call-returns
check_call-returns t c =
    callee_so (around c.args.typed.now c.args.f.now) (facts_of c.args.w) c.args.args.now c.args.spot _ _ c.get-callee.ensures.value (passed c.in_ok-check_args.ensures (marked_so c.args.spot _ _ c.may_call.ensures c.keep.ensures))
