use Rattle.std.proofs.Common.{rules, ◌∙◌, ap, sym, refl, Ok, Err}
use Rattle.std.specs.Option.{option_copied}
use Rattle.std.proofs.lemmas.Result.{err_from_is_err_and}
use Rattle.oc_typed.specs.declared.typed.TExprNode.{Unary, Binary, PointerStep, PointerSame, Logic, Choose, Assign, Update, Convert, Call, Builtin as Own}
use Rattle.oc_typed.specs.declared.typed.TPlaceNode.{Deref, Index, Field}
use Rattle.oc_walk.specs.Cells.{Only}
use Rattle.clear_walk.specs.Runs.{around, goal_of, integer_of, other_of, part_of, source_in}
use Rattle.clear_walk.proofs.Weight.{expr_weight, declared_weight, stmt_weight, body_weight, heaviest}
use Rattle.clear_walk.proofs.Falls.{item_weight, found_weight, call_falls}
use Rattle.clear_walk.proofs.Walked.{at_once, by_look, by_acts, by_move, deep_expr, deep_two, deep_place, deep_exprs}
use Rattle.clear_walk.proofs.Forms.{node_is, place_is, decay_is, read_so, address_so, unary_so, binary_so, step_so, step_first_so, same_so, hidden_logic_so, logic_so, choose_so, assign_so, update_so, old_so, convert_so, call_so, own_so, deref_so, index_so, field_so}
use Rattle.clear_walk.proofs.Steps.{both_are, three_are, called_here, performed, address_goes, field_goes, test_then, decided_goes, other_goes, yes_goes, no_goes, value_goes, assign_goes, operand_goes, update_goes, old_goes, end_goes, ended_goes, two_so, second_goes, beside_expr}
use Rattle.clear_walk.proofs.Ends.{step_marked, update_marked, only_look, only_acts, no_memory_exprs, part_so, second_part, enabling_part, enabling_other, turned_start, loop_stopped, done_at, function_inside}
use Rattle.clear_walk.proofs.Bodies.{after_is, deep_after, stepped_so, declare_so, express_so, scoped_so, block_so, if_so, chooses_first, chooses_second, while_so, for_so, always_so, return_so, obliv_so, headed_so, round_so, turned_next, loop_ends}
use Rattle.clear_walk.proofs.Turns.{tested_so, hidden_so, condition_so, start_so, advance_so, return_expr, header_declares, header_advance, other_part, declared_so, always_is, filled_then, enabled_part, both_so, done_next, turn_goes, turn_ends, body_goes}
use Rattle.clear_walk.proofs.Loops.{exprs_start, exprs_next, exprs_stop, exprs_over, declares_start, declares_next, declares_stop, declares_over, passed_start, passed_next, list_ends, list_over}
use Rattle.clear_walk.proofs.Calls.{call_goes, function_so, body_so}
use Rattle.std.proofs.Common.{SFits, w64, to_z, of_z}
use Rattle.std.specs.Int.{w128}
use Rattle.std.proofs.lemmas.Int.{to_z-of_z}
use Rattle.oc_cells.specs.Types.{kind_of}
use Rattle.oc_walk.specs.declared.run.Value.TheVariants.{Int}
use Rattle.clear_walk.proofs.Glancing.{glanced, glanced_place, done, from_same}
use Rattle.clear_walk.proofs.nodes.+run.Goals as goal

pub run_expr-returns-in-Some : goal.run_expr-returns-in-Some
run_expr-returns-in-Some t c =
    let f : SFits w128 c.from.result = search rules in
    let g : SFits w64 c.in-Some.n = search rules in
    glanced (around c.args.frame.now c.args.at) c.args.e.now c.in-Some.n c.in-Some.ensures
    (ap (λ k. Ok (Int k (to_z w128 (of_z w128 c.from.result)))) c.kind_of.ensures ∙ ap (λ i. Ok (Int (kind_of c.args.e.now.ty) i)) (to_z-of_z w128 c.from.result f ∙ c.from.ensures ∙ to_z-of_z w64 c.in-Some.n g))

pub run_assign-returns-in-Some : goal.run_assign-returns-in-Some
run_assign-returns-in-Some t c =
    let f : SFits w128 c.from.result = search rules in
    let g : SFits w64 c.in-Some.n = search rules in
    done (around c.args.frame.now c.args.at) (Assign c.args.place.now c.args.value.now) c.args.place.now.ty c.in-Some.n c.in-Some.ensures
    (ap (λ k. Ok (Int k (to_z w128 (of_z w128 c.from.result)))) c.kind_of.ensures ∙ ap (λ i. Ok (Int (kind_of c.args.place.now.ty) i)) (to_z-of_z w128 c.from.result f ∙ c.from.ensures ∙ to_z-of_z w64 c.in-Some.n g))

pub run_update-returns-in-Some : goal.run_update-returns-in-Some
run_update-returns-in-Some t c =
    let f : SFits w128 c.from.result = search rules in
    let g : SFits w64 c.in-Some.n = search rules in
    done (around c.args.frame.now c.args.at) (Update c.args.op c.args.place.now c.args.value.now c.args.old) c.args.place.now.ty c.in-Some.n c.in-Some.ensures
    (ap (λ k. Ok (Int k (to_z w128 (of_z w128 c.from.result)))) c.kind_of.ensures ∙ ap (λ i. Ok (Int (kind_of c.args.place.now.ty) i)) (to_z-of_z w128 c.from.result f ∙ c.from.ensures ∙ to_z-of_z w64 c.in-Some.n g))
    c.args.e.now

pub run_assign-returns : goal.run_assign-returns
run_assign-returns t c = λ e. from_same _ c.in_default.ensures (c.run_assigned.ensures e)

pub run_update-returns : goal.run_update-returns
run_update-returns t c = from_same _ c.in_default.ensures c.run_updated.ensures

pub run_place-returns-in-Some : goal.run_place-returns-in-Some
run_place-returns-in-Some t c =
    glanced_place (around c.args.frame.now c.args.at) c.args.place.now c.in-Some.to c.in-Some.ensures

pub run_expr-returns-in-Read : goal.run_expr-returns-in-Read
run_expr-returns-in-Read t c =
    node_is c.in-Read.is (c.run_read.ensures _)

pub run_expr-returns-in-AddressOf : goal.run_expr-returns-in-AddressOf
run_expr-returns-in-AddressOf t c =
    node_is c.in-AddressOf.is (c.run_address.ensures _)

pub run_expr-returns-in-Decay : goal.run_expr-returns-in-Decay
run_expr-returns-in-Decay t c =
    decay_is c.in-Decay.is (c.run_address-in-Decay.ensures _)

pub run_expr-returns-in-Unary : goal.run_expr-returns-in-Unary
run_expr-returns-in-Unary t c =
    node_is (c.in-Unary.is ∙ ap (λ a. Unary c.in-Unary.op a) (sym c.get.ensures)) c.run_unary.ensures

pub run_expr-returns-in-Binary : goal.run_expr-returns-in-Binary
run_expr-returns-in-Binary t c =
    node_is (c.in-Binary.is ∙ both_are (λ a b. Binary c.in-Binary.op a b) c.get-in-Binary.ensures c.get-in-Binary-2.ensures) c.run_binary.ensures

pub run_expr-returns-in-PointerStep : goal.run_expr-returns-in-PointerStep
run_expr-returns-in-PointerStep t c =
    node_is (c.in-PointerStep.is ∙ both_are (λ a b. PointerStep a b c.in-PointerStep.back c.in-PointerStep.amount_first) c.get-in-PointerStep.ensures c.get-in-PointerStep-2.ensures) c.run_step.ensures

pub run_expr-returns-in-PointerSame : goal.run_expr-returns-in-PointerSame
run_expr-returns-in-PointerSame t c =
    node_is (c.in-PointerSame.is ∙ both_are (λ a b. PointerSame a b c.in-PointerSame.negated) c.get-in-PointerSame.ensures c.get-in-PointerSame-2.ensures) c.run_same.ensures

pub run_expr-returns-in-Logic : goal.run_expr-returns-in-Logic
run_expr-returns-in-Logic t c =
    node_is (c.in-Logic.is ∙ both_are (λ a b. Logic c.in-Logic.all a b) c.get-in-Logic.ensures c.get-in-Logic-2.ensures) c.run_logic.ensures

pub run_expr-returns-in-Choose : goal.run_expr-returns-in-Choose
run_expr-returns-in-Choose t c =
    node_is (c.in-Choose.is ∙ three_are (λ a b d. Choose a b d) c.get-in-Choose.ensures c.get-in-Choose-2.ensures c.get-in-Choose-3.ensures) c.run_choice.ensures

pub run_expr-returns-in-Assign : goal.run_expr-returns-in-Assign
run_expr-returns-in-Assign t c =
    node_is (c.in-Assign.is ∙ ap (λ a. Assign c.in-Assign.place a) (sym c.get-in-Assign.ensures)) (c.run_assign.ensures _)

pub run_expr-returns-in-Update : goal.run_expr-returns-in-Update
run_expr-returns-in-Update t c =
    node_is (c.in-Update.is ∙ ap (λ a. Update c.in-Update.op c.in-Update.place a c.in-Update.old) (sym c.get-in-Update.ensures)) c.run_update.ensures

pub run_expr-returns-in-Convert : goal.run_expr-returns-in-Convert
run_expr-returns-in-Convert t c =
    node_is (c.in-Convert.is ∙ ap (λ a. Convert a) (sym c.get-in-Convert.ensures)) c.run_convert.ensures

pub run_expr-returns-in-Call : goal.run_expr-returns-in-Call
run_expr-returns-in-Call t c =
    node_is (c.in-Call.is ∙ ap (λ a. Call c.in-Call.function a) (sym c.as_slice.ensures)) c.run_called.ensures

pub run_expr-returns-in-Builtin : goal.run_expr-returns-in-Builtin
run_expr-returns-in-Builtin t c =
    node_is (c.in-Builtin.is ∙ ap (λ a. Own c.in-Builtin.which a) (sym c.as_slice-in-Builtin.ensures)) c.run_own.ensures

pub run_place-returns-in-Deref : goal.run_place-returns-in-Deref
run_place-returns-in-Deref t c =
    place_is (c.in-Deref.is ∙ ap (λ a. Deref a) (sym c.get.ensures)) c.run_deref.ensures

pub run_place-returns-in-Index : goal.run_place-returns-in-Index
run_place-returns-in-Index t c =
    place_is (c.in-Index.is ∙ both_are (λ a b. Index a b) c.get-in-Index.ensures c.get-in-Index-2.ensures) c.run_index.ensures

pub run_place-returns-in-Field : goal.run_place-returns-in-Field
run_place-returns-in-Field t c =
    place_is (c.in-Field.is ∙ ap (λ a. Field a c.in-Field.offset) (sym c.get-in-Field.ensures)) (c.run_field.ensures _)

pub run_read-returns-in_err-from : goal.run_read-returns-in_err-from
run_read-returns-in_err-from t c =
    let q = err_from_is_err_and c.from_residual.result c.from_residual.ensures.1 in
    λ e. read_so (around c.args.frame.now c.args.at) e c.args.place.now (Err _) (deep_place c.args.frame.now c.args.at _ c.deeper.ensures c.in_err-from.ensures) (q.1 ∙ ap Err q.2, refl)

pub run_read-returns : goal.run_read-returns
run_read-returns t c =
    λ e. read_so (around c.args.frame.now c.args.at) e c.args.place.now (Ok _) (deep_place c.args.frame.now c.args.at _ c.deeper.ensures c.in_ok-from.ensures) (by_acts c.fetch.ensures)

pub run_address-returns-in_err-to : goal.run_address-returns-in_err-to
run_address-returns-in_err-to t c =
    let q = err_from_is_err_and c.from_residual.result c.from_residual.ensures.1 in
    λ e. address_so (around c.args.frame.now c.args.at) e c.args.place.now (Err _) (deep_place c.args.frame.now c.args.at _ c.deeper.ensures c.in_err-to.ensures) (q.1 ∙ ap Err q.2, refl)

pub run_address-returns : goal.run_address-returns
run_address-returns t c =
    λ e. address_so (around c.args.frame.now c.args.at) e c.args.place.now (Ok _) (deep_place c.args.frame.now c.args.at _ c.deeper.ensures c.in_ok-to.ensures) (address_goes (around c.args.frame.now c.args.at) c.args.place.now.spot c.in_ok-to.to refl)

pub run_unary-returns-in_err-value : goal.run_unary-returns-in_err-value
run_unary-returns-in_err-value t c =
    let q = err_from_is_err_and c.from_residual.result c.from_residual.ensures.1 in
    unary_so (around c.args.frame.now c.args.at) c.args.e.now c.args.op c.args.part.now (Err _) (deep_expr c.args.frame.now c.args.at _ c.deeper.ensures c.in_err-value.ensures) (q.1 ∙ ap Err q.2, refl)

pub run_unary-returns : goal.run_unary-returns
run_unary-returns t c =
    unary_so (around c.args.frame.now c.args.at) c.args.e.now c.args.op c.args.part.now (Ok _) (deep_expr c.args.frame.now c.args.at _ c.deeper.ensures c.in_ok-value.ensures) (by_look _ (rw (c.kind_of.ensures, c.is_hidden.ensures) at c.operate_unary.ensures))

pub run_two-returns-in_err-first : goal.run_two-returns-in_err-first
run_two-returns-in_err-first t c =
    let q = err_from_is_err_and c.from_residual.result c.from_residual.ensures.1 in
    two_so (around c.args.frame.now c.args.at) c.args.left.now c.args.right.now (Err _) c.in_err-first.ensures (q.1 ∙ ap Err q.2, refl)

pub run_two-returns-in_err-second : goal.run_two-returns-in_err-second
run_two-returns-in_err-second t c =
    let q = err_from_is_err_and c.from_residual-in_err-second.result c.from_residual-in_err-second.ensures.1 in
    two_so (around c.args.frame.now c.args.at) c.args.left.now c.args.right.now (Ok _) c.in_ok-first.ensures (second_goes (around c.args.frame.now c.args.at) c.args.right.now _ (Err _) c.in_err-second.ensures (q.1 ∙ ap Err q.2, refl))

pub run_two-returns : goal.run_two-returns
run_two-returns t c =
    two_so (around c.args.frame.now c.args.at) c.args.left.now c.args.right.now (Ok _) c.in_ok-first.ensures (second_goes (around c.args.frame.now c.args.at) c.args.right.now _ (Ok _) c.in_ok-second.ensures (at_once _ refl))

pub run_binary-returns-in_err-x : goal.run_binary-returns-in_err-x
run_binary-returns-in_err-x t c =
    let q = err_from_is_err_and c.from_residual.result c.from_residual.ensures.1 in
    binary_so (around c.args.frame.now c.args.at) c.args.e.now c.args.op c.args.left.now c.args.right.now (Err _) (deep_two c.args.frame.now c.args.at _ c.deeper.ensures c.in_err-x.ensures) (q.1 ∙ ap Err q.2, refl)

pub run_binary-returns : goal.run_binary-returns
run_binary-returns t c =
    binary_so (around c.args.frame.now c.args.at) c.args.e.now c.args.op c.args.left.now c.args.right.now (Ok _) (deep_two c.args.frame.now c.args.at _ c.deeper.ensures c.in_ok-x.ensures) (by_look _ (rw (c.kind_of.ensures, c.is_hidden.ensures) at c.operate_binary.ensures))

pub run_step-returns-in_err-n : goal.run_step-returns-in_err-n
run_step-returns-in_err-n t c =
    let q = err_from_is_err_and c.from_residual.result c.from_residual.ensures.1 in
    step_marked (around c.args.frame.now c.args.at) c.args.e.now c.args.pointer.now c.args.amount.now c.args.back _ c.if-amount_first.true (step_first_so (around c.args.frame.now c.args.at) c.args.e.now c.args.pointer.now c.args.amount.now c.args.back (Err _) (deep_two c.args.frame.now c.args.at _ c.deeper.ensures c.in_err-n.ensures) (q.1 ∙ ap Err q.2, refl))

pub run_step-returns-then-amount_first : goal.run_step-returns-then-amount_first
run_step-returns-then-amount_first t c =
    step_marked (around c.args.frame.now c.args.at) c.args.e.now c.args.pointer.now c.args.amount.now c.args.back _ c.if-amount_first.true (step_first_so (around c.args.frame.now c.args.at) c.args.e.now c.args.pointer.now c.args.amount.now c.args.back (Ok _) (deep_two c.args.frame.now c.args.at _ c.deeper.ensures c.in_ok-n.ensures) (by_acts c.step_pointer.ensures))

pub run_step-returns-in_err-from : goal.run_step-returns-in_err-from
run_step-returns-in_err-from t c =
    let q = err_from_is_err_and c.from_residual-in_err-from.result c.from_residual-in_err-from.ensures.1 in
    step_marked (around c.args.frame.now c.args.at) c.args.e.now c.args.pointer.now c.args.amount.now c.args.back _ c.if-amount_first.false (step_so (around c.args.frame.now c.args.at) c.args.e.now c.args.pointer.now c.args.amount.now c.args.back (Err _) (deep_two c.args.frame.now c.args.at _ c.deeper-2.ensures c.in_err-from.ensures) (q.1 ∙ ap Err q.2, refl))

pub run_step-returns : goal.run_step-returns
run_step-returns t c =
    step_marked (around c.args.frame.now c.args.at) c.args.e.now c.args.pointer.now c.args.amount.now c.args.back _ c.if-amount_first.false (step_so (around c.args.frame.now c.args.at) c.args.e.now c.args.pointer.now c.args.amount.now c.args.back (Ok _) (deep_two c.args.frame.now c.args.at _ c.deeper-2.ensures c.in_ok-from.ensures) (by_acts c.step_pointer-2.ensures))

pub run_same-returns-in_err-x : goal.run_same-returns-in_err-x
run_same-returns-in_err-x t c =
    let q = err_from_is_err_and c.from_residual.result c.from_residual.ensures.1 in
    same_so (around c.args.frame.now c.args.at) c.args.e.now c.args.left.now c.args.right.now c.args.negated (Err _) (deep_two c.args.frame.now c.args.at _ c.deeper.ensures c.in_err-x.ensures) (q.1 ∙ ap Err q.2, refl)

pub run_same-returns : goal.run_same-returns
run_same-returns t c =
    same_so (around c.args.frame.now c.args.at) c.args.e.now c.args.left.now c.args.right.now c.args.negated (Ok _) (deep_two c.args.frame.now c.args.at _ c.deeper.ensures c.in_ok-x.ensures) (by_look _ c.compare_places.ensures)

pub run_logic-returns-in_err-x : goal.run_logic-returns-in_err-x
run_logic-returns-in_err-x t c =
    let q = err_from_is_err_and c.from_residual.result c.from_residual.ensures.1 in
    hidden_logic_so (around c.args.frame.now c.args.at) c.args.e.now c.args.all c.args.left.now c.args.right.now (Err _) (sym c.is_hidden.ensures ∙ c.if-is_hidden.true) (deep_two c.args.frame.now c.args.at _ c.deeper.ensures c.in_err-x.ensures) (q.1 ∙ ap Err q.2, refl)

pub run_logic-returns-then-is_hidden : goal.run_logic-returns-then-is_hidden
run_logic-returns-then-is_hidden t c =
    hidden_logic_so (around c.args.frame.now c.args.at) c.args.e.now c.args.all c.args.left.now c.args.right.now (Ok _) (sym c.is_hidden.ensures ∙ c.if-is_hidden.true) (deep_two c.args.frame.now c.args.at _ c.deeper.ensures c.in_ok-x.ensures) (by_look _ (rw c.both_or_one.ensures at c.operate_binary.ensures))

pub run_logic-returns-in_err-value : goal.run_logic-returns-in_err-value
run_logic-returns-in_err-value t c =
    let q = err_from_is_err_and c.from_residual-in_err-value.result c.from_residual-in_err-value.ensures.1 in
    logic_so (around c.args.frame.now c.args.at) c.args.e.now c.args.all c.args.left.now c.args.right.now (Err _) (sym c.is_hidden.ensures ∙ c.if-is_hidden.false) (deep_expr c.args.frame.now c.args.at _ c.deeper-2.ensures c.in_err-value.ensures) (q.1 ∙ ap Err q.2, refl)

pub run_logic-returns-in_err-holds : goal.run_logic-returns-in_err-holds
run_logic-returns-in_err-holds t c =
    let q = err_from_is_err_and c.from_residual-in_err-holds.result c.from_residual-in_err-holds.ensures.1 in
    logic_so (around c.args.frame.now c.args.at) c.args.e.now c.args.all c.args.left.now c.args.right.now (Ok _) (sym c.is_hidden.ensures ∙ c.if-is_hidden.false) (deep_expr c.args.frame.now c.args.at _ c.deeper-2.ensures c.in_ok-value.ensures) (test_then (around c.args.frame.now c.args.at) _ _ _ (Err _) c.in_err-holds.ensures (q.1 ∙ ap Err q.2, refl))

pub run_logic-returns-then-not-alike : goal.run_logic-returns-then-not-alike
run_logic-returns-then-not-alike t c =
    logic_so (around c.args.frame.now c.args.at) c.args.e.now c.args.all c.args.left.now c.args.right.now (Ok _) (sym c.is_hidden.ensures ∙ c.if-is_hidden.false) (deep_expr c.args.frame.now c.args.at _ c.deeper-2.ensures c.in_ok-value.ensures) (test_then (around c.args.frame.now c.args.at) _ _ _ (Ok _) c.in_ok-holds.ensures (decided_goes (around c.args.frame.now c.args.at) c.args.e.now c.args.all c.args.right.now _ (sym c.alike.ensures ∙ c.if-not-alike.true) (ap Ok c.decided.ensures)))

pub run_logic-returns-in_err-other : goal.run_logic-returns-in_err-other
run_logic-returns-in_err-other t c =
    let q = err_from_is_err_and c.from_residual-in_err-other.result c.from_residual-in_err-other.ensures.1 in
    logic_so (around c.args.frame.now c.args.at) c.args.e.now c.args.all c.args.left.now c.args.right.now (Ok _) (sym c.is_hidden.ensures ∙ c.if-is_hidden.false) (deep_expr c.args.frame.now c.args.at _ c.deeper-2.ensures c.in_ok-value.ensures) (test_then (around c.args.frame.now c.args.at) _ _ _ (Ok _) c.in_ok-holds.ensures (other_goes (around c.args.frame.now c.args.at) c.args.e.now c.args.all c.args.right.now _ (Err _) (sym c.alike.ensures ∙ c.if-not-alike.false) (deep_expr c.args.frame.now c.args.at _ c.deeper-3.ensures c.in_err-other.ensures) (q.1 ∙ ap Err q.2, refl)))

pub run_logic-returns : goal.run_logic-returns
run_logic-returns t c =
    logic_so (around c.args.frame.now c.args.at) c.args.e.now c.args.all c.args.left.now c.args.right.now (Ok _) (sym c.is_hidden.ensures ∙ c.if-is_hidden.false) (deep_expr c.args.frame.now c.args.at _ c.deeper-2.ensures c.in_ok-value.ensures) (test_then (around c.args.frame.now c.args.at) _ _ _ (Ok _) c.in_ok-holds.ensures (other_goes (around c.args.frame.now c.args.at) c.args.e.now c.args.all c.args.right.now _ (Ok _) (sym c.alike.ensures ∙ c.if-not-alike.false) (deep_expr c.args.frame.now c.args.at _ c.deeper-3.ensures c.in_ok-other.ensures) (by_look _ c.turn.ensures)))

pub run_choice-returns-in_err-value : goal.run_choice-returns-in_err-value
run_choice-returns-in_err-value t c =
    let q = err_from_is_err_and c.from_residual.result c.from_residual.ensures.1 in
    choose_so (around c.args.frame.now c.args.at) c.args.e.now c.args.cond.now c.args.yes.now c.args.no.now (Err _) (deep_expr c.args.frame.now c.args.at _ c.deeper.ensures c.in_err-value.ensures) (q.1 ∙ ap Err q.2, refl)

pub run_choice-returns-in_err-test : goal.run_choice-returns-in_err-test
run_choice-returns-in_err-test t c =
    let q = err_from_is_err_and c.from_residual-in_err-test.result c.from_residual-in_err-test.ensures.1 in
    choose_so (around c.args.frame.now c.args.at) c.args.e.now c.args.cond.now c.args.yes.now c.args.no.now (Ok _) (deep_expr c.args.frame.now c.args.at _ c.deeper.ensures c.in_ok-value.ensures) (test_then (around c.args.frame.now c.args.at) _ _ _ (Err _) c.in_err-test.ensures (q.1 ∙ ap Err q.2, refl))

pub run_choice-returns-then-branch : goal.run_choice-returns-then-branch
run_choice-returns-then-branch t c =
    choose_so (around c.args.frame.now c.args.at) c.args.e.now c.args.cond.now c.args.yes.now c.args.no.now (Ok _) (deep_expr c.args.frame.now c.args.at _ c.deeper.ensures c.in_ok-value.ensures) (test_then (around c.args.frame.now c.args.at) _ _ _ (Ok _) c.in_ok-test.ensures (yes_goes (around c.args.frame.now c.args.at) c.args.yes.now c.args.no.now _ c.if-branch.true (deep_expr c.args.frame.now c.args.at _ c.deeper-then-branch.ensures c.run_expr-then-branch.ensures)))

pub run_choice-returns : goal.run_choice-returns
run_choice-returns t c =
    choose_so (around c.args.frame.now c.args.at) c.args.e.now c.args.cond.now c.args.yes.now c.args.no.now (Ok _) (deep_expr c.args.frame.now c.args.at _ c.deeper.ensures c.in_ok-value.ensures) (test_then (around c.args.frame.now c.args.at) _ _ _ (Ok _) c.in_ok-test.ensures (no_goes (around c.args.frame.now c.args.at) c.args.yes.now c.args.no.now _ c.if-branch.false (deep_expr c.args.frame.now c.args.at _ c.deeper-2.ensures c.run_expr-2.ensures)))

pub run_assigned-returns-in_err-to : goal.run_assigned-returns-in_err-to
run_assigned-returns-in_err-to t c =
    let q = err_from_is_err_and c.from_residual.result c.from_residual.ensures.1 in
    λ e. assign_so (around c.args.frame.now c.args.at) e c.args.place.now c.args.value.now (Err _) (deep_place c.args.frame.now c.args.at _ c.deeper.ensures c.in_err-to.ensures) (q.1 ∙ ap Err q.2, refl)

pub run_assigned-returns-in_err-new : goal.run_assigned-returns-in_err-new
run_assigned-returns-in_err-new t c =
    let q = err_from_is_err_and c.from_residual-in_err-new.result c.from_residual-in_err-new.ensures.1 in
    λ e. assign_so (around c.args.frame.now c.args.at) e c.args.place.now c.args.value.now (Ok _) (deep_place c.args.frame.now c.args.at _ c.deeper.ensures c.in_ok-to.ensures) (value_goes (around c.args.frame.now c.args.at) c.args.place.now c.args.value.now _ (Err _) (deep_expr c.args.frame.now c.args.at _ c.deeper-2.ensures c.in_err-new.ensures) (q.1 ∙ ap Err q.2, refl))

pub run_assigned-returns : goal.run_assigned-returns
run_assigned-returns t c =
    λ e. assign_so (around c.args.frame.now c.args.at) e c.args.place.now c.args.value.now (Ok _) (deep_place c.args.frame.now c.args.at _ c.deeper.ensures c.in_ok-to.ensures) (value_goes (around c.args.frame.now c.args.at) c.args.place.now c.args.value.now _ (Ok _) (deep_expr c.args.frame.now c.args.at _ c.deeper-2.ensures c.in_ok-new.ensures) (assign_goes (around c.args.frame.now c.args.at) c.args.place.now.spot c.args.value.now.spot c.args.place.now.ty c.in_ok-to.to c.in_ok-new.new c.assign.ensures))

pub run_updated-returns-then-old : goal.run_updated-returns-then-old
run_updated-returns-then-old t c =
    update_marked (around c.args.frame.now c.args.at) c.args.e.now c.args.op c.args.place.now c.args.value.now _ c.if-old.true c.run_postfix.ensures

pub run_updated-returns-in_err-to : goal.run_updated-returns-in_err-to
run_updated-returns-in_err-to t c =
    let q = err_from_is_err_and c.from_residual.result c.from_residual.ensures.1 in
    update_marked (around c.args.frame.now c.args.at) c.args.e.now c.args.op c.args.place.now c.args.value.now _ c.if-old.false (update_so (around c.args.frame.now c.args.at) c.args.e.now c.args.op c.args.place.now c.args.value.now (Err _) (deep_place c.args.frame.now c.args.at _ c.deeper.ensures c.in_err-to.ensures) (q.1 ∙ ap Err q.2, refl))

pub run_updated-returns-in_err-operand : goal.run_updated-returns-in_err-operand
run_updated-returns-in_err-operand t c =
    let q = err_from_is_err_and c.from_residual-in_err-operand.result c.from_residual-in_err-operand.ensures.1 in
    update_marked (around c.args.frame.now c.args.at) c.args.e.now c.args.op c.args.place.now c.args.value.now _ c.if-old.false (update_so (around c.args.frame.now c.args.at) c.args.e.now c.args.op c.args.place.now c.args.value.now (Ok _) (deep_place c.args.frame.now c.args.at _ c.deeper.ensures c.in_ok-to.ensures) (operand_goes (around c.args.frame.now c.args.at) c.args.e.now c.args.op c.args.place.now c.args.value.now _ (Err _) (deep_expr c.args.frame.now c.args.at _ c.deeper-2.ensures c.in_err-operand.ensures) (q.1 ∙ ap Err q.2, refl)))

pub run_updated-returns : goal.run_updated-returns
run_updated-returns t c =
    update_marked (around c.args.frame.now c.args.at) c.args.e.now c.args.op c.args.place.now c.args.value.now _ c.if-old.false (update_so (around c.args.frame.now c.args.at) c.args.e.now c.args.op c.args.place.now c.args.value.now (Ok _) (deep_place c.args.frame.now c.args.at _ c.deeper.ensures c.in_ok-to.ensures) (operand_goes (around c.args.frame.now c.args.at) c.args.e.now c.args.op c.args.place.now c.args.value.now _ (Ok _) (deep_expr c.args.frame.now c.args.at _ c.deeper-2.ensures c.in_ok-operand.ensures) (update_goes (around c.args.frame.now c.args.at) c.args.e.now.spot c.args.op c.args.place.now.spot c.args.place.now.ty c.args.value.now.ty c.in_ok-to.to c.in_ok-operand.operand c.update.ensures)))

pub run_postfix-returns-in_err-to : goal.run_postfix-returns-in_err-to
run_postfix-returns-in_err-to t c =
    let q = err_from_is_err_and c.from_residual.result c.from_residual.ensures.1 in
    old_so (around c.args.frame.now c.args.at) c.args.e.now c.args.op c.args.place.now c.args.value.now (Err _) (deep_place c.args.frame.now c.args.at _ c.deeper.ensures c.in_err-to.ensures) (q.1 ∙ ap Err q.2, refl)

pub run_postfix-returns-in_err-old : goal.run_postfix-returns-in_err-old
run_postfix-returns-in_err-old t c =
    let q = err_from_is_err_and c.from_residual-in_err-old.result c.from_residual-in_err-old.ensures.1 in
    old_so (around c.args.frame.now c.args.at) c.args.e.now c.args.op c.args.place.now c.args.value.now (Ok _) (deep_place c.args.frame.now c.args.at _ c.deeper.ensures c.in_ok-to.ensures) (old_goes (around c.args.frame.now c.args.at) c.args.e.now c.args.op c.args.place.now c.args.value.now _ (Err _) c.in_err-old.ensures (q.1 ∙ ap Err q.2, refl))

pub run_postfix-returns-in_err-operand : goal.run_postfix-returns-in_err-operand
run_postfix-returns-in_err-operand t c =
    let q = err_from_is_err_and c.from_residual-in_err-operand.result c.from_residual-in_err-operand.ensures.1 in
    old_so (around c.args.frame.now c.args.at) c.args.e.now c.args.op c.args.place.now c.args.value.now (Ok _) (deep_place c.args.frame.now c.args.at _ c.deeper.ensures c.in_ok-to.ensures) (old_goes (around c.args.frame.now c.args.at) c.args.e.now c.args.op c.args.place.now c.args.value.now _ (Ok _) c.in_ok-old.ensures (end_goes (around c.args.frame.now c.args.at) c.args.e.now c.args.op c.args.place.now c.args.value.now _ _ _ (Err _) (deep_expr c.args.frame.now c.args.at _ c.deeper-2.ensures c.in_err-operand.ensures) (q.1 ∙ ap Err q.2, refl)))

pub run_postfix-returns : goal.run_postfix-returns
run_postfix-returns t c =
    old_so (around c.args.frame.now c.args.at) c.args.e.now c.args.op c.args.place.now c.args.value.now (Ok _) (deep_place c.args.frame.now c.args.at _ c.deeper.ensures c.in_ok-to.ensures) (old_goes (around c.args.frame.now c.args.at) c.args.e.now c.args.op c.args.place.now c.args.value.now _ (Ok _) c.in_ok-old.ensures (end_goes (around c.args.frame.now c.args.at) c.args.e.now c.args.op c.args.place.now c.args.value.now _ _ _ (Ok _) (deep_expr c.args.frame.now c.args.at _ c.deeper-2.ensures c.in_ok-operand.ensures) (ended_goes (around c.args.frame.now c.args.at) c.args.e.now.spot c.args.op c.args.place.now.spot c.args.place.now.ty c.args.value.now.ty c.in_ok-to.to c.in_ok-old.old c.in_ok-old.from c.in_ok-operand.operand c.end_update.ensures)))

pub run_convert-returns-in_err-value : goal.run_convert-returns-in_err-value
run_convert-returns-in_err-value t c =
    let q = err_from_is_err_and c.from_residual.result c.from_residual.ensures.1 in
    convert_so (around c.args.frame.now c.args.at) c.args.e.now c.args.part.now (Err _) (beside_expr c.args.frame.now c.args.at _ c.args.e.now.spot c.lighter.ensures c.in_err-value.ensures) (q.1 ∙ ap Err q.2, refl)

pub run_convert-returns : goal.run_convert-returns
run_convert-returns t c =
    convert_so (around c.args.frame.now c.args.at) c.args.e.now c.args.part.now (Ok _) (beside_expr c.args.frame.now c.args.at _ c.args.e.now.spot c.lighter.ensures c.in_ok-value.ensures) (by_acts c.convert_value.ensures)

pub run_called-returns-in_err-values : goal.run_called-returns-in_err-values
run_called-returns-in_err-values t c =
    let q = err_from_is_err_and c.from_residual.result c.from_residual.ensures.1 in
    call_so (around c.args.frame.now c.args.at) c.args.e.now c.args.function c.args.args.now (Err _) (deep_exprs c.args.frame.now c.args.at _ c.deeper.ensures c.in_err-values.ensures) (q.1 ∙ ap Err q.2, refl)

pub run_called-returns : goal.run_called-returns
run_called-returns t c =
    call_so (around c.args.frame.now c.args.at) c.args.e.now c.args.function c.args.args.now (Ok _) (deep_exprs c.args.frame.now c.args.at _ c.deeper.ensures c.in_ok-values.ensures) (called_here (around c.args.frame.now c.args.at) (rw c.as_slice.ensures at c.run_call.ensures))

pub run_own-returns-in_err-values : goal.run_own-returns-in_err-values
run_own-returns-in_err-values t c =
    let q = err_from_is_err_and c.from_residual.result c.from_residual.ensures.1 in
    own_so (around c.args.frame.now c.args.at) c.args.e.now c.args.which.now c.args.args.now (Err _) (deep_exprs c.args.frame.now c.args.at _ c.deeper.ensures c.in_err-values.ensures) (q.1 ∙ ap Err q.2, refl)

pub run_own-returns : goal.run_own-returns
run_own-returns t c =
    own_so (around c.args.frame.now c.args.at) c.args.e.now c.args.which.now c.args.args.now (Ok _) (deep_exprs c.args.frame.now c.args.at _ c.deeper.ensures c.in_ok-values.ensures) (performed (around c.args.frame.now c.args.at) c.args.e.now.spot c.args.e.now.ty (source_in c.args.args.now) c.args.which.now c.in_ok-values.values (rw (c.find_source.ensures, c.as_slice.ensures) at c.perform.ensures))

pub run_exprs-run_expr-requires : goal.run_exprs-run_expr-requires
run_exprs-run_expr-requires t c =
    let r = item_weight expr_weight c.args.es.now c.loop-e.e-index c.e-item.result c.loop-e-test.true c.e-item.is in search (rules, r)

pub run_exprs-loop-e-init : goal.run_exprs-loop-e-init
run_exprs-loop-e-init t c =
    rw c.new-values.ensures (exprs_start (around c.args.frame.now c.args.at) c.args.es.now c.args.m.now)

pub run_exprs-loop-e-preserved : goal.run_exprs-loop-e-preserved
run_exprs-loop-e-preserved t c =
    exprs_next (around c.args.frame.now c.args.at) c.loop-e.invariant c.loop-e-test.true c.e-item.is c.in_ok-value.ensures c.in_ok-push.ensures.ok

pub run_exprs-returns-in_err-value : goal.run_exprs-returns-in_err-value
run_exprs-returns-in_err-value t c =
    let q = err_from_is_err_and c.from_residual.result c.from_residual.ensures.1 in
    exprs_stop (around c.args.frame.now c.args.at) c.loop-e.invariant c.loop-e-test.true c.e-item.is c.in_err-value.ensures (q.1 ∙ ap Err q.2)

pub run_exprs-returns-in_err-push : goal.run_exprs-returns-in_err-push
run_exprs-returns-in_err-push t c =
    let q = err_from_is_err_and c.from_residual-in_err-push.result c.from_residual-in_err-push.ensures.1 in
    no_memory_exprs (around c.args.frame.now c.args.at) c.loop-e.invariant c.in_ok-value.ensures (q.1 ∙ ap Err q.2)

pub run_exprs-returns : goal.run_exprs-returns
run_exprs-returns t c =
    exprs_over (around c.args.frame.now c.args.at) c.loop-e.invariant c.loop-e-test.false

pub run_deref-returns-in_err-value : goal.run_deref-returns-in_err-value
run_deref-returns-in_err-value t c =
    let q = err_from_is_err_and c.from_residual.result c.from_residual.ensures.1 in
    deref_so (around c.args.frame.now c.args.at) c.args.place.now c.args.pointer.now (Err _) (deep_expr c.args.frame.now c.args.at _ c.deeper.ensures c.in_err-value.ensures) (ap goal_of (q.1 ∙ ap Err q.2), refl)

pub run_deref-returns : goal.run_deref-returns
run_deref-returns t c =
    deref_so (around c.args.frame.now c.args.at) c.args.place.now c.args.pointer.now (Ok _) (deep_expr c.args.frame.now c.args.at _ c.deeper.ensures c.in_ok-value.ensures) (only_look (around c.args.frame.now c.args.at) _ _ _ c.follow.ensures)

pub run_index-returns-in_err-from : goal.run_index-returns-in_err-from
run_index-returns-in_err-from t c =
    let q = err_from_is_err_and c.from_residual.result c.from_residual.ensures.1 in
    index_so (around c.args.frame.now c.args.at) c.args.place.now c.args.pointer.now c.args.amount.now (Err _) (deep_two c.args.frame.now c.args.at _ c.deeper.ensures c.in_err-from.ensures) (ap goal_of (q.1 ∙ ap Err q.2), refl)

pub run_index-returns : goal.run_index-returns
run_index-returns t c =
    index_so (around c.args.frame.now c.args.at) c.args.place.now c.args.pointer.now c.args.amount.now (Ok _) (deep_two c.args.frame.now c.args.at _ c.deeper.ensures c.in_ok-from.ensures) (only_acts (around c.args.frame.now c.args.at) _ _ c.find_element.ensures)

pub run_field-returns-in_err-from : goal.run_field-returns-in_err-from
run_field-returns-in_err-from t c =
    let q = err_from_is_err_and c.from_residual.result c.from_residual.ensures.1 in
    λ k. field_so (around c.args.frame.now c.args.at) k c.args.base.now c.args.offset (Err _) (deep_place c.args.frame.now c.args.at _ c.deeper.ensures c.in_err-from.ensures) (ap goal_of (q.1 ∙ ap Err q.2), refl)

pub run_field-returns : goal.run_field-returns
run_field-returns t c =
    λ k. field_so (around c.args.frame.now c.args.at) k c.args.base.now c.args.offset (Ok _) (deep_place c.args.frame.now c.args.at _ c.deeper.ensures c.in_ok-from.ensures) (field_goes (around c.args.frame.now c.args.at) k.spot c.args.offset c.in_ok-from.from (ap (λ a. Ok (Only a)) c.ahead.ensures))

pub run_test-returns-in_err-value : goal.run_test-returns-in_err-value
run_test-returns-in_err-value t c =
    let q = err_from_is_err_and c.from_residual.result c.from_residual.ensures.1 in
    tested_so (around c.args.frame.now c.args.at) c.args.cond.now (Err _) c.in_err-value.ensures (q.1 ∙ ap Err q.2, refl)

pub run_test-returns : goal.run_test-returns
run_test-returns t c =
    tested_so (around c.args.frame.now c.args.at) c.args.cond.now (Ok _) c.in_ok-value.ensures (by_look _ c.test.ensures)

pub run_hidden-returns-in_err-value : goal.run_hidden-returns-in_err-value
run_hidden-returns-in_err-value t c =
    let q = err_from_is_err_and c.from_residual.result c.from_residual.ensures.1 in
    hidden_so (around c.args.frame.now c.args.at) c.args.cond.now (Err _) c.in_err-value.ensures (ap integer_of (q.1 ∙ ap Err q.2), refl)

pub run_hidden-returns : goal.run_hidden-returns
run_hidden-returns t c =
    hidden_so (around c.args.frame.now c.args.at) c.args.cond.now (Ok _) c.in_ok-value.ensures (by_acts c.take_condition.ensures)

pub run_stmt-returns : goal.run_stmt-returns
run_stmt-returns t c =
    stepped_so (around c.args.frame.now c.args.at) c.args.s.now (Ok _) (by_move _ c.in_ok-spend.ensures.moves) (deep_after c.args.frame.now c.args.at _ c.deeper.ensures c.run_after.ensures)

pub run_after-returns-in-Declare : goal.run_after-returns-in-Declare
run_after-returns-in-Declare t c =
    after_is c.in-Declare.is (rw c.as_slice.ensures at (c.run_declaration.ensures c.args.s.now.spot))

pub run_after-returns-in-Express : goal.run_after-returns-in-Express
run_after-returns-in-Express t c =
    after_is c.in-Express.is (rw c.get.ensures at (c.run_express.ensures c.args.s.now.spot))

pub run_after-returns-in-Block : goal.run_after-returns-in-Block
run_after-returns-in-Block t c =
    after_is c.in-Block.is (rw c.as_slice-in-Block.ensures at (c.run_block.ensures c.args.s.now.spot))

pub run_after-returns-in-If : goal.run_after-returns-in-If
run_after-returns-in-If t c =
    after_is c.in-If.is (rw (c.get-in-If.ensures, c.get-in-If-2.ensures) at (c.run_if.ensures c.args.s.now.spot))

pub run_after-returns-in-OblivIf : goal.run_after-returns-in-OblivIf
run_after-returns-in-OblivIf t c =
    after_is c.in-OblivIf.is (rw (c.get-in-OblivIf.ensures, c.get-in-OblivIf-2.ensures) at (c.run_obliv_if.ensures c.args.s.now.spot))

pub run_after-returns-in-Always : goal.run_after-returns-in-Always
run_after-returns-in-Always t c =
    after_is c.in-Always.is (rw c.get-in-Always.ensures at c.run_always.ensures)

pub run_after-returns-in-While : goal.run_after-returns-in-While
run_after-returns-in-While t c =
    after_is c.in-While.is (while_so (around c.args.frame.now c.args.at) _ _ _ (rw (c.get-in-While.ensures, c.get-in-While-2.ensures) at c.run_loop.ensures))

pub run_after-returns-in-For : goal.run_after-returns-in-For
run_after-returns-in-For t c =
    after_is c.in-For.is (rw (c.lent.ensures, c.lent-in-For.ensures, c.get-in-For.ensures) at (c.run_for.ensures c.args.s.now.spot))

pub run_after-returns-in-Return : goal.run_after-returns-in-Return
run_after-returns-in-Return t c =
    after_is c.in-Return.is (return_so (around c.args.frame.now c.args.at) _ _ (rw c.lent-in-Return.ensures at c.run_return.ensures))

pub run_declaration-returns-in_err-run_declares : goal.run_declaration-returns-in_err-run_declares
run_declaration-returns-in_err-run_declares t c =
    let q = err_from_is_err_and c.from_residual.result c.from_residual.ensures.1 in
    λ p. declare_so (around c.args.frame.now c.args.at) p c.args.all.now (Err _) c.in_err-run_declares.ensures (q.1 ∙ ap Err q.2, refl)

pub run_declaration-returns : goal.run_declaration-returns
run_declaration-returns t c =
    λ p. declare_so (around c.args.frame.now c.args.at) p c.args.all.now (Ok _) c.in_ok-run_declares.ensures (at_once _ refl)

pub run_declares-run_declared-requires : goal.run_declares-run_declared-requires
run_declares-run_declared-requires t c =
    let r = item_weight declared_weight c.args.all.now c.loop-declared.declared-index c.declared-item.result c.loop-declared-test.true c.declared-item.is in search (rules, r)

pub run_declares-loop-declared-init : goal.run_declares-loop-declared-init
run_declares-loop-declared-init t c =
    declares_start (around c.args.frame.now c.args.at) c.args.all.now c.args.m.now

pub run_declares-loop-declared-preserved : goal.run_declares-loop-declared-preserved
run_declares-loop-declared-preserved t c =
    declares_next (around c.args.frame.now c.args.at) c.loop-declared.invariant c.loop-declared-test.true c.declared-item.is c.in_ok-run_declared.ensures

pub run_declares-returns-in_err-run_declared : goal.run_declares-returns-in_err-run_declared
run_declares-returns-in_err-run_declared t c =
    let q = err_from_is_err_and c.from_residual.result c.from_residual.ensures.1 in
    declares_stop (around c.args.frame.now c.args.at) c.loop-declared.invariant c.loop-declared-test.true c.declared-item.is c.in_err-run_declared.ensures (q.1 ∙ ap Err q.2)

pub run_declares-returns : goal.run_declares-returns
run_declares-returns t c =
    declares_over (around c.args.frame.now c.args.at) c.loop-declared.invariant c.loop-declared-test.false

pub run_declared-returns-in_err-variable : goal.run_declared-returns-in_err-variable
run_declared-returns-in_err-variable t c =
    let q = err_from_is_err_and c.from_residual.result c.from_residual.ensures.1 in
    declared_so (around c.args.frame.now c.args.at) c.args.declared.now (Err _) c.in_err-variable.ensures (q.1 ∙ ap Err q.2, refl)

pub run_declared-returns : goal.run_declared-returns
run_declared-returns t c =
    declared_so (around c.args.frame.now c.args.at) c.args.declared.now (Ok _) c.in_ok-variable.ensures (rw c.lent.ensures at c.run_start.ensures).runs

pub run_start-returns-in_err-value-in-Some : goal.run_start-returns-in_err-value-in-Some
run_start-returns-in_err-value-in-Some t c =
    let q = err_from_is_err_and c.from_residual.result c.from_residual.ensures.1 in
    start_so (around c.args.frame.now c.args.at) c.args.ty.now c.args.block (Err _) (ap option_copied c.in-Some.is) c.in_err-value-in-Some.ensures (q.1 ∙ ap Err q.2, refl)

pub run_start-returns-in_ok-value-in-Some : goal.run_start-returns-in_ok-value-in-Some
run_start-returns-in_ok-value-in-Some t c =
    start_so (around c.args.frame.now c.args.at) c.args.ty.now c.args.block (Ok _) (ap option_copied c.in-Some.is) c.in_ok-value-in-Some.ensures (by_acts c.initialize.ensures)

pub run_express-returns-in_err-run_expr : goal.run_express-returns-in_err-run_expr
run_express-returns-in_err-run_expr t c =
    let q = err_from_is_err_and c.from_residual.result c.from_residual.ensures.1 in
    λ p. express_so (around c.args.frame.now c.args.at) p c.args.e.now (Err _) c.in_err-run_expr.ensures (q.1 ∙ ap Err q.2, refl)

pub run_express-returns : goal.run_express-returns
run_express-returns t c =
    λ p. express_so (around c.args.frame.now c.args.at) p c.args.e.now (Ok _) c.in_ok-run_expr.ensures (at_once _ refl)

pub run_block-returns-in_err-flow : goal.run_block-returns-in_err-flow
run_block-returns-in_err-flow t c =
    let q = err_from_is_err_and c.from_residual.result c.from_residual.ensures.1 in
    λ p. block_so (around c.args.frame.now c.args.at) p c.args.ss.now (scoped_so (around c.args.frame.now c.args.at) _ (Err _) c.len-before.ensures c.in_err-flow.ensures.runs (q.1 ∙ ap Err q.2, refl))

pub run_block-returns : goal.run_block-returns
run_block-returns t c =
    λ p. block_so (around c.args.frame.now c.args.at) p c.args.ss.now (scoped_so (around c.args.frame.now c.args.at) _ (Ok _) c.len-before.ensures c.in_ok-flow.ensures.runs (refl, c.close_slots.ensures.closes, c.close_slots.ensures.same))

pub run_part-returns-in_err-flow : goal.run_part-returns-in_err-flow
run_part-returns-in_err-flow t c =
    let q = err_from_is_err_and c.from_residual.result c.from_residual.ensures.1 in
    part_so (around c.args.frame.now c.args.at) (scoped_so (around c.args.frame.now c.args.at) _ (Err _) c.len-before.ensures c.in_err-flow.ensures.runs (q.1 ∙ ap Err q.2, refl))

pub run_part-returns : goal.run_part-returns
run_part-returns t c =
    part_so (around c.args.frame.now c.args.at) (scoped_so (around c.args.frame.now c.args.at) _ (Ok _) c.len-before.ensures c.in_ok-flow.ensures.runs (refl, c.close_slots.ensures.closes, c.close_slots.ensures.same))

pub run_always-returns-in_err-flow : goal.run_always-returns-in_err-flow
run_always-returns-in_err-flow t c =
    let q = err_from_is_err_and c.from_residual.result c.from_residual.ensures.1 in
    always_so (around c.args.frame.now c.args.at) c.args.spot c.args.slot c.args.body.now (scoped_so (around c.args.frame.now c.args.at) _ (Err _) c.len-before.ensures c.in_err-flow.ensures.runs (q.1 ∙ ap Err q.2, refl))

pub run_always-returns : goal.run_always-returns
run_always-returns t c =
    always_so (around c.args.frame.now c.args.at) c.args.spot c.args.slot c.args.body.now (scoped_so (around c.args.frame.now c.args.at) _ (Ok _) c.len-before.ensures c.in_ok-flow.ensures.runs (refl, c.close_slots.ensures.closes, c.close_slots.ensures.same))

pub run_for-returns-in_err-flow : goal.run_for-returns-in_err-flow
run_for-returns-in_err-flow t c =
    let q = err_from_is_err_and c.from_residual.result c.from_residual.ensures.1 in
    λ p. for_so (around c.args.frame.now c.args.at) p _ _ _ _ (scoped_so (around c.args.frame.now c.args.at) _ (Err _) c.len-before.ensures c.in_err-flow.ensures.runs (q.1 ∙ ap Err q.2, refl))

pub run_for-returns : goal.run_for-returns
run_for-returns t c =
    λ p. for_so (around c.args.frame.now c.args.at) p _ _ _ _ (scoped_so (around c.args.frame.now c.args.at) _ (Ok _) c.len-before.ensures c.in_ok-flow.ensures.runs (refl, c.close_slots.ensures.closes, c.close_slots.ensures.same))

pub run_list-run_stmt-requires : goal.run_list-run_stmt-requires
run_list-run_stmt-requires t c =
    let r = item_weight stmt_weight c.args.ss.now c.loop-s.s-index c.s-item.result c.loop-s-test.true c.s-item.is in search (rules, r)

pub run_list-loop-s-init : goal.run_list-loop-s-init
run_list-loop-s-init t c =
    passed_start (around c.args.frame.now c.args.at) c.args.ss.now c.args.m.now

pub run_list-loop-s-preserved : goal.run_list-loop-s-preserved
run_list-loop-s-preserved t c =
    passed_next (around c.args.frame.now c.args.at) c.loop-s.invariant c.loop-s-test.true c.s-item.is (rw c.in-Next.is at c.in_ok-run_stmt.ensures)

pub run_list-returns-in_err-run_stmt : goal.run_list-returns-in_err-run_stmt
run_list-returns-in_err-run_stmt t c =
    let q = err_from_is_err_and c.from_residual.result c.from_residual.ensures.1 in
    list_ends (around c.args.frame.now c.args.at) (Err _) c.loop-s.invariant c.loop-s-test.true c.s-item.is c.in_err-run_stmt.ensures (q.1 ∙ ap Err q.2, refl)

pub run_list-returns-in-Break : goal.run_list-returns-in-Break
run_list-returns-in-Break t c =
    list_ends (around c.args.frame.now c.args.at) (Ok _) c.loop-s.invariant c.loop-s-test.true c.s-item.is (rw c.in-Break.is at c.in_ok-run_stmt.ensures) (at_once _ refl)

pub run_list-returns-in-Continue : goal.run_list-returns-in-Continue
run_list-returns-in-Continue t c =
    list_ends (around c.args.frame.now c.args.at) (Ok _) c.loop-s.invariant c.loop-s-test.true c.s-item.is (rw c.in-Continue.is at c.in_ok-run_stmt.ensures) (at_once _ refl)

pub run_list-returns-in-Back : goal.run_list-returns-in-Back
run_list-returns-in-Back t c =
    list_ends (around c.args.frame.now c.args.at) (Ok _) c.loop-s.invariant c.loop-s-test.true c.s-item.is (rw c.in-Back.is at c.in_ok-run_stmt.ensures) (at_once _ refl)

pub run_list-returns : goal.run_list-returns
run_list-returns t c =
    list_over (around c.args.frame.now c.args.at) c.loop-s.invariant c.loop-s-test.false

pub run_other-returns-in-Some : goal.run_other-returns-in-Some
run_other-returns-in-Some t c =
    other_part (around c.args.frame.now c.args.at) c.in-Some.is (rw c.get.ensures at c.run_part.ensures)

pub run_if-returns-in_err-run_test : goal.run_if-returns-in_err-run_test
run_if-returns-in_err-run_test t c =
    let q = err_from_is_err_and c.from_residual.result c.from_residual.ensures.1 in
    λ p. if_so (around c.args.frame.now c.args.at) p c.args.cond.now c.args.yes.now c.args.no.now (Err _) c.in_err-run_test.ensures (q.1 ∙ ap Err q.2, refl)

pub run_if-returns-then-branch : goal.run_if-returns-then-branch
run_if-returns-then-branch t c =
    λ p. if_so (around c.args.frame.now c.args.at) p c.args.cond.now c.args.yes.now c.args.no.now (Ok _) c.in_ok-run_test.ensures (chooses_first (around c.args.frame.now c.args.at) (λ x w. other_of (around c.args.frame.now c.args.at) c.args.no.now x w) c.if-branch.true c.run_part.ensures.runs)

pub run_if-returns : goal.run_if-returns
run_if-returns t c =
    λ p. if_so (around c.args.frame.now c.args.at) p c.args.cond.now c.args.yes.now c.args.no.now (Ok _) c.in_ok-run_test.ensures (chooses_second (around c.args.frame.now c.args.at) (λ x w. part_of (around c.args.frame.now c.args.at) c.args.yes.now x w) c.if-branch.false c.run_other.ensures.runs)

pub run_obliv_if-returns-in_err-condition : goal.run_obliv_if-returns-in_err-condition
run_obliv_if-returns-in_err-condition t c =
    let q = err_from_is_err_and c.from_residual.result c.from_residual.ensures.1 in
    λ p. obliv_so (around c.args.frame.now c.args.at) p c.args.cond.now c.args.yes.now c.args.no.now (Err _) c.in_err-condition.ensures (q.1 ∙ ap Err q.2, refl)

pub run_obliv_if-returns : goal.run_obliv_if-returns
run_obliv_if-returns t c =
    λ p. obliv_so (around c.args.frame.now c.args.at) p c.args.cond.now c.args.yes.now c.args.no.now (Ok _) c.in_ok-condition.ensures c.run_both.ensures.runs

pub run_both-returns-in_err-run_part : goal.run_both-returns-in_err-run_part
run_both-returns-in_err-run_part t c =
    let q = err_from_is_err_and c.from_residual.result c.from_residual.ensures.1 in
    both_so (around c.args.frame.now c.args.at) c.args.condition.value c.args.yes.now c.args.no.now (Err _) c.first_enable.ensures (enabling_part c.args.frame.now c.args.at _ _ c.under.ensures c.in_err-run_part.ensures) (q.1 ∙ ap Err q.2, refl)

pub run_both-returns-in-Next : goal.run_both-returns-in-Next
run_both-returns-in-Next t c =
    both_so (around c.args.frame.now c.args.at) c.args.condition.value c.args.yes.now c.args.no.now (Ok _) c.first_enable.ensures (enabling_part c.args.frame.now c.args.at _ _ c.under.ensures (rw c.in-Next.is at c.in_ok-run_part.ensures)) (second_part (around c.args.frame.now c.args.at) c.args.condition.value c.args.no.now c.second_enable.ensures (enabling_other c.args.frame.now c.args.at _ _ c.under-in-Next.ensures c.run_other.ensures))

pub run_both-returns-in-Break : goal.run_both-returns-in-Break
run_both-returns-in-Break t c =
    both_so (around c.args.frame.now c.args.at) c.args.condition.value c.args.yes.now c.args.no.now (Ok _) c.first_enable.ensures (enabling_part c.args.frame.now c.args.at _ _ c.under.ensures (rw c.in-Break.is at c.in_ok-run_part.ensures)) (at_once _ refl)

pub run_both-returns-in-Continue : goal.run_both-returns-in-Continue
run_both-returns-in-Continue t c =
    both_so (around c.args.frame.now c.args.at) c.args.condition.value c.args.yes.now c.args.no.now (Ok _) c.first_enable.ensures (enabling_part c.args.frame.now c.args.at _ _ c.under.ensures (rw c.in-Continue.is at c.in_ok-run_part.ensures)) (at_once _ refl)

pub run_both-returns-in-Back : goal.run_both-returns-in-Back
run_both-returns-in-Back t c =
    both_so (around c.args.frame.now c.args.at) c.args.condition.value c.args.yes.now c.args.no.now (Ok _) c.first_enable.ensures (enabling_part c.args.frame.now c.args.at _ _ c.under.ensures (rw c.in-Back.is at c.in_ok-run_part.ensures)) (at_once _ refl)

pub run_enabled-returns-in_err-variable : goal.run_enabled-returns-in_err-variable
run_enabled-returns-in_err-variable t c =
    let q = err_from_is_err_and c.from_residual.result c.from_residual.ensures.1 in
    always_is (around c.args.frame.now c.args.at) c.args.spot c.args.slot c.args.body.now (Err _) c.in_err-variable.ensures (q.1 ∙ ap Err q.2, refl)

pub run_enabled-returns-in_err-fill : goal.run_enabled-returns-in_err-fill
run_enabled-returns-in_err-fill t c =
    let q = err_from_is_err_and c.from_residual-in_err-fill.result c.from_residual-in_err-fill.ensures.1 in
    always_is (around c.args.frame.now c.args.at) c.args.spot c.args.slot c.args.body.now (Ok _) c.in_ok-variable.ensures (filled_then (around c.args.frame.now c.args.at) c.args.spot c.args.body.now c.in_ok-variable.variable.ty.now c.in_ok-variable.variable.block (Err _) c.held.ensures c.in_err-fill.ensures (q.1 ∙ ap Err q.2, refl))

pub run_enabled-returns : goal.run_enabled-returns
run_enabled-returns t c =
    always_is (around c.args.frame.now c.args.at) c.args.spot c.args.slot c.args.body.now (Ok _) c.in_ok-variable.ensures (filled_then (around c.args.frame.now c.args.at) c.args.spot c.args.body.now c.in_ok-variable.variable.ty.now c.in_ok-variable.variable.block (Ok _) c.held.ensures c.in_ok-fill.ensures (enabled_part (around c.args.frame.now c.args.at) (enabling_part c.args.frame.now c.args.at _ _ c.under.ensures c.run_part.ensures)))

pub run_headed-returns-in_err-run_header : goal.run_headed-returns-in_err-run_header
run_headed-returns-in_err-run_header t c =
    let q = err_from_is_err_and c.from_residual.result c.from_residual.ensures.1 in
    headed_so (around c.args.frame.now c.args.at) c.args.init.now _ _ c.args.body.now (Err _) c.in_err-run_header.ensures (q.1 ∙ ap Err q.2, refl)

pub run_headed-returns : goal.run_headed-returns
run_headed-returns t c =
    headed_so (around c.args.frame.now c.args.at) c.args.init.now _ _ c.args.body.now (Ok _) c.in_ok-run_header.ensures c.run_loop.ensures.runs

pub run_header-returns-in-Declare : goal.run_header-returns-in-Declare
run_header-returns-in-Declare t c =
    header_declares (around c.args.frame.now c.args.at) c.in-Declare.is (rw c.as_slice.ensures at c.run_declares.ensures)

pub run_header-returns-in-Express : goal.run_header-returns-in-Express
run_header-returns-in-Express t c =
    header_advance (around c.args.frame.now c.args.at) c.in-Express.is (rw c.get.ensures at c.run_advance.ensures)

pub run_loop-loop-flow-init : goal.run_loop-loop-flow-init
run_loop-loop-flow-init t c =
    turned_start (around c.args.frame.now c.args.at) _ _ c.args.body.now c.args.m.now

pub run_loop-loop-flow-preserved : goal.run_loop-loop-flow-preserved
run_loop-loop-flow-preserved t c =
    turned_next (around c.args.frame.now c.args.at) c.loop-flow.invariant (rw c.in_default.is at c.in_ok-flow.ensures.does) (c.in_ok-flow.ensures.spends (ap Ok c.in_default.is))

pub run_loop-returns-in-Some : goal.run_loop-returns-in-Some
run_loop-returns-in-Some t c =
    loop_ends (around c.args.frame.now c.args.at) c.loop-flow.invariant (rw c.in-Some.is at c.in_ok-flow.ensures.does)

pub run_loop-returns-in_err-flow : goal.run_loop-returns-in_err-flow
run_loop-returns-in_err-flow t c =
    let q = err_from_is_err_and c.from_residual.result c.from_residual.ensures.1 in
    loop_stopped (around c.args.frame.now c.args.at) c.loop-flow.invariant c.in_err-flow.ensures.does (q.1 ∙ ap Err q.2)

pub run_round-returns-in_err-run_condition-clause-does : goal.run_round-returns-in_err-run_condition-clause-does
run_round-returns-in_err-run_condition-clause-does t c =
    let q = err_from_is_err_and c.from_residual.result c.from_residual.ensures.1 in
    round_so (around c.args.frame.now c.args.at) (option_copied c.args.cond) (option_copied c.args.advance) c.args.body.now (Err _) c.in_err-run_condition.ensures (q.1 ∙ ap Err q.2, refl)

pub run_round-returns-then-not-branch-clause-does : goal.run_round-returns-then-not-branch-clause-does
run_round-returns-then-not-branch-clause-does t c =
    round_so (around c.args.frame.now c.args.at) (option_copied c.args.cond) (option_copied c.args.advance) c.args.body.now (Ok _) c.in_ok-run_condition.ensures (turn_ends (around c.args.frame.now c.args.at) (option_copied c.args.advance) c.args.body.now _ c.if-not-branch.true refl)

pub run_round-returns-in_err-spend-clause-does : goal.run_round-returns-in_err-spend-clause-does
run_round-returns-in_err-spend-clause-does t c =
    let q = err_from_is_err_and c.from_residual-in_err-spend.result c.from_residual-in_err-spend.ensures.1 in
    round_so (around c.args.frame.now c.args.at) (option_copied c.args.cond) (option_copied c.args.advance) c.args.body.now (Ok _) c.in_ok-run_condition.ensures (turn_goes (around c.args.frame.now c.args.at) (option_copied c.args.advance) c.args.body.now _ _ _ (Err _) c.if-not-branch.false c.in_err-spend.ensures.moves (q.1 ∙ ap Err q.2, refl))

pub run_round-returns-in_err-flow-clause-does : goal.run_round-returns-in_err-flow-clause-does
run_round-returns-in_err-flow-clause-does t c =
    let q = err_from_is_err_and c.from_residual-in_err-flow.result c.from_residual-in_err-flow.ensures.1 in
    round_so (around c.args.frame.now c.args.at) (option_copied c.args.cond) (option_copied c.args.advance) c.args.body.now (Ok _) c.in_ok-run_condition.ensures (turn_goes (around c.args.frame.now c.args.at) (option_copied c.args.advance) c.args.body.now _ _ _ (Ok _) c.if-not-branch.false c.in_ok-spend.ensures.moves (body_goes (around c.args.frame.now c.args.at) (option_copied c.args.advance) c.args.body.now (Err _) c.in_err-flow.ensures (q.1 ∙ ap Err q.2, refl)))

pub run_round-returns-clause-does : goal.run_round-returns-clause-does
run_round-returns-clause-does t c =
    round_so (around c.args.frame.now c.args.at) (option_copied c.args.cond) (option_copied c.args.advance) c.args.body.now (Ok _) c.in_ok-run_condition.ensures (turn_goes (around c.args.frame.now c.args.at) (option_copied c.args.advance) c.args.body.now _ _ _ (Ok _) c.if-not-branch.false c.in_ok-spend.ensures.moves (body_goes (around c.args.frame.now c.args.at) (option_copied c.args.advance) c.args.body.now (Ok _) c.in_ok-flow.ensures c.run_done.ensures.runs))

pub run_condition-returns-in-Some : goal.run_condition-returns-in-Some
run_condition-returns-in-Some t c =
    condition_so (around c.args.frame.now c.args.at) (ap option_copied c.in-Some.is) c.run_test.ensures

pub run_done-returns-in_err-run_advance-in-Next : goal.run_done-returns-in_err-run_advance-in-Next
run_done-returns-in_err-run_advance-in-Next t c =
    let q = err_from_is_err_and c.from_residual.result c.from_residual.ensures.1 in
    done_at (around c.args.frame.now c.args.at) c.args.flow c.in-Next.is (done_next (around c.args.frame.now c.args.at) (Err _) c.in_err-run_advance-in-Next.ensures (q.1 ∙ ap Err q.2, refl))

pub run_done-returns-in_ok-run_advance-in-Next : goal.run_done-returns-in_ok-run_advance-in-Next
run_done-returns-in_ok-run_advance-in-Next t c =
    done_at (around c.args.frame.now c.args.at) c.args.flow c.in-Next.is (done_next (around c.args.frame.now c.args.at) (Ok _) c.in_ok-run_advance-in-Next.ensures (at_once _ refl))

pub run_done-returns-in_err-run_advance-in-Continue : goal.run_done-returns-in_err-run_advance-in-Continue
run_done-returns-in_err-run_advance-in-Continue t c =
    let q = err_from_is_err_and c.from_residual-in_err-run_advance-in-Continue.result c.from_residual-in_err-run_advance-in-Continue.ensures.1 in
    done_at (around c.args.frame.now c.args.at) c.args.flow c.in-Continue.is (done_next (around c.args.frame.now c.args.at) (Err _) c.in_err-run_advance-in-Continue.ensures (q.1 ∙ ap Err q.2, refl))

pub run_done-returns-in_ok-run_advance-in-Continue : goal.run_done-returns-in_ok-run_advance-in-Continue
run_done-returns-in_ok-run_advance-in-Continue t c =
    done_at (around c.args.frame.now c.args.at) c.args.flow c.in-Continue.is (done_next (around c.args.frame.now c.args.at) (Ok _) c.in_ok-run_advance-in-Continue.ensures (at_once _ refl))

pub run_advance-returns-in_err-run_expr-in-Some : goal.run_advance-returns-in_err-run_expr-in-Some
run_advance-returns-in_err-run_expr-in-Some t c =
    let q = err_from_is_err_and c.from_residual.result c.from_residual.ensures.1 in
    advance_so (around c.args.frame.now c.args.at) (Err _) (ap option_copied c.in-Some.is) c.in_err-run_expr-in-Some.ensures (q.1 ∙ ap Err q.2, refl)

pub run_advance-returns-in_ok-run_expr-in-Some : goal.run_advance-returns-in_ok-run_expr-in-Some
run_advance-returns-in_ok-run_expr-in-Some t c =
    advance_so (around c.args.frame.now c.args.at) (Ok _) (ap option_copied c.in-Some.is) c.in_ok-run_expr-in-Some.ensures (at_once _ refl)

pub run_return-returns-in_err-value-in-Some : goal.run_return-returns-in_err-value-in-Some
run_return-returns-in_err-value-in-Some t c =
    let q = err_from_is_err_and c.from_residual.result c.from_residual.ensures.1 in
    return_expr (around c.args.frame.now c.args.at) (Err _) (ap option_copied c.in-Some.is) c.in_err-value-in-Some.ensures (q.1 ∙ ap Err q.2, refl)

pub run_return-returns-in_ok-value-in-Some : goal.run_return-returns-in_ok-value-in-Some
run_return-returns-in_ok-value-in-Some t c =
    return_expr (around c.args.frame.now c.args.at) (Ok _) (ap option_copied c.in-Some.is) c.in_ok-value-in-Some.ensures (at_once _ refl)

pub run_call-run_function-requires : goal.run_call-run_function-requires
run_call-run_function-requires t c =
    let r = found_weight body_weight c.args.frame.now.functions.now c.args.function c.in-Some.f.now c.in-Some.ensures.value in search (rules, call_falls c.args.at.room (heaviest c.args.frame.now.functions.now) _ c.if-at-eq0.false r)

pub run_call-returns-in-Some : goal.run_call-returns-in-Some
run_call-returns-in-Some t c =
    call_goes (around c.args.frame.now c.args.at) c.args.spot c.args.function c.args.values.now c.if-at-eq0.false c.in-Some.ensures.value (function_inside c.args.frame.now c.args.at c.args.spot c.in-Some.f.now c.args.values.now c.called_in.result c.deeper.result c.called_in.ensures.setup c.called_in.ensures.functions c.called_in.ensures.slots c.deeper.ensures c.run_function.ensures)

pub run_function-returns-in_err-make_parameters : goal.run_function-returns-in_err-make_parameters
run_function-returns-in_err-make_parameters t c =
    let q = err_from_is_err_and c.from_residual.result c.from_residual.ensures.1 in
    record { runs = λ h. function_so (around c.args.frame.now c.args.at) c.args.spot c.args.f.now c.args.values.now (Err _) (body_so (around c.args.frame.now c.args.at) c.args.spot c.args.f.now c.args.values.now (Err _) h (rw c.begin_call-outer.ensures.rest at c.in_err-make_parameters.ensures) (refl, refl)) (q.1 ∙ ap Err q.2, refl) }

pub run_function-returns-in_err-flow : goal.run_function-returns-in_err-flow
run_function-returns-in_err-flow t c =
    let q = err_from_is_err_and c.from_residual-in_err-flow.result c.from_residual-in_err-flow.ensures.1 in
    record { runs = λ h. function_so (around c.args.frame.now c.args.at) c.args.spot c.args.f.now c.args.values.now (Err _) (body_so (around c.args.frame.now c.args.at) c.args.spot c.args.f.now c.args.values.now (Ok _) h (rw c.begin_call-outer.ensures.rest at c.in_ok-make_parameters.ensures) (rw c.as_slice.ensures at c.in_err-flow.ensures).runs) (q.1 ∙ ap Err q.2, refl) }

pub run_function-returns : goal.run_function-returns
run_function-returns t c =
    record { runs = λ h. function_so (around c.args.frame.now c.args.at) c.args.spot c.args.f.now c.args.values.now (Ok _) (body_so (around c.args.frame.now c.args.at) c.args.spot c.args.f.now c.args.values.now (Ok _) h (rw c.begin_call-outer.ensures.rest at c.in_ok-make_parameters.ensures) (rw c.as_slice.ensures at c.in_ok-flow.ensures).runs) (ap Ok c.value_back.ensures, (rw c.begin_call-outer.ensures.slots at c.end_call.ensures.finishes), c.end_call.ensures.same) }
