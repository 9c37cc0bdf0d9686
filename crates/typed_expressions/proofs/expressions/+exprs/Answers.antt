use Rattle.std.proofs.Common.{rules, refl, ◌+◌, None, Ok, false, sym, ap, ◌∙◌, subst}
use Rattle.std.proofs.lemmas.Result.{err_from_is_err_and}
use Rattle.type_rules.specs.Calls.{types_of, wants}
use Rattle.type_rules.specs.Rules.{private, size, product, sizeof_type}
use Rattle.written_types.proofs.EachItem.{Left, begins, ends}
use Rattle.type_steps.proofs.Steps.{go, stop, fine, said_as}
use Rattle.call_steps.specs.Given.{given_of}
use Rattle.call_steps.specs.Printed.{printed_of}
use Rattle.typed_expressions.specs.Arguments.{passed_at, count_up, given_one, no_value}
use Rattle.typed_expressions.specs.Sites.{site_lookup, found}
use Rattle.typed_expressions.specs.Weight.{weight}
use Rattle.typed_expressions.proofs.Rows.{call_form, private_form, size_binary, first_form, second_form, slot_passed, kinds_printed, value_way, none_form, text_form, other_form}
use Rattle.typed_expressions.proofs.Loops.{mapped_stop, item_weight, on, off, given_begins, given_on, given_off, given_ends, printed_begins, printed_on, printed_off, printed_ends}
use Rattle.written_types.specs.Known.{lookup}
use Rattle.visible_variables.specs.Seen.{all_seen}
use Rattle.typed_expressions.proofs.Nodes.{by_form, refused, value_ok, value_err, unary_at, bump_at, binary_at, logic_at, choice_at, assign_at, index_at, field_form, arrow_form, cast_form, size_form}
use Rattle.typed_expressions.proofs.expressions.+exprs.Goals as goal

pub type_expr-returns-in-SizeOf : goal.type_expr-returns-in-SizeOf
type_expr-returns-in-SizeOf t c = by_form _ _ _ _ _ c.in-SizeOf.is (size_form (lookup c.args.site.now.known.now) (all_seen c.args.site.now.variables.now) c.args.alone c.args.e.now.spot c.in-SizeOf.written) c.misplaced_size.ensures

pub type_expr-returns-in-Unary : goal.type_expr-returns-in-Unary
type_expr-returns-in-Unary t c = by_form _ _ _ _ _ c.in-Unary.is (unary_at _ c.args.alone _ _ _) (rw (c.get.ensures) at c.type_unary.ensures)

pub type_expr-returns-in-Bump : goal.type_expr-returns-in-Bump
type_expr-returns-in-Bump t c = by_form _ _ _ _ _ c.in-Bump.is (bump_at _ c.args.alone _ _ _ _) (rw (c.get-in-Bump.ensures) at c.type_bump.ensures)

pub type_expr-returns-in-Binary : goal.type_expr-returns-in-Binary
type_expr-returns-in-Binary t c = by_form _ _ _ _ _ c.in-Binary.is (binary_at _ c.args.alone _ _ _ _) (rw (c.get-in-Binary.ensures, c.get-in-Binary-2.ensures) at c.type_binary.ensures)

pub type_expr-returns-in-Logic : goal.type_expr-returns-in-Logic
type_expr-returns-in-Logic t c = by_form _ _ _ _ _ c.in-Logic.is (logic_at _ c.args.alone _ _ _ _) (rw (c.get-in-Logic.ensures, c.get-in-Logic-2.ensures) at c.type_logic.ensures)

pub type_expr-returns-in-Choose : goal.type_expr-returns-in-Choose
type_expr-returns-in-Choose t c = by_form _ _ _ _ _ c.in-Choose.is (choice_at _ c.args.alone _ _ _ _) (rw (c.get-in-Choose.ensures, c.get-in-Choose-2.ensures, c.get-in-Choose-3.ensures) at c.type_choice.ensures)

pub type_expr-returns-in-Assign : goal.type_expr-returns-in-Assign
type_expr-returns-in-Assign t c = by_form _ _ _ _ _ c.in-Assign.is (assign_at _ c.args.alone _ _ _ _) (rw (c.get-in-Assign.ensures, c.get-in-Assign-2.ensures) at c.type_assign.ensures)

pub type_expr-returns-in-Index : goal.type_expr-returns-in-Index
type_expr-returns-in-Index t c = by_form _ _ _ _ _ c.in-Index.is (index_at _ c.args.alone _ _ _) (rw (c.get-in-Index.ensures, c.get-in-Index-2.ensures) at c.type_index.ensures)

pub type_expr-returns-in-Field : goal.type_expr-returns-in-Field
type_expr-returns-in-Field t c = by_form _ _ _ _ _ c.in-Field.is (field_form (lookup c.args.site.now.known.now) (all_seen c.args.site.now.variables.now) c.args.alone _ _ _) (rw (c.get-in-Field.ensures) at c.type_field.ensures)

pub type_expr-returns-in-Arrow : goal.type_expr-returns-in-Arrow
type_expr-returns-in-Arrow t c = by_form _ _ _ _ _ c.in-Arrow.is (arrow_form (lookup c.args.site.now.known.now) (all_seen c.args.site.now.variables.now) c.args.alone _ _ _) (rw (c.get-in-Arrow.ensures) at c.type_arrow.ensures)

pub type_expr-returns-in-Cast : goal.type_expr-returns-in-Cast
type_expr-returns-in-Cast t c = by_form _ _ _ _ _ c.in-Cast.is (cast_form (lookup c.args.site.now.known.now) (all_seen c.args.site.now.variables.now) c.args.alone _ _ _) (rw (c.get-in-Cast.ensures) at c.type_cast.ensures)

pub type_unary-returns-in_err-part : goal.type_unary-returns-in_err-part
type_unary-returns-in_err-part t c =
    let q = err_from_is_err_and c.from_residual.result c.from_residual.ensures.1 in
    stop _ _ c.in_err-part.ensures q.1 q.2

pub type_unary-returns : goal.type_unary-returns
type_unary-returns t c = go _ _ c.in_ok-part.ensures (c.unary.ensures)

pub type_bump-returns-in_err-part : goal.type_bump-returns-in_err-part
type_bump-returns-in_err-part t c =
    let q = err_from_is_err_and c.from_residual.result c.from_residual.ensures.1 in
    stop _ _ c.in_err-part.ensures q.1 q.2

pub type_bump-returns : goal.type_bump-returns
type_bump-returns t c = go _ _ c.in_ok-part.ensures (c.bump.ensures)

pub type_binary-returns-in_err-left : goal.type_binary-returns-in_err-left
type_binary-returns-in_err-left t c =
    let q = err_from_is_err_and c.from_residual.result c.from_residual.ensures.1 in
    stop _ _ c.in_err-left.ensures q.1 q.2

pub type_binary-returns-in_err-right : goal.type_binary-returns-in_err-right
type_binary-returns-in_err-right t c =
    let q = err_from_is_err_and c.from_residual-in_err-right.result c.from_residual-in_err-right.ensures.1 in
    go _ _ c.in_ok-left.ensures (stop _ _ c.in_err-right.ensures q.1 q.2)

pub type_binary-returns : goal.type_binary-returns
type_binary-returns t c = go _ _ c.in_ok-left.ensures (go _ _ c.in_ok-right.ensures (c.operate.ensures))

pub type_logic-returns-in_err-left : goal.type_logic-returns-in_err-left
type_logic-returns-in_err-left t c =
    let q = err_from_is_err_and c.from_residual.result c.from_residual.ensures.1 in
    stop _ _ c.in_err-left.ensures q.1 q.2

pub type_logic-returns-in_err-right : goal.type_logic-returns-in_err-right
type_logic-returns-in_err-right t c =
    let q = err_from_is_err_and c.from_residual-in_err-right.result c.from_residual-in_err-right.ensures.1 in
    go _ _ c.in_ok-left.ensures (stop _ _ c.in_err-right.ensures q.1 q.2)

pub type_logic-returns : goal.type_logic-returns
type_logic-returns t c = go _ _ c.in_ok-left.ensures (go _ _ c.in_ok-right.ensures (c.logic.ensures))

pub type_choice-returns-in_err-cond : goal.type_choice-returns-in_err-cond
type_choice-returns-in_err-cond t c =
    let q = err_from_is_err_and c.from_residual.result c.from_residual.ensures.1 in
    stop _ _ c.in_err-cond.ensures q.1 q.2

pub type_choice-returns-in_err-yes : goal.type_choice-returns-in_err-yes
type_choice-returns-in_err-yes t c =
    let q = err_from_is_err_and c.from_residual-in_err-yes.result c.from_residual-in_err-yes.ensures.1 in
    go _ _ c.in_ok-cond.ensures (stop _ _ c.in_err-yes.ensures q.1 q.2)

pub type_choice-returns-in_err-no : goal.type_choice-returns-in_err-no
type_choice-returns-in_err-no t c =
    let q = err_from_is_err_and c.from_residual-in_err-no.result c.from_residual-in_err-no.ensures.1 in
    go _ _ c.in_ok-cond.ensures (go _ _ c.in_ok-yes.ensures (stop _ _ c.in_err-no.ensures q.1 q.2))

pub type_choice-returns : goal.type_choice-returns
type_choice-returns t c = go _ _ c.in_ok-cond.ensures (go _ _ c.in_ok-yes.ensures (go _ _ c.in_ok-no.ensures (c.choice.ensures)))

pub type_assign-returns-in_err-left : goal.type_assign-returns-in_err-left
type_assign-returns-in_err-left t c =
    let q = err_from_is_err_and c.from_residual.result c.from_residual.ensures.1 in
    stop _ _ c.in_err-left.ensures q.1 q.2

pub type_assign-returns-in_err-right : goal.type_assign-returns-in_err-right
type_assign-returns-in_err-right t c =
    let q = err_from_is_err_and c.from_residual-in_err-right.result c.from_residual-in_err-right.ensures.1 in
    go _ _ c.in_ok-left.ensures (stop _ _ c.in_err-right.ensures q.1 q.2)

pub type_assign-returns : goal.type_assign-returns
type_assign-returns t c = go _ _ c.in_ok-left.ensures (go _ _ c.in_ok-right.ensures (c.assign.ensures))

pub type_index-returns-in_err-part : goal.type_index-returns-in_err-part
type_index-returns-in_err-part t c =
    let q = err_from_is_err_and c.from_residual.result c.from_residual.ensures.1 in
    stop _ _ c.in_err-part.ensures q.1 q.2

pub type_index-returns-in_err-amount : goal.type_index-returns-in_err-amount
type_index-returns-in_err-amount t c =
    let q = err_from_is_err_and c.from_residual-in_err-amount.result c.from_residual-in_err-amount.ensures.1 in
    go _ _ c.in_ok-part.ensures (stop _ _ c.in_err-amount.ensures q.1 q.2)

pub type_index-returns : goal.type_index-returns
type_index-returns t c = go _ _ c.in_ok-part.ensures (go _ _ c.in_ok-amount.ensures (c.index.ensures))

pub type_field-returns-in_err-part : goal.type_field-returns-in_err-part
type_field-returns-in_err-part t c =
    let q = err_from_is_err_and c.from_residual.result c.from_residual.ensures.1 in
    stop _ _ c.in_err-part.ensures q.1 q.2

pub type_field-returns : goal.type_field-returns
type_field-returns t c = go _ _ c.in_ok-part.ensures (rw c.as_bytes.ensures at c.field.ensures)

pub type_arrow-returns-in_err-part : goal.type_arrow-returns-in_err-part
type_arrow-returns-in_err-part t c =
    let q = err_from_is_err_and c.from_residual.result c.from_residual.ensures.1 in
    stop _ _ c.in_err-part.ensures q.1 q.2

pub type_arrow-returns : goal.type_arrow-returns
type_arrow-returns t c = go _ _ c.in_ok-part.ensures (rw c.as_bytes.ensures at c.arrow.ensures)

pub type_cast-returns-in_err-ty : goal.type_cast-returns-in_err-ty
type_cast-returns-in_err-ty t c =
    let q = err_from_is_err_and c.from_residual.result c.from_residual.ensures.1 in
    stop _ _ c.in_err-ty.ensures q.1 q.2

pub type_cast-returns-in_err-part : goal.type_cast-returns-in_err-part
type_cast-returns-in_err-part t c =
    let q = err_from_is_err_and c.from_residual-in_err-part.result c.from_residual-in_err-part.ensures.1 in
    go _ _ c.in_ok-ty.ensures (stop _ _ c.in_err-part.ensures q.1 q.2)

pub type_cast-returns : goal.type_cast-returns
type_cast-returns t c = go _ _ c.in_ok-ty.ensures (go _ _ c.in_ok-part.ensures (c.cast.ensures))

pub type_value-returns-in_err-found : goal.type_value-returns-in_err-found
type_value-returns-in_err-found t c =
    let q = err_from_is_err_and c.from_residual.result c.from_residual.ensures.1 in
    value_err _ _ c.in_err-found.ensures q.1 q.2

pub type_value-returns : goal.type_value-returns
type_value-returns t c = value_ok _ _ c.in_ok-found.ensures c.in_ok-value_of.ensures

pub type_expr-returns-in-Number : goal.type_expr-returns-in-Number
type_expr-returns-in-Number t c = by_form _ _ _ _ _ c.in-Number.is refl c.number.ensures

pub type_expr-returns-in-NullPointer : goal.type_expr-returns-in-NullPointer
type_expr-returns-in-NullPointer t c = by_form _ _ _ _ _ c.in-NullPointer.is refl c.null_pointer.ensures

pub type_expr-returns-in-Text : goal.type_expr-returns-in-Text
type_expr-returns-in-Text t c = by_form _ _ _ _ _ c.in-Text.is refl (refused refl)

pub type_expr-returns-in-Named : goal.type_expr-returns-in-Named
type_expr-returns-in-Named t c = by_form _ _ _ _ _ c.in-Named.is refl c.named.ensures

pub type_expr-returns-in-Call : goal.type_expr-returns-in-Call
type_expr-returns-in-Call t c = by_form _ _ _ _ _ c.in-Call.is (call_form (site_lookup c.args.site.now) c.args.alone c.args.e.now.spot c.in-Call.name c.in-Call.args) (rw (c.as_bytes.ensures, c.as_slice.ensures) at c.type_call.ensures)

pub type_counted-returns-in_err-value : goal.type_counted-returns-in_err-value
type_counted-returns-in_err-value t c =
    let q = err_from_is_err_and c.from_residual.result c.from_residual.ensures.1 in
    mapped_stop given_of _ _ c.in_err-value.ensures q.1 q.2

pub type_counted-returns : goal.type_counted-returns
type_counted-returns t c = go _ _ c.in_ok-value.ensures (c.counted.ensures)

pub type_fed-returns-in_err-value : goal.type_fed-returns-in_err-value
type_fed-returns-in_err-value t c =
    let q = err_from_is_err_and c.from_residual.result c.from_residual.ensures.1 in
    mapped_stop given_of _ _ c.in_err-value.ensures q.1 q.2

pub type_fed-returns : goal.type_fed-returns
type_fed-returns t c = go _ _ c.in_ok-value.ensures (fine (ap (λ a. Ok a) (sym c.in_ok-given_value.ensures)))

pub type_further-returns-in_err-value : goal.type_further-returns-in_err-value
type_further-returns-in_err-value t c =
    let q = err_from_is_err_and c.from_residual.result c.from_residual.ensures.1 in
    mapped_stop given_of _ _ c.in_err-value.ensures q.1 q.2

pub type_further-returns : goal.type_further-returns
type_further-returns t c = go _ _ c.in_ok-value.ensures (fine (ap (λ a. Ok a) (sym c.in_ok-given_value.ensures)))

pub type_wanted-returns-in_err-value : goal.type_wanted-returns-in_err-value
type_wanted-returns-in_err-value t c =
    let q = err_from_is_err_and c.from_residual.result c.from_residual.ensures.1 in
    mapped_stop given_of _ _ c.in_err-value.ensures q.1 q.2

pub type_wanted-returns : goal.type_wanted-returns
type_wanted-returns t c = go _ _ c.in_ok-value.ensures (c.given_as.ensures)

pub type_function_call-returns-in_err-values : goal.type_function_call-returns-in_err-values
type_function_call-returns-in_err-values t c =
    let q = err_from_is_err_and c.from_residual.result c.from_residual.ensures.1 in
    stop _ _ c.in_err-values.ensures q.1 q.2

pub type_function_call-returns : goal.type_function_call-returns
type_function_call-returns t c = go _ _ c.in_ok-values.ensures (c.function_called.ensures)

pub type_own_call-returns-in_err-given : goal.type_own_call-returns-in_err-given
type_own_call-returns-in_err-given t c =
    let q = err_from_is_err_and c.from_residual.result c.from_residual.ensures.1 in
    stop _ _ c.in_err-given.ensures q.1 q.2

pub type_own_call-returns : goal.type_own_call-returns
type_own_call-returns t c = go _ _ c.in_ok-given.ensures (c.own_called.ensures)

pub type_private_call-returns-in_err-given : goal.type_private_call-returns-in_err-given
type_private_call-returns-in_err-given t c =
    let q = err_from_is_err_and c.from_residual.result c.from_residual.ensures.1 in
    stop _ _ c.in_err-given.ensures q.1 q.2

pub type_private_call-returns : goal.type_private_call-returns
type_private_call-returns t c = go _ _ c.in_ok-given.ensures (c.private_word.ensures)

pub type_uncalled-returns-in_err-type_passed : goal.type_uncalled-returns-in_err-type_passed
type_uncalled-returns-in_err-type_passed t c =
    let q = err_from_is_err_and c.from_residual.result c.from_residual.ensures.1 in
    stop _ _ (rw (c.new.ensures) at c.in_err-type_passed.ensures) q.1 q.2

pub type_uncalled-returns : goal.type_uncalled-returns
type_uncalled-returns t c = go _ _ (rw (c.new.ensures) at c.in_ok-type_passed.ensures) (refused refl)

pub type_passed_one-returns-in_err-value : goal.type_passed_one-returns-in_err-value
type_passed_one-returns-in_err-value t c =
    let q = err_from_is_err_and c.from_residual.result c.from_residual.ensures.1 in
    stop _ _ c.in_err-value.ensures q.1 q.2

pub type_passed_one-returns : goal.type_passed_one-returns
type_passed_one-returns t c = go _ _ c.in_ok-value.ensures (c.take.ensures)

pub type_printed_one-returns-in_err-value : goal.type_printed_one-returns-in_err-value
type_printed_one-returns-in_err-value t c =
    let q = err_from_is_err_and c.from_residual.result c.from_residual.ensures.1 in
    mapped_stop printed_of _ _ c.in_err-value.ensures q.1 q.2

pub type_printed_one-returns : goal.type_printed_one-returns
type_printed_one-returns t c = go _ _ c.in_ok-value.ensures (c.show.ensures)

pub type_size_first-returns-in_err-size : goal.type_size_first-returns-in_err-size
type_size_first-returns-in_err-size t c =
    let q = err_from_is_err_and c.from_residual.result c.from_residual.ensures.1 in
    mapped_stop given_of _ _ c.in_err-size.ensures q.1 q.2

pub type_size_first-returns-in_err-count : goal.type_size_first-returns-in_err-count
type_size_first-returns-in_err-count t c =
    let q = err_from_is_err_and c.from_residual-in_err-count.result c.from_residual-in_err-count.ensures.1 in
    go _ _ c.in_ok-size.ensures (mapped_stop given_of _ _ c.in_err-count.ensures q.1 q.2)

pub type_size_first-returns : goal.type_size_first-returns
type_size_first-returns t c = go _ _ c.in_ok-size.ensures (go _ _ c.in_ok-count.ensures (fine (ap (λ a. Ok a) (sym c.in_ok-both_parts.ensures))))

pub type_size_second-returns-in_err-count : goal.type_size_second-returns-in_err-count
type_size_second-returns-in_err-count t c =
    let q = err_from_is_err_and c.from_residual.result c.from_residual.ensures.1 in
    mapped_stop given_of _ _ c.in_err-count.ensures q.1 q.2

pub type_size_second-returns-in_err-size : goal.type_size_second-returns-in_err-size
type_size_second-returns-in_err-size t c =
    let q = err_from_is_err_and c.from_residual-in_err-size.result c.from_residual-in_err-size.ensures.1 in
    go _ _ c.in_ok-count.ensures (mapped_stop given_of _ _ c.in_err-size.ensures q.1 q.2)

pub type_size_second-returns : goal.type_size_second-returns
type_size_second-returns t c = go _ _ c.in_ok-count.ensures (go _ _ c.in_ok-size.ensures (fine (ap (λ a. Ok a) (sym c.in_ok-both_parts.ensures))))

pub type_private-returns-in-Call : goal.type_private-returns-in-Call
type_private-returns-in-Call t c =
    said_as (sym (ap (λ n. private (site_lookup c.args.site.now) c.args.e.now.spot n) c.in-Call.is ∙ private_form (site_lookup c.args.site.now) c.args.e.now.spot c.in-Call.name c.in-Call.args))
    (rw (c.as_slice.ensures) at c.type_private_call.ensures)

pub type_size-returns-in-Binary : goal.type_size-returns-in-Binary
type_size-returns-in-Binary t c =
    said_as (sym (ap (λ n. size (site_lookup c.args.site.now) n) c.in-Binary.is ∙ size_binary (site_lookup c.args.site.now) c.in-Binary.op c.in-Binary.left c.in-Binary.right))
    (rw (c.get.ensures, c.get-in-Binary.ensures) at c.type_product.ensures)

pub type_passed-loop-i-init : goal.type_passed-loop-i-init
type_passed-loop-i-init t c =
    let judge = passed_at (site_lookup c.args.site.now) (types_of c.args.params.now) in
    subst (λ out. Left judge count_up 0 c.args.args.now 0 out) (sym c.new-values.ensures) (begins judge count_up 0 c.args.args.now)

pub type_passed-loop-i-preserved : goal.type_passed-loop-i-preserved
type_passed-loop-i-preserved t c =
    let judge = passed_at (site_lookup c.args.site.now) (types_of c.args.params.now) in
    let h = said_as (slot_passed (site_lookup c.args.site.now) c.args.params.now c.loop-i.i c.index-args-i.result c.get.ensures.value) c.in_ok-value.ensures in
    subst (λ out. Left judge count_up 0 c.args.args.now (c.loop-i.i + 1) out) (sym (rw (c.into_inner.ensures) at c.in_ok-push.ensures.ok))
    (on judge c.args.args.now c.loop-i.i _ _ _ c.loop-i.invariant c.index-args-i.is c.loop-i-test.true h.said)

pub type_passed-type_passed_one-requires : goal.type_passed-type_passed_one-requires
type_passed-type_passed_one-requires t c =
    let r = item_weight weight c.args.args.now c.loop-i.i c.index-args-i.result c.loop-i-test.true c.index-args-i.is in
    search (rules, r)

pub type_passed-returns-in_err-value : goal.type_passed-returns-in_err-value
type_passed-returns-in_err-value t c =
    let q = err_from_is_err_and c.from_residual.result c.from_residual.ensures.1 in
    let judge = passed_at (site_lookup c.args.site.now) (types_of c.args.params.now) in
    off judge c.args.args.now c.loop-i.i _ _ c.loop-i.invariant c.index-args-i.is c.loop-i-test.true
    (said_as (slot_passed (site_lookup c.args.site.now) c.args.params.now c.loop-i.i c.index-args-i.result c.get.ensures.value) c.in_err-value.ensures) q.1 q.2

pub type_passed-returns : goal.type_passed-returns
type_passed-returns t c =
    let judge = passed_at (site_lookup c.args.site.now) (types_of c.args.params.now) in
    fine (ends judge count_up 0 c.args.args.now c.loop-i.i _ c.loop-i.invariant c.loop-i-test.false)

pub type_given-loop-i-init : goal.type_given-loop-i-init
type_given-loop-i-init t c = given_begins (site_lookup c.args.site.now) c.args.args.now (wants c.args.call) _ c.given_none-all.ensures

pub type_given-loop-i-preserved : goal.type_given-loop-i-preserved
type_given-loop-i-preserved t c =
    given_on (site_lookup c.args.site.now) c.args.args.now (wants c.args.call) c.loop-i.i c.index-args-i.result _ _ _ c.loop-i.invariant c.index-args-i.is c.loop-i-test.true
    ((rw (c.want_of.ensures) at c.in_ok-given.ensures).said) c.in_ok-all.ensures

pub type_given-type_given_one-requires : goal.type_given-type_given_one-requires
type_given-type_given_one-requires t c =
    let r = item_weight weight c.args.args.now c.loop-i.i c.index-args-i.result c.loop-i-test.true c.index-args-i.is in
    search (rules, r)

pub type_given-returns-in_err-given : goal.type_given-returns-in_err-given
type_given-returns-in_err-given t c =
    let q = err_from_is_err_and c.from_residual.result c.from_residual.ensures.1 in
    given_off (site_lookup c.args.site.now) c.args.args.now (wants c.args.call) c.loop-i.i c.index-args-i.result _ c.loop-i.invariant c.index-args-i.is c.loop-i-test.true
    (rw (c.want_of.ensures) at c.in_err-given.ensures) q.1 q.2

pub type_given-returns : goal.type_given-returns
type_given-returns t c = given_ends (site_lookup c.args.site.now) c.args.args.now (wants c.args.call) c.loop-i.i _ c.loop-i.invariant c.loop-i-test.false

pub type_printed-loop-i-init : goal.type_printed-loop-i-init
type_printed-loop-i-init t c = printed_begins (site_lookup c.args.site.now) c.args.args.now c.args.kinds.now _ c.printed_none-all.ensures

pub type_printed-loop-i-preserved : goal.type_printed-loop-i-preserved
type_printed-loop-i-preserved t c =
    printed_on (site_lookup c.args.site.now) c.args.args.now c.args.kinds.now c.loop-i.i c.index-args-i.result _ _ _ c.loop-i.invariant c.index-args-i.is c.loop-i-test.true
    ((rw (c.kind_at.ensures) at c.in_ok-printed.ensures).said) c.in_ok-all.ensures

pub type_printed-type_printed_one-requires : goal.type_printed-type_printed_one-requires
type_printed-type_printed_one-requires t c =
    let r = item_weight weight c.args.args.now c.loop-i.i c.index-args-i.result c.loop-i-test.true c.index-args-i.is in
    search (rules, r)

pub type_printed-returns-in_err-printed : goal.type_printed-returns-in_err-printed
type_printed-returns-in_err-printed t c =
    let q = err_from_is_err_and c.from_residual.result c.from_residual.ensures.1 in
    printed_off (site_lookup c.args.site.now) c.args.args.now c.args.kinds.now c.loop-i.i c.index-args-i.result _ c.loop-i.invariant c.index-args-i.is c.loop-i-test.true
    (rw (c.kind_at.ensures) at c.in_err-printed.ensures) q.1 q.2

pub type_printed-returns : goal.type_printed-returns
type_printed-returns t c = printed_ends (site_lookup c.args.site.now) c.args.args.now c.args.kinds.now c.loop-i.i _ c.loop-i.invariant c.loop-i-test.false

pub type_other_print-returns-in_err-type_value : goal.type_other_print-returns-in_err-type_value
type_other_print-returns-in_err-type_value t c =
    let q = err_from_is_err_and c.from_residual.result c.from_residual.ensures.1 in
    stop _ _ c.in_err-type_value.ensures q.1 q.2

pub type_other_print-returns-in_err-type_printed : goal.type_other_print-returns-in_err-type_printed
type_other_print-returns-in_err-type_printed t c =
    let q = err_from_is_err_and c.from_residual-in_err-type_printed.result c.from_residual-in_err-type_printed.ensures.1 in
    go _ _ c.in_ok-type_value.ensures (stop _ _ (rw (c.new.ensures) at c.in_err-type_printed.ensures) q.1 q.2)

pub type_other_print-returns : goal.type_other_print-returns
type_other_print-returns t c = go _ _ c.in_ok-type_value.ensures (go _ _ (rw (c.new.ensures) at c.in_ok-type_printed.ensures) (c.print_without_text.ensures (printed_of c.in_ok-type_printed.field-0)))

pub type_text_print-returns-in_err-printed : goal.type_text_print-returns-in_err-printed
type_text_print-returns-in_err-printed t c =
    let q = err_from_is_err_and c.from_residual-in_err-printed.result c.from_residual-in_err-printed.ensures.1 in
    stop _ _ (said_as (kinds_printed (site_lookup c.args.site.now) c.args.rest.now c.args.text.now _ _ c.in_ok-format.ensures c.in_ok-kinds.ensures) c.in_err-printed.ensures) q.1 q.2

pub type_text_print-returns : goal.type_text_print-returns
type_text_print-returns t c =
    go _ _ (said_as (kinds_printed (site_lookup c.args.site.now) c.args.rest.now c.args.text.now _ _ c.in_ok-format.ensures c.in_ok-kinds.ensures) c.in_ok-printed.ensures) c.text_print.ensures

pub type_product-returns-in-Some : goal.type_product-returns-in-Some
type_product-returns-in-Some t c =
    let k = lookup c.args.site.now.known.now in
    let vs = all_seen c.args.site.now.variables.now in
    let g = site_lookup c.args.site.now in
    let o = sizeof_type c.args.right.now.node in
    let l = found g false c.args.left.now in
    said_as (sym (ap (λ o'. product g o' o l (found g false c.args.right.now)) (sym c.in-Some.ensures) ∙ first_form k vs _ o l _)) c.type_size_first.ensures

pub type_product-returns-in-Some-size_name : goal.type_product-returns-in-Some-size_name
type_product-returns-in-Some-size_name t c =
    let k = lookup c.args.site.now.known.now in
    let vs = all_seen c.args.site.now.variables.now in
    let g = site_lookup c.args.site.now in
    let r = found g false c.args.right.now in
    said_as (sym (ap (λ o. product g o (sizeof_type c.args.right.now.node) (found g false c.args.left.now) r) (sym c.in-None.ensures)
    ∙ ap (λ o. product g None o (found g false c.args.left.now) r) (sym c.in-Some-size_name.ensures) ∙ second_form k vs _ _ r)) c.type_size_second.ensures

pub type_given_one-returns-in-ByValue : goal.type_given_one-returns-in-ByValue
type_given_one-returns-in-ByValue t c =
    let g = site_lookup c.args.site.now in
    said_as (sym (ap (λ o. given_one g o c.args.arg.now) c.in-Some.is ∙ value_way g c.in-Some.want c.args.arg.now (sym c.in-ByValue.ensures))) c.type_wanted.ensures

pub type_print-returns-in-empty : goal.type_print-returns-in-empty
type_print-returns-in-empty t c =
    said_as (sym (none_form (site_lookup c.args.site.now) c.args.alone c.args.spot c.args.args.now c.in-empty.len_below)) (c.print_without_text.ensures no_value)

pub type_some_print-returns-in-Some : goal.type_some_print-returns-in-Some
type_some_print-returns-in-Some t c =
    said_as (sym (text_form (site_lookup c.args.site.now) c.args.alone c.args.spot c.args.first.now c.args.rest.now c.in-Some.text.now (sym c.in-Some.ensures)))
    (rw (c.as_bytes.ensures) at c.type_text_print.ensures)

pub type_some_print-returns-in-None : goal.type_some_print-returns-in-None
type_some_print-returns-in-None t c =
    said_as (sym (other_form (site_lookup c.args.site.now) c.args.alone c.args.spot c.args.first.now c.args.rest.now (sym c.in-None.ensures))) c.type_other_print.ensures
