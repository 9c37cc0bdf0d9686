use Rattle.std.proofs.Common.{◌+◌}
use Rattle.std.specs.Prelude.{max}
use Rattle.type_rules.specs.Calls.{types_of, wants}
use Rattle.written_types.proofs.EachItem.{Left}
use Rattle.typed_expressions.specs.Sites.{site_lookup}
use Rattle.typed_expressions.specs.Arguments.{passed_at, count_up}
use Rattle.typed_expressions.specs.Weight.{weight, list_weight}
use Rattle.typed_expressions.proofs.Loops.{GivenSo, PrintedSo}
use Rattle.typed_expressions.proofs.expressions.+exprs.Given as goal

abbrev pub decreases-type_expr : goal.decreases-type_expr
decreases-type_expr l = weight l.e.now

abbrev pub decreases-type_value : goal.decreases-type_value
decreases-type_value l = weight l.e.now + 1

abbrev pub decreases-type_unary : goal.decreases-type_unary
decreases-type_unary l = weight l.part.now + 2

abbrev pub decreases-type_bump : goal.decreases-type_bump
decreases-type_bump l = weight l.part.now + 2

abbrev pub decreases-type_binary : goal.decreases-type_binary
decreases-type_binary l = max (weight l.left.now) (weight l.right.now) + 2

abbrev pub decreases-type_logic : goal.decreases-type_logic
decreases-type_logic l = max (weight l.left.now) (weight l.right.now) + 2

abbrev pub decreases-type_choice : goal.decreases-type_choice
decreases-type_choice l = max (weight l.cond.now) (max (weight l.yes.now) (weight l.no.now)) + 2

abbrev pub decreases-type_assign : goal.decreases-type_assign
decreases-type_assign l = max (weight l.left.now) (weight l.right.now) + 2

abbrev pub decreases-type_index : goal.decreases-type_index
decreases-type_index l = max (weight l.part.now) (weight l.amount.now) + 2

abbrev pub decreases-type_field : goal.decreases-type_field
decreases-type_field l = weight l.part.now + 2

abbrev pub decreases-type_arrow : goal.decreases-type_arrow
decreases-type_arrow l = weight l.part.now + 2

abbrev pub decreases-type_cast : goal.decreases-type_cast
decreases-type_cast l = weight l.part.now + 2

abbrev pub decreases-type_call : goal.decreases-type_call
decreases-type_call l = list_weight l.args.now + 8

abbrev pub decreases-type_uncalled : goal.decreases-type_uncalled
decreases-type_uncalled l = list_weight l.args.now + 5

abbrev pub decreases-type_function_call : goal.decreases-type_function_call
decreases-type_function_call l = list_weight l.args.now + 5

abbrev pub decreases-type_own_call : goal.decreases-type_own_call
decreases-type_own_call l = list_weight l.args.now + 5

abbrev pub decreases-type_passed : goal.decreases-type_passed
decreases-type_passed l = list_weight l.args.now + 4

abbrev pub decreases-type_passed_one : goal.decreases-type_passed_one
decreases-type_passed_one l = weight l.arg.now + 2

abbrev pub decreases-type_given : goal.decreases-type_given
decreases-type_given l = list_weight l.args.now + 4

abbrev pub decreases-type_given_one : goal.decreases-type_given_one
decreases-type_given_one l = weight l.arg.now + 3

abbrev pub decreases-type_further : goal.decreases-type_further
decreases-type_further l = weight l.arg.now + 2

abbrev pub decreases-type_wanted : goal.decreases-type_wanted
decreases-type_wanted l = weight l.arg.now + 2

abbrev pub decreases-type_fed : goal.decreases-type_fed
decreases-type_fed l = weight l.arg.now + 2

abbrev pub decreases-type_private : goal.decreases-type_private
decreases-type_private l = weight l.e.now + 1

abbrev pub decreases-type_private_call : goal.decreases-type_private_call
decreases-type_private_call l = list_weight l.args.now + 5

abbrev pub decreases-type_size : goal.decreases-type_size
decreases-type_size l = weight l.e.now + 1

abbrev pub decreases-type_product : goal.decreases-type_product
decreases-type_product l = max (weight l.left.now) (weight l.right.now) + 4

abbrev pub decreases-type_size_first : goal.decreases-type_size_first
decreases-type_size_first l = weight l.count.now + 3

abbrev pub decreases-type_size_second : goal.decreases-type_size_second
decreases-type_size_second l = weight l.count.now + 3

abbrev pub decreases-type_counted : goal.decreases-type_counted
decreases-type_counted l = weight l.e.now + 2

abbrev pub decreases-type_print : goal.decreases-type_print
decreases-type_print l = list_weight l.args.now + 7

abbrev pub decreases-type_some_print : goal.decreases-type_some_print
decreases-type_some_print l = max (weight l.first.now) (list_weight l.rest.now) + 6

abbrev pub decreases-type_text_print : goal.decreases-type_text_print
decreases-type_text_print l = list_weight l.rest.now + 5

abbrev pub decreases-type_other_print : goal.decreases-type_other_print
decreases-type_other_print l = max (weight l.first.now) (list_weight l.rest.now) + 5

abbrev pub decreases-type_printed : goal.decreases-type_printed
decreases-type_printed l = list_weight l.args.now + 4

abbrev pub decreases-type_printed_one : goal.decreases-type_printed_one
decreases-type_printed_one l = weight l.arg.now + 2

abbrev pub invariant-type_passed-loop-i : goal.invariant-type_passed-loop-i
invariant-type_passed-loop-i l = Left (passed_at (site_lookup l.site) (types_of l.params)) count_up 0 l.args l.i l.values

abbrev pub invariant-type_given-loop-i : goal.invariant-type_given-loop-i
invariant-type_given-loop-i l = GivenSo (site_lookup l.site) (wants l.call) l.args l.i l.all

abbrev pub invariant-type_printed-loop-i : goal.invariant-type_printed-loop-i
invariant-type_printed-loop-i l = PrintedSo (site_lookup l.site) l.kinds l.args l.i l.all
