use Rattle.oc_parser.specs.declared.faults.ParseRule.TheVariants.{G1, G2}
use Rattle.oc_parser.proofs.Answered.{tree_derives, is_tree, one_tree, grammar_refuses, heavy_refuses, not_refused, one_refusal}
use Rattle.oc_parser.proofs.Shallow.{light_shallow}
use Rattle.oc_parser.proofs.parsing.parse.Goals as goal

pub returns-in-Ok-clause-tree : goal.returns-in-Ok-clause-tree
returns-in-Ok-clause-tree c = is_tree c.args.lexed.now (rw c.as_slice-tokens.ensures at c.in-Ok.ensures)

pub returns-in-Ok-clause-only : goal.returns-in-Ok-clause-only
returns-in-Ok-clause-only c = one_tree c.args.lexed.now (rw c.as_slice-tokens.ensures at c.in-Ok.ensures)

pub returns-in-Ok-clause-accepted : goal.returns-in-Ok-clause-accepted
returns-in-Ok-clause-accepted c = λ rule spot r. not_refused c.args.lexed.now c.in-Ok.program rule spot (tree_derives (rw c.as_slice-tokens.ensures at c.in-Ok.ensures)) (rw (c.in_default.is, c.as_slice-tokens.ensures) at c.in_ok-spot.ensures) r

pub returns-in-Ok-clause-shallow : goal.returns-in-Ok-clause-shallow
returns-in-Ok-clause-shallow c = light_shallow c.in-Ok.program c.args.lexed.now.tokens (tree_derives (rw c.as_slice-tokens.ensures at c.in-Ok.ensures)) (rw (c.in_default.is, c.as_slice-tokens.ensures) at c.in_ok-spot.ensures)

pub returns-in-Some-clause-only_refusal : goal.returns-in-Some-clause-only_refusal
returns-in-Some-clause-only_refusal c = λ other at r. one_refusal c.args.lexed.now G2 other c.in-Some.spot at (heavy_refuses c.args.lexed.now c.in-Some.spot (rw (c.in-Some.is, c.as_slice-tokens.ensures) at c.in_ok-spot.ensures)) r

pub returns-in-Err-Unexpected-clause-refused : goal.returns-in-Err-Unexpected-clause-refused
returns-in-Err-Unexpected-clause-refused c = rw c.spot_from.ensures (grammar_refuses c.args.lexed.now c.in-Err-Unexpected.rest.now (rw (c.in_default.is, c.as_slice-tokens.ensures) at c.in_ok-spot.ensures) (rw (c.in-Err-Unexpected.field-0-is, c.as_slice-tokens.ensures) at c.in-Err-Unexpected.ensures))

pub returns-in-Err-Unexpected-clause-only_refusal : goal.returns-in-Err-Unexpected-clause-only_refusal
returns-in-Err-Unexpected-clause-only_refusal c = λ other at r. one_refusal c.args.lexed.now G1 other c.spot_from.result at (returns-in-Err-Unexpected-clause-refused c) r

pub returns-in-Err-Unexpected-clause-none : goal.returns-in-Err-Unexpected-clause-none
returns-in-Err-Unexpected-clause-none c = λ program d light. not_refused c.args.lexed.now program G1 c.spot_from.result d light (returns-in-Err-Unexpected-clause-refused c)
