use Rattle.std.proofs.Common.{sym, ◌∙◌}
use Rattle.oc_lexer.proofs.CommentEnds.{later_zero, body_goes, body_stops, body_ends, end_within}
use Rattle.oc_lexer.proofs.comments.body_length.Goals as goal

pub loop-at-init : goal.loop-at-init
loop-at-init c = later_zero _

pub returns-then-ends_comment-clause-value : goal.returns-then-ends_comment-clause-value
returns-then-ends_comment-clause-value c = body_stops c.args.text.now c.loop-at.at _ c.loop-at-test.true (sym c.ends_comment.ensures ∙ c.if-ends_comment.true) c.loop-at.invariant

pub returns-then-ends_comment-clause-within : goal.returns-then-ends_comment-clause-within
returns-then-ends_comment-clause-within c = end_within c.args.text.now c.loop-at.at (sym c.ends_comment.ensures ∙ c.if-ends_comment.true)

pub loop-at-preserved : goal.loop-at-preserved
loop-at-preserved c = body_goes c.args.text.now c.loop-at.at _ c.loop-at-test.true (sym c.ends_comment.ensures ∙ c.if-ends_comment.false) c.loop-at.invariant

pub returns-clause-value : goal.returns-clause-value
returns-clause-value c = body_ends c.args.text.now c.loop-at.at _ c.loop-at-test.false c.loop-at.invariant
