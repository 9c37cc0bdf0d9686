use Rattle.std.proofs.Common.{false, refl, sym, ap, ◌∙◌, arith, length}
use Rattle.std.specs.List.{list_any}
use Rattle.oc_lexer.specs.Bytes.{is_space}
use Rattle.oc_lexer.specs.Comments.{ends_line}
use Rattle.oc_lexer.proofs.Runs.{after_within}
use Rattle.oc_lexer.proofs.CommentEnds.{is_newline, line_ends, line_fails, line_open, line_closed}
use Rattle.oc_lexer.proofs.comments.ends_line.Goals as goal

pub loop-after-init : goal.loop-after-init
loop-after-init c = refl

pub returns-then-is_line_end : goal.returns-then-is_line_end
returns-then-is_line_end c = line_ends c.loop-after.rest.now c.split_run.result.1.now (record { spaces = c.split_run.ensures.after; so_far = c.loop-after.invariant }) (sym c.is_line_end.ensures ∙ c.if-is_line_end.true)

pub returns-then-not-starts_comment : goal.returns-then-not-starts_comment
returns-then-not-starts_comment c = line_fails c.loop-after.rest.now c.split_run.result.1.now (record { spaces = c.split_run.ensures.after; so_far = c.loop-after.invariant }) (sym c.is_line_end.ensures ∙ c.if-is_line_end.false) (sym c.starts_comment.ensures ∙ c.if-not-starts_comment.true)

pub returns-in_default : goal.returns-in_default
returns-in_default c = line_open c.loop-after.rest.now c.split_run.result.1.now (record { spaces = c.split_run.ensures.after; so_far = c.loop-after.invariant }) (sym c.starts_comment.ensures ∙ c.if-not-starts_comment.false) (sym c.in_default.ensures.value)

pub returns-then-contains : goal.returns-then-contains
returns-then-contains c =
    line_closed c.loop-after.rest.now c.split_run.result.1.now c.in-Some.length _ (record { spaces = c.split_run.ensures.after; so_far = c.loop-after.invariant }) (sym c.starts_comment.ensures ∙ c.if-not-starts_comment.false) (sym c.in-Some.ensures.value) (ap (list_any is_newline) (sym c.split_at.ensures.front) ∙ sym c.contains.ensures.value ∙ c.if-contains.true)

pub loop-after-smaller : goal.loop-after-smaller
loop-after-smaller c =
    let a = ap length c.split_run.ensures.after in
    let b = after_within is_space c.loop-after.rest.now in
    omega (arith, a, b, c.split_at.ensures.back_len, c.in-Some.ensures.some, c.in-Some.ensures.within)

pub loop-after-preserved : goal.loop-after-preserved
loop-after-preserved c =
    ap (ends_line false) c.split_at.ensures.back
    ∙ line_closed c.loop-after.rest.now c.split_run.result.1.now c.in-Some.length false (record { spaces = c.split_run.ensures.after; so_far = c.loop-after.invariant }) (sym c.starts_comment.ensures ∙ c.if-not-starts_comment.false) (sym c.in-Some.ensures.value) (ap (list_any is_newline) (sym c.split_at.ensures.front) ∙ sym c.contains.ensures.value ∙ c.if-contains.false)
