use Rattle.oc_lexer.proofs.CommentEnds.{length_short}
use Rattle.oc_lexer.proofs.comments.comment_length.Goals as goal

pub returns-then-text-lt2-clause-value : goal.returns-then-text-lt2-clause-value
returns-then-text-lt2-clause-value c = length_short c.args.text.now c.if-text-lt2.true
