use Rattle.std.proofs.Common.{◌≡◌, ◌-◌, length, drop}
use Rattle.oc_lexer.specs.Scanned.{body_length}
use Rattle.oc_lexer.proofs.CommentEnds.{later}
use Rattle.oc_lexer.proofs.comments.body_length.Given as goal

abbrev pub invariant-loop-at : goal.invariant-loop-at
invariant-loop-at l = later l.at (body_length (drop l.at l.text)) ≡ body_length l.text

abbrev pub decreases-loop-at : goal.decreases-loop-at
decreases-loop-at l = length l.text - l.at
