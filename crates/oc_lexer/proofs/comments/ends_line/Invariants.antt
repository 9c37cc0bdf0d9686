use Rattle.std.proofs.Common.{◌≡◌, length, false}
use Rattle.oc_lexer.specs.Comments.{ends_line}
use Rattle.oc_lexer.proofs.comments.ends_line.Given as goal

abbrev pub invariant-loop-after : goal.invariant-loop-after
invariant-loop-after l = ends_line false l.rest ≡ ends_line false l.text

abbrev pub decreases-loop-after : goal.decreases-loop-after
decreases-loop-after l = length l.rest
