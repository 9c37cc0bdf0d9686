use Rattle.std.proofs.Common.{◌-◌, length}
use Rattle.oc_lexer.specs.Scanned.{quoted}
use Rattle.oc_lexer.proofs.Quotes.{Read}
use Rattle.oc_lexer.proofs.literals.quoted.Given as goal

abbrev pub invariant-loop-rest : goal.invariant-loop-rest
invariant-loop-rest l = Read l.bytes.items l.at l.text (quoted l.text)

abbrev pub decreases-loop-rest : goal.decreases-loop-rest
decreases-loop-rest l = length l.text - l.at
