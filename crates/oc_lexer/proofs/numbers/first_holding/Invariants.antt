use Rattle.std.proofs.Common.{◌≡◌, drop}
use Rattle.oc_lexer.specs.ScannedNumbers.{first_holding}
use Rattle.oc_lexer.proofs.numbers.first_holding.Given as goal

abbrev pub invariant-loop-kind : goal.invariant-loop-kind
invariant-loop-kind l = first_holding (drop l.kind-index l.kinds) l.value ≡ first_holding l.kinds l.value
