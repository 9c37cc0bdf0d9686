use Rattle.std.proofs.Common.{arith}
use Rattle.std.proofs.lemmas.Grind.{common_steps}
use Rattle.clear_actions.proofs.exchange.format.Goals as goal
use Rattle.clear_actions.proofs.exchange.format.Goals.{in-Text+in_ok-extend_from_slice-in-Text, in-Decimal+in-Int+in_ok-push_decimal-in-Int, in-Byte+in-Int-rest+in_ok-push-in-Int-rest}

pub loop-piece-preserved : goal.loop-piece-preserved
loop-piece-preserved c = elim c.match-piece.branch [
  | in-Text+in_ok-extend_from_slice-in-Text w ↦ grind (arith, common_steps)
  | in-Decimal+in-Int+in_ok-push_decimal-in-Int w ↦ grind (arith, common_steps)
  | in-Byte+in-Int-rest+in_ok-push-in-Int-rest w ↦ grind (arith, common_steps)
]
