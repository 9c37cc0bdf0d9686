use Rattle.std.proofs.Common.{◌≡◌, drop}
use Rattle.oc_walk.specs.Exchange.{formatted, onto}
use Rattle.clear_actions.proofs.exchange.format.Given as goal

abbrev pub invariant-loop-piece : goal.invariant-loop-piece
invariant-loop-piece l = formatted l.pieces l.values ≡ onto l.bytes.items (formatted (drop l.piece-index l.pieces) l.rest)
