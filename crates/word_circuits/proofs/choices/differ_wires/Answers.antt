use Rattle.std.proofs.Common.{get_or, arith, refl, sym}
use Rattle.gate_core.specs.Circuit.Circuit.{join, give}
use Rattle.gate_core.proofs.Playing.{Plays-row_more}
use Rattle.word_circuits.proofs.choices.differ_wires.Goals as goal

pub places-preserved : goal.places-preserved
places-preserved g c = (
  omega (arith, c.push.ensures.len, c.places.invariant.0),
  λ d. rw c.push.ensures.items (Plays-row_more g.G.Gates.calls (λ i. join (get_or c.args.x.now i d) (get_or c.args.y.now i d) (λ r. give r)) c.places.i _ _ _ _ _ (c.places.invariant.1 d)
      (rw (← c.wire.ensures d, ← c.wire-in-places.ensures d) (sym c.xor.ensures, refl))),
)
