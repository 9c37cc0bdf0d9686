use Rattle.std.proofs.Common.{get_or, arith, length}
use Rattle.word_circuits.specs.Choices.{either_bit}
use Rattle.gate_core.proofs.Playing.{Plays-row_more}
use Rattle.gate_core.proofs.Affording.{Affords-row}
use Rattle.word_circuits.proofs.choices.either_wires.Goals as goal

pub either_bit-requires : goal.either_bit-requires
either_bit-requires g c =
    let m = g.G.Gates.calls in
    let d = c.requires.room.0 in
    rw (c.wire.ensures d, c.wire-in-places.ensures d) (Affords-row m (λ i. either_bit (get_or c.args.x.now i d) (get_or c.args.y.now i d)) (length c.args.x.now) c.places.i _ _ _ c.places-test.true c.requires.room.1 (c.places.invariant.1 d))

pub places-preserved : goal.places-preserved
places-preserved g c = (
  omega (arith, c.push.ensures.len, c.places.invariant.0),
  λ d. rw c.push.ensures.items (Plays-row_more g.G.Gates.calls (λ i. either_bit (get_or c.args.x.now i d) (get_or c.args.y.now i d)) c.places.i _ _ _ _ _ (c.places.invariant.1 d)
      (rw (← c.wire.ensures d, ← c.wire-in-places.ensures d) c.either_bit.ensures)),
)
