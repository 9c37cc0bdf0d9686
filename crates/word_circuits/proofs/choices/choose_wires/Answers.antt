use Rattle.std.proofs.Common.{get_or, arith}
use Rattle.word_circuits.specs.Choices.{choose_bit}
use Rattle.gate_core.proofs.Playing.{Plays-row_more}
use Rattle.gate_core.proofs.Affording.{Affords-row}
use Rattle.word_circuits.proofs.Affording.{of_three}
use Rattle.gate_core.specs.Circuit.{Affords}
use Rattle.word_circuits.proofs.choices.choose_wires.Goals as goal

pub choose_bit-requires : goal.choose_bit-requires
choose_bit-requires g c =
    let m = g.G.Gates.calls in
    let d = c.requires.room.0 in
    of_three (λ x y z. Affords m (choose_bit c.args.e x y z) c.places.gates) _ _ _ _ _ _ (c.wire.ensures d) (c.wire-in-places.ensures d) (c.wire-in-places-2.ensures d) (Affords-row m (λ i. choose_bit c.args.e (get_or c.args.x.now i d) (get_or c.args.y.now i d) (get_or c.args.kept.now i d)) c.args.count c.places.i _ _ _ c.places-test.true c.requires.room.1 (c.places.invariant.1 d))

pub places-preserved : goal.places-preserved
places-preserved g c = (
  omega (arith, c.push.ensures.len, c.places.invariant.0),
  λ d. rw c.push.ensures.items (Plays-row_more g.G.Gates.calls (λ i. choose_bit c.args.e (get_or c.args.x.now i d) (get_or c.args.y.now i d) (get_or c.args.kept.now i d)) c.places.i _ _ _ _ _ (c.places.invariant.1 d)
      (rw (← c.wire.ensures d, ← c.wire-in-places.ensures d, ← c.wire-in-places-2.ensures d) c.choose_bit.ensures)),
)
