use Rattle.std.proofs.Common.{get_or, arith, refl, length}
use Rattle.gate_core.specs.Circuit.Circuit.{meet, give}
use Rattle.gate_core.proofs.Playing.{Plays-row_more}
use Rattle.gate_core.proofs.Affording.{Affords-row}
use Rattle.word_circuits.proofs.Affording.{of_two}
use Rattle.word_circuits.proofs.choices.meet_wires.Goals as goal

pub and-requires : goal.and-requires
and-requires g c =
    let m = g.G.Gates.calls in
    let d = c.requires.room.0 in
    let turn = Affords-row m (λ i. meet (get_or c.args.x.now i d) (get_or c.args.y.now i d) (λ r. give r)) (length c.args.x.now) c.places.i _ _ _ c.places-test.true c.requires.room.1 (c.places.invariant.1 d) in
    of_two (λ x y. m.has_room c.places.gates x y) _ _ _ _ (c.wire.ensures d) (c.wire-in-places.ensures d) turn.0

pub places-preserved : goal.places-preserved
places-preserved g c = (
  omega (arith, c.push.ensures.len, c.places.invariant.0),
  λ d. rw c.push.ensures.items (Plays-row_more g.G.Gates.calls (λ i. meet (get_or c.args.x.now i d) (get_or c.args.y.now i d) (λ r. give r)) c.places.i _ _ _ _ _ (c.places.invariant.1 d)
      (rw (← c.wire.ensures d, ← c.wire-in-places.ensures d) (c.and.result, c.and.new.self, c.and.ensures, (refl, refl)))),
)
