use Rattle.std.proofs.Common.{◌≡◌, ◌-◌, ◌+◌, length, arith, [], ◌∷◌}
use Rattle.gate_core.specs.Circuit.{then}
use Rattle.gate_core.specs.Circuit.Circuit.{meet, give}
use Rattle.gate_core.proofs.Playing.{Plays-more}
use Rattle.word_circuits.specs.Chains.{alike}
use Rattle.word_circuits.proofs.AddingPlays.{Plays-conjunction_step, Plays-conjunction, Plays-alike, Plays-equal}
use Rattle.word_circuits.proofs.Affording.{Affords-conjunction}
use Rattle.word_circuits.proofs.comparisons.all_alike.Goals as goal

pub and-all-requires : goal.and-all-requires
and-all-requires g c =
    let m = g.G.Gates.calls in
    let x = c.args.x.now in
    let y = c.args.y.now in
    let d = c.requires.room.0 in
    Affords-conjunction m (alike x y d) (λ t. give (t ∷ [])) (length x) c.places.i c.alike-all.result _ _ _ _ c.places-test.true c.requires.room.1
    (Plays-alike m x y d 0 _ _ _ _ (c.wire.ensures d) (c.wire-2.ensures d) c.alike-all.ensures) (c.places.invariant d)
    (Plays-alike m x y d (c.places.i + 1) _ _ _ _ (c.wire-in-places.ensures d) (c.wire-in-places-2.ensures d) c.alike-next.ensures)

pub places-preserved : goal.places-preserved
places-preserved g c =
    λ d.
    let m = g.G.Gates.calls in
    let f = alike c.args.x.now c.args.y.now d in
    Plays-more m (λ i t. then (f (i + 1)) (λ z. meet t z (λ u. give u))) c.places.i _ _ _ _ _ _ (c.places.invariant d)
    (Plays-conjunction_step m f c.places.i _ _ _ _ _ (Plays-alike m c.args.x.now c.args.y.now d (c.places.i + 1) _ _ _ _ (c.wire-in-places.ensures d) (c.wire-in-places-2.ensures d) c.alike-next.ensures) c.and-all.ensures)

pub returns : goal.returns
returns g c =
    λ d.
    let m = g.G.Gates.calls in
    let x = c.args.x.now in
    let y = c.args.y.now in
    let done : c.places.i ≡ length x - 1 = omega (arith, c.places-test.false, c.places.auto.i-end) in
    Plays-equal m (length x) x y d c.places.all c.args.gates.now c.places.gates
    (Plays-conjunction m (alike x y d) (length x) c.places.i c.alike-all.result _ _ _ done
    (Plays-alike m x y d 0 _ _ _ _ (c.wire.ensures d) (c.wire-2.ensures d) c.alike-all.ensures) (c.places.invariant d))
