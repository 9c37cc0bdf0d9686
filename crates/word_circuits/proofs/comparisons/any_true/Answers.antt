use Rattle.std.proofs.Common.{◌≡◌, ◌-◌, ◌+◌, length, arith, [], ◌∷◌}
use Rattle.gate_core.specs.Circuit.{then}
use Rattle.gate_core.specs.Circuit.Circuit.{meet, give, flip}
use Rattle.gate_core.proofs.Playing.{Plays-more}
use Rattle.word_circuits.specs.Chains.{other}
use Rattle.word_circuits.proofs.AddingPlays.{Plays-conjunction_step, Plays-conjunction, Plays-other, Plays-to_bool}
use Rattle.word_circuits.proofs.Affording.{Affords-conjunction}
use Rattle.word_circuits.proofs.comparisons.any_true.Goals as goal

pub and-none-requires : goal.and-none-requires
and-none-requires g c =
    let m = g.G.Gates.calls in
    let x = c.args.x.now in
    let d = c.requires.room.0 in
    Affords-conjunction m (other x d) (λ t. flip t (λ r. give (r ∷ []))) (length x) c.places.i c.not-none.result _ _ _ _ c.places-test.true c.requires.room.1
    (Plays-other m x d 0 _ _ _ (c.wire.ensures d) c.not-none.ensures) (c.places.invariant d)
    (Plays-other m x d (c.places.i + 1) _ _ _ (c.wire-in-places.ensures d) c.not-next.ensures)

pub places-preserved : goal.places-preserved
places-preserved g c =
    λ d.
    let m = g.G.Gates.calls in
    let f = other c.args.x.now d in
    Plays-more m (λ i t. then (f (i + 1)) (λ z. meet t z (λ u. give u))) c.places.i _ _ _ _ _ _ (c.places.invariant d)
    (Plays-conjunction_step m f c.places.i _ _ _ _ _ (Plays-other m c.args.x.now d (c.places.i + 1) _ _ _ (c.wire-in-places.ensures d) c.not-next.ensures) c.and-none.ensures)

pub returns : goal.returns
returns g c =
    λ d.
    let m = g.G.Gates.calls in
    let x = c.args.x.now in
    let done : c.places.i ≡ length x - 1 = omega (arith, c.places-test.false, c.places.auto.i-end) in
    Plays-to_bool m (length x) x d c.places.none _ c.args.gates.now c.places.gates
    (Plays-conjunction m (other x d) (length x) c.places.i c.not-none.result _ _ _ done
    (Plays-other m x d 0 _ _ _ (c.wire.ensures d) c.not-none.ensures) (c.places.invariant d)) c.not.ensures
