use Rattle.std.proofs.Common.{arith, [], ◌∷◌, ◌++◌, get_or}
use Rattle.word_circuits.specs.Chains.{chain_step, adder, Carried}
use Rattle.gate_core.proofs.Playing.{Plays-more}
use Rattle.word_circuits.proofs.AddingPlays.{Plays-chain_step}
use Rattle.gate_core.proofs.Affording.{Affords-turn, Affords-first}
use Rattle.gate_core.specs.Circuit.Circuit.{give}
use Rattle.word_circuits.proofs.Affording.{of_two}
use Rattle.gate_core.specs.Circuit.{Affords}
use Rattle.word_circuits.proofs.carries.chain.Goals as goal

pub add_bit-added-requires : goal.add_bit-added-requires
add_bit-added-requires g c =
    let m = g.G.Gates.calls in
    let x = c.args.x.now in
    let y = c.args.y.now in
    let d = c.requires.room.0 in
    let a : Carried _ = record { sums = c.places.sums.items; carry = c.places.held } in
    let turn = Affords-turn m (chain_step x y d) (record { sums = []; carry = c.args.carry }) c.args.count c.places.i _ _ a c.places-test.true c.requires.room.1 (c.places.invariant.1 d) in
    of_two (λ u v. Affords m (adder u v a.carry) c.places.gates) _ _ _ _ (c.wire.ensures d) (c.wire-in-places.ensures d) (Affords-first {B = Carried _} m (adder (get_or x c.places.i d) (get_or y c.places.i d) a.carry) (λ r. give (record { sums = a.sums ++ r.0 ∷ []; carry = r.1 })) _ turn)

pub places-preserved : goal.places-preserved
places-preserved g c = (
  omega (arith, c.push.ensures.len, c.places.invariant.0),
  λ d. rw c.push.ensures.items (Plays-more g.G.Gates.calls (chain_step c.args.x.now c.args.y.now d) c.places.i _ _ _ _ _ _ (c.places.invariant.1 d)
      (Plays-chain_step g.G.Gates.calls c.args.x.now c.args.y.now d c.places.i (record { sums = c.places.sums.items; carry = c.places.held }) _ _ _ _ _ (c.wire.ensures d) (c.wire-in-places.ensures d) c.add_bit-added.ensures)),
)
