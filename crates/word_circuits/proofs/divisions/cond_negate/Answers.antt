use Rattle.std.proofs.Common.{ap, ◌∙◌, ◌≡◌, ◌-◌, length, arith, []}
use Rattle.gate_core.proofs.Playing.{Plays-more}
use Rattle.word_circuits.specs.Chains.{Carried}
use Rattle.word_circuits.specs.Divisions.{negate_step, last_negated}
use Rattle.word_circuits.proofs.DividingPlays.{Plays-negate_step, Plays-cond_negate}
use Rattle.gate_core.proofs.Affording.{Affords-first, Affords-turn}
use Rattle.gate_core.specs.Circuit.{times}
use Rattle.word_circuits.proofs.Affording.{of_one}
use Rattle.word_circuits.proofs.divisions.cond_negate.Goals as goal

pub and-carry-requires : goal.and-carry-requires
and-carry-requires g c =
    let m = g.G.Gates.calls in
    let x = c.args.x.now in
    let b = c.args.b in
    let d = c.requires.room.0 in
    let a : Carried _ = record { sums = c.places.wires.items; carry = c.places.carry } in
    let all = Affords-first m (times (length x - 1) (negate_step x b d) (record { sums = []; carry = b })) (last_negated x b d (length x - 1)) _ c.requires.room.1 in
    let turn = Affords-turn m (negate_step x b d) (record { sums = []; carry = b }) (length x - 1) c.places.i _ _ a c.places-test.true all (c.places.invariant.1 d) in
    of_one (λ y. m.has_room c.places.gates y a.carry) _ _ (c.xor-turned.ensures ∙ ap (λ u. m.xor_wire c.places.gates u b) (c.wire.ensures d)) turn.0

pub places-preserved : goal.places-preserved
places-preserved g c =
    let m = g.G.Gates.calls in
    let x = c.args.x.now in
    let b = c.args.b in
    let a : Carried _ = record { sums = c.places.wires.items; carry = c.places.carry } in (
      omega (arith, c.push.ensures.len, c.places.invariant.0),
      λ d. rw c.push.ensures.items (Plays-more m (negate_step x b d) c.places.i _ _ _ _ _ _ (c.places.invariant.1 d)
          (Plays-negate_step m x b d c.places.i a _ _ _ _ _ _ (c.wire.ensures d) c.xor-turned.ensures c.xor.ensures c.and-carry.ensures)),
    )

pub returns : goal.returns
returns g c =
    let m = g.G.Gates.calls in
    let x = c.args.x.now in
    let b = c.args.b in
    let done : c.places.i ≡ length x - 1 = omega (arith, c.places-test.false, c.places.auto.i-end) in
    let a : Carried _ = record { sums = c.places.wires.items; carry = c.places.carry } in
    record {
      plays = λ d. rw c.push-2.ensures.items (Plays-cond_negate m (length x) b x d c.places.i a _ _ _ _ _ done (c.places.invariant.1 d) (c.wire-2.ensures d) c.xor-turned-2.ensures c.xor-2.ensures);
      len = omega (arith, c.push-2.ensures.len, c.places.invariant.0, done, c.requires.some);
    }
