use Rattle.std.proofs.Common.{false, length, refl}
use Rattle.gate_core.proofs.Playing.{Plays-then}
use Rattle.oc_values.specs.Integers.{number_of, is_zero}
use Rattle.word_circuits.specs.Chains.{to_bool_circuit, other_word}
use Rattle.word_circuits.specs.Fragments.Operation.{op_is_zero}
use Rattle.word_circuits.proofs.Calling.{width_pos, width_of, owed, carried_one, means_one, on_one, afforded_one}
use Rattle.word_circuits.proofs.Deriving.{Uniform-is_zero, Counted-is_zero, integer-is_zero}
use Rattle.gate_core.proofs.Affording.{Affords-first}
use Rattle.gate_core.specs.Circuit.{then}
use Rattle.word_circuits.proofs.derived.is_zero.Goals as goal

pub any_true-requires : goal.any_true-requires
any_true-requires g c =
    let x = c.args.x.now in
    let w = length x in
    let ex = c.wires.ensures.value in
    let pos = width_pos w (width_of _ x ex c.wires.ensures.width) in
    let room = afforded_one g.G.Gates.calls g.G.Gates.made g.G.Gates.room g.met.G.Gates.counts op_is_zero w (λ d u. then (to_bool_circuit (length u) u d) (other_word d)) c.wires.result.now x c.args.gates.now (λ d. refl) ex pos refl (Uniform-is_zero w) (Counted-is_zero w) c.requires in
    let first = Affords-first g.G.Gates.calls (to_bool_circuit (length c.wires.result.now) c.wires.result.now room.0) (other_word room.0) c.args.gates.now room.1 in
    record { some = width_pos _ c.wires.ensures.width; room = (room.0, first) }

pub returns : goal.returns
returns g c =
    let m = g.G.Gates.calls in
    let law = g.met.G.Gates.laws in
    let x = c.args.x.now in
    let w = length x in
    let some = width_pos w (width_of _ x c.wires.ensures.value c.wires.ensures.width) in
    let q = on_one m op_is_zero w x _ _ _
    (λ d. Plays-then m (to_bool_circuit w x d) (other_word d) c.args.gates.now c.any_true.new.gates c.any_true.new.gates c.of_wire-any.result c.other_bit.result
    (carried_one m (λ u. to_bool_circuit (length u) u d) _ x _ c.of_wire-any.result _ _ c.wires.ensures.value c.of_wire-any.ensures (c.any_true.ensures d)) (c.other_bit.ensures d)) in
    let o = owed m g.G.Gates.stands g.G.Gates.made g.G.Gates.room law g.met.G.Gates.counts op_is_zero w x _ _ _ some refl (Uniform-is_zero w) (Counted-is_zero w) q in
    record {
      performs = o.performs;
      means = λ signed. means_one m g.G.Gates.stands law op_is_zero w x _ _ _ refl (Uniform-is_zero w) q signed false (λ a. number_of (is_zero a)) (integer-is_zero false signed w some);
      width = o.width;
    }
