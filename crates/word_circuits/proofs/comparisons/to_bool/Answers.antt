use Rattle.std.proofs.Common.{length, refl, false, not}
use Rattle.oc_values.specs.Integers.{number_of, is_zero}
use Rattle.word_circuits.specs.Chains.{to_bool_circuit}
use Rattle.word_circuits.specs.Fragments.Operation.{op_to_bool}
use Rattle.word_circuits.proofs.Calling.{width_pos, width_of, owed, carried_one, means_one, on_one, afforded_one}
use Rattle.word_circuits.proofs.Summing.{Uniform-to_bool, Counted-to_bool}
use Rattle.word_circuits.proofs.Totals.{integer-to_bool}
use Rattle.word_circuits.proofs.comparisons.to_bool.Goals as goal

pub any_true-requires : goal.any_true-requires
any_true-requires g c =
    let x = c.args.x.now in
    let w = length x in
    let ex = c.wires.ensures.value in
    let pos = width_pos w (width_of _ x ex c.wires.ensures.width) in
    let room = afforded_one g.G.Gates.calls g.G.Gates.made g.G.Gates.room g.met.G.Gates.counts op_to_bool w (λ d u. to_bool_circuit (length u) u d) c.wires.result.now x c.args.gates.now (λ d. refl) ex pos refl (Uniform-to_bool w) (Counted-to_bool w) c.requires in
    record { some = width_pos _ c.wires.ensures.width; room = room }

pub returns : goal.returns
returns g c =
    let m = g.G.Gates.calls in
    let law = g.met.G.Gates.laws in
    let x = c.args.x.now in
    let w = length x in
    let some = width_pos w (width_of _ x c.wires.ensures.value c.wires.ensures.width) in
    let q = on_one m op_to_bool w x _ _ _ (λ d. carried_one m (λ u. to_bool_circuit (length u) u d) _ x _ c.of_wire.result _ _ c.wires.ensures.value c.of_wire.ensures (c.any_true.ensures d)) in
    let o = owed m g.G.Gates.stands g.G.Gates.made g.G.Gates.room law g.met.G.Gates.counts op_to_bool w x _ _ _ some refl (Uniform-to_bool w) (Counted-to_bool w) q in
    record {
      performs = o.performs;
      means = λ signed. means_one m g.G.Gates.stands law op_to_bool w x _ _ _ refl (Uniform-to_bool w) q signed false (λ a. number_of (not (is_zero a))) (integer-to_bool false signed w some);
      width = o.width;
    }
