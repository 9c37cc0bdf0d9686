use Rattle.std.proofs.Common.{false, not, ◌-ℤ◌, ◌++◌, length, arith, refl, sym, ap, ◌∙◌}
use Rattle.gate_core.specs.Circuit.{then}
use Rattle.gate_core.proofs.Playing.{Plays-then}
use Rattle.oc_values.specs.Integers.{number_of, is_zero}
use Rattle.word_circuits.specs.Chains.{equal_circuit, other_word}
use Rattle.word_circuits.specs.Fragments.Operation.{op_unequal}
use Rattle.word_circuits.proofs.Calling.{width_pos, width_of, owed, carried_two, means_two, length-two, on_two, afforded_two, apart}
use Rattle.word_circuits.proofs.Deriving.{Uniform-unequal, Counted-unequal, integer-unequal}
use Rattle.gate_core.proofs.Affording.{Affords-first}
use Rattle.word_circuits.proofs.derived.unequal.Goals as goal

pub all_alike-requires : goal.all_alike-requires
all_alike-requires g c =
    let x = c.args.x.now in
    let y = c.args.y.now in
    let w = length x in
    let ex = c.wires.ensures.value in
    let ey = c.wires-2.ensures.value in
    let pos = width_pos w (width_of _ x ex c.wires.ensures.width) in
    let same = ap length ex ∙ c.requires.same ∙ ap length (sym ey) in
    let room = afforded_two g.G.Gates.calls g.G.Gates.made g.G.Gates.room g.met.G.Gates.counts op_unequal w (λ d u v. then (equal_circuit (length u) u v d) (other_word d)) _ x _ y _ (λ d. apart (λ u v. then (equal_circuit w u v d) (other_word d)) x y w refl)
    ex ey refl pos refl (sym c.requires.same) (Uniform-unequal w) (Counted-unequal w) c.requires.room in
    let first = Affords-first g.G.Gates.calls (equal_circuit (length c.wires.result.now) c.wires.result.now c.wires-2.result.now room.0) (other_word room.0) c.args.gates.now room.1 in
    record { some = width_pos _ c.wires.ensures.width; same = same; room = (room.0, first) }

pub returns : goal.returns
returns g c =
    let m = g.G.Gates.calls in
    let law = g.met.G.Gates.laws in
    let x = c.args.x.now in
    let y = c.args.y.now in
    let w = length x in
    let some = width_pos w (width_of _ x c.wires.ensures.value c.wires.ensures.width) in
    let same = sym c.requires.same in
    let q = on_two m op_unequal w (λ d u v. then (equal_circuit w u v d) (other_word d)) x y _ _ _ (λ d xs. refl) refl
    (λ d. Plays-then m (equal_circuit w x y d) (other_word d) c.args.gates.now c.all_alike.new.gates c.all_alike.new.gates c.of_wire-all.result c.other_bit.result
    (carried_two m (λ u v. equal_circuit (length u) u v d) _ x _ y _ c.of_wire-all.result _ _ c.wires.ensures.value c.wires-2.ensures.value c.of_wire-all.ensures (c.all_alike.ensures d)) (c.other_bit.ensures d)) in
    let o = owed m g.G.Gates.stands g.G.Gates.made g.G.Gates.room law g.met.G.Gates.counts op_unequal w (x ++ y) _ _ _ (omega (arith, some)) (length-two x y w refl same) (Uniform-unequal w) (Counted-unequal w) q in
    record {
      performs = o.performs;
      means = λ kind. means_two m g.G.Gates.stands law op_unequal w x y _ _ _ refl same (Uniform-unequal w) q kind kind false (λ a b. number_of (not (is_zero (a -ℤ b)))) (integer-unequal false kind w some);
      width = o.width;
    }
