use Rattle.std.proofs.Common.{false, not, int_lt, ◌++◌, length, arith, refl, sym, ap, ◌∙◌, rules, subst}
use Rattle.gate_core.specs.Circuit.{Plays, then}
use Rattle.gate_core.proofs.Playing.{Plays-then}
use Rattle.oc_values.specs.Integers.{number_of}
use Rattle.word_circuits.specs.Chains.{less_circuit, other_word}
use Rattle.word_circuits.specs.Fragments.Operation.{op_less_equal}
use Rattle.word_circuits.proofs.Calling.{width_pos, width_most, width_of, owed, carried_two, means_two, length-two, on_two, afforded_two, apart}
use Rattle.word_circuits.proofs.Deriving.{Uniform-less_equal, Counted-less_equal, integer-less_equal}
use Rattle.gate_core.proofs.Affording.{Affords-first}
use Rattle.word_circuits.proofs.derived.less_equal.Goals as goal

pub less_wires-above-requires : goal.less_wires-above-requires
less_wires-above-requires g c =
    let x = c.args.x.now in
    let y = c.args.y.now in
    let w = length x in
    let ey = c.wires.ensures.value in
    let ex = c.wires-2.ensures.value in
    let pos = width_pos w (width_of _ x ex c.wires-2.ensures.width) in
    let same = ap length ey ∙ sym c.requires.same ∙ ap length (sym ex) in
    let room = afforded_two g.G.Gates.calls g.G.Gates.made g.G.Gates.room g.met.G.Gates.counts (op_less_equal c.args.signed) w (λ d u v. then (less_circuit c.args.signed (length v) v u) (other_word d)) c.wires-2.result.now x c.wires.result.now y c.args.gates.now
    (λ d. apart (λ u v. then (less_circuit c.args.signed w v u) (other_word d)) x y w refl ∙ ap (λ n. then (less_circuit c.args.signed n y x) (other_word d)) c.requires.same) ex ey refl pos refl (sym c.requires.same) (Uniform-less_equal c.args.signed w) (Counted-less_equal c.args.signed w pos) c.requires.room in
    (search rules, (width_pos _ c.wires.ensures.width, (same, (width_most _ c.wires.ensures.width, Affords-first g.G.Gates.calls (less_circuit c.args.signed (length c.wires.result.now) c.wires.result.now c.wires-2.result.now) (other_word room.0) c.args.gates.now room.1))))

pub returns : goal.returns
returns g c =
    let m = g.G.Gates.calls in
    let law = g.met.G.Gates.laws in
    let signed = c.args.signed in
    let x = c.args.x.now in
    let y = c.args.y.now in
    let w = length x in
    let some = width_pos w (width_of _ x c.wires-2.ensures.value c.wires-2.ensures.width) in
    let same = sym c.requires.same in
    let q = on_two m (op_less_equal signed) w (λ d u v. then (less_circuit signed w v u) (other_word d)) x y _ _ _ (λ d xs. refl) refl
    (λ d. Plays-then m (less_circuit signed w y x) (other_word d) c.args.gates.now c.less_wires-above.new.gates c.less_wires-above.new.gates c.less_wires-above.result c.other_bit.result
    (subst (λ n. Plays m (less_circuit signed n y x) c.args.gates.now c.less_wires-above.result c.less_wires-above.new.gates) same
    (carried_two m (λ u v. less_circuit signed (length u) u v) _ y _ x _ c.less_wires-above.result _ _ c.wires.ensures.value c.wires-2.ensures.value refl c.less_wires-above.ensures)) (c.other_bit.ensures d)) in
    let o = owed m g.G.Gates.stands g.G.Gates.made g.G.Gates.room law g.met.G.Gates.counts (op_less_equal signed) w (x ++ y) _ _ _ (omega (arith, some)) (length-two x y w refl same) (Uniform-less_equal signed w) (Counted-less_equal signed w some) q in
    record {
      performs = o.performs;
      means = means_two m g.G.Gates.stands law (op_less_equal signed) w x y _ _ _ refl same (Uniform-less_equal signed w) q signed signed false (λ a b. number_of (not (int_lt b a))) (integer-less_equal false signed w some);
      width = o.width;
    }
