use Rattle.std.proofs.Common.{false, not, int_lt, ◌++◌, length, arith, refl, sym, ap, ◌∙◌, rules}
use Rattle.gate_core.specs.Circuit.{then}
use Rattle.gate_core.proofs.Playing.{Plays-then}
use Rattle.oc_values.specs.Integers.{number_of}
use Rattle.word_circuits.specs.Chains.{less_circuit, other_word}
use Rattle.word_circuits.specs.Fragments.Operation.{op_greater_equal}
use Rattle.word_circuits.proofs.Calling.{width_pos, width_most, width_of, owed, carried_two, means_two, length-two, on_two, afforded_two, apart}
use Rattle.word_circuits.proofs.Deriving.{Uniform-greater_equal, Counted-greater_equal, integer-greater_equal}
use Rattle.gate_core.proofs.Affording.{Affords-first}
use Rattle.word_circuits.proofs.derived.greater_equal.Goals as goal

pub less_wires-below-requires : goal.less_wires-below-requires
less_wires-below-requires g c =
    let x = c.args.x.now in
    let y = c.args.y.now in
    let w = length x in
    let ex = c.wires.ensures.value in
    let ey = c.wires-2.ensures.value in
    let pos = width_pos w (width_of _ x ex c.wires.ensures.width) in
    let same = ap length ex ∙ c.requires.same ∙ ap length (sym ey) in
    let room = afforded_two g.G.Gates.calls g.G.Gates.made g.G.Gates.room g.met.G.Gates.counts (op_greater_equal c.args.signed) w (λ d u v. then (less_circuit c.args.signed (length u) u v) (other_word d)) _ x _ y _ (λ d. apart (λ u v. then (less_circuit c.args.signed w u v) (other_word d)) x y w refl)
    ex ey refl pos refl (sym c.requires.same) (Uniform-greater_equal c.args.signed w) (Counted-greater_equal c.args.signed w pos) c.requires.room in
    let first = Affords-first g.G.Gates.calls (less_circuit c.args.signed (length c.wires.result.now) c.wires.result.now c.wires-2.result.now) (other_word room.0) c.args.gates.now room.1 in
    (search rules, (width_pos _ c.wires.ensures.width, (same, (width_most _ c.wires.ensures.width, first))))

pub returns : goal.returns
returns g c =
    let m = g.G.Gates.calls in
    let law = g.met.G.Gates.laws in
    let signed = c.args.signed in
    let x = c.args.x.now in
    let y = c.args.y.now in
    let w = length x in
    let some = width_pos w (width_of _ x c.wires.ensures.value c.wires.ensures.width) in
    let same = sym c.requires.same in
    let q = on_two m (op_greater_equal signed) w (λ d u v. then (less_circuit signed w u v) (other_word d)) x y _ _ _ (λ d xs. refl) refl
    (λ d. Plays-then m (less_circuit signed w x y) (other_word d) c.args.gates.now c.less_wires-below.new.gates c.less_wires-below.new.gates c.less_wires-below.result c.other_bit.result
    (carried_two m (λ u v. less_circuit signed (length u) u v) _ x _ y _ c.less_wires-below.result _ _ c.wires.ensures.value c.wires-2.ensures.value refl c.less_wires-below.ensures) (c.other_bit.ensures d)) in
    let o = owed m g.G.Gates.stands g.G.Gates.made g.G.Gates.room law g.met.G.Gates.counts (op_greater_equal signed) w (x ++ y) _ _ _ (omega (arith, some)) (length-two x y w refl same) (Uniform-greater_equal signed w) (Counted-greater_equal signed w some) q in
    record {
      performs = o.performs;
      means = means_two m g.G.Gates.stands law (op_greater_equal signed) w x y _ _ _ refl same (Uniform-greater_equal signed w) q signed signed false (λ a b. number_of (not (int_lt a b))) (integer-greater_equal false signed w some);
      width = o.width;
    }
