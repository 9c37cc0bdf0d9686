use Rattle.std.proofs.Common.{false, negsuc, ◌-ℤ◌, length, arith, refl, ap, rules, subst}
use Rattle.gate_core.specs.Circuit.{Plays}
use Rattle.oc_values.specs.Integers.{wrap_bits}
use Rattle.word_circuits.specs.Chains.{flips}
use Rattle.word_circuits.specs.Fragments.Operation.{op_flip}
use Rattle.word_circuits.proofs.Calling.{width_pos, width_most, width_of, owed, carried_one, means_one, on_one}
use Rattle.word_circuits.proofs.Selecting.{Uniform-flip, Counted-flip, integer-flip}
use Rattle.word_circuits.proofs.choices.flip.Goals as goal

pub flip_wires-requires : goal.flip_wires-requires
flip_wires-requires g c =
    let x = ap length c.wires.ensures.value in
    (search rules, (omega (arith, x, c.width.ensures.value), width_most _ c.width.ensures.width))

pub returns : goal.returns
returns g c =
    let m = g.G.Gates.calls in
    let law = g.met.G.Gates.laws in
    let counts = g.met.G.Gates.counts in
    let x = c.args.x.now in
    let w = length x in
    let some = width_pos w (width_of _ x c.wires.ensures.value c.wires.ensures.width) in
    let q = on_one m op_flip w x _ _ _ (λ d. subst (λ n. Plays m (flips x d n) c.args.gates.now c.of_array.result c.args.gates.now) c.width.ensures.value
    (carried_one m (λ u. flips u d c.width.result) _ x _ c.of_array.result _ _ c.wires.ensures.value c.of_array.ensures (c.flip_wires.ensures.plays d))) in
    let o = owed m g.G.Gates.stands g.G.Gates.made g.G.Gates.room law counts op_flip w x _ _ _ some refl (Uniform-flip w) (Counted-flip w) q in
    record {
      performs = o.performs;
      means = λ signed. means_one m g.G.Gates.stands law op_flip w x _ _ _ refl (Uniform-flip w) q signed signed (λ a. wrap_bits signed w (negsuc 0 -ℤ a)) (integer-flip false signed w some);
      width = o.width;
    }
