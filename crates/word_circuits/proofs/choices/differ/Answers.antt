use Rattle.std.proofs.Common.{false, bit_xor, ◌++◌, length, arith, refl, sym, ap, ◌∙◌, rules}
use Rattle.oc_values.specs.Integers.{combine_bits}
use Rattle.word_circuits.specs.Choices.{differ_circuit}
use Rattle.word_circuits.specs.Fragments.Operation.{op_differ}
use Rattle.word_circuits.proofs.Calling.{width_pos, width_most, width_of, owed, carried_two, means_two, length-two, on_two}
use Rattle.word_circuits.proofs.Selecting.{Uniform-differ, Counted-differ}
use Rattle.word_circuits.proofs.Selecting.{integer-differ}
use Rattle.word_circuits.proofs.choices.differ.Goals as goal

pub differ_wires-requires : goal.differ_wires-requires
differ_wires-requires g c =
    let x = c.wires.ensures.value in
    let y = c.wires-2.ensures.value in
    (search rules, (ap length x ∙ c.requires.same ∙ ap length (sym y), width_most _ c.wires.ensures.width))

pub returns : goal.returns
returns g c =
    let m = g.G.Gates.calls in
    let law = g.met.G.Gates.laws in
    let x = c.args.x.now in
    let y = c.args.y.now in
    let w = length x in
    let some = width_pos w (width_of _ x c.wires.ensures.value c.wires.ensures.width) in
    let same = sym c.requires.same in
    let q = on_two m op_differ w (λ d u v. differ_circuit w u v d) x y _ _ _ (λ d xs. refl) refl
    (λ d. carried_two m (λ u v. differ_circuit (length u) u v d) _ x _ y _ c.of_array.result _ _ c.wires.ensures.value c.wires-2.ensures.value c.of_array.ensures (c.differ_wires.ensures.plays d)) in
    let o = owed m g.G.Gates.stands g.G.Gates.made g.G.Gates.room law g.met.G.Gates.counts op_differ w (x ++ y) _ _ _ (omega (arith, some)) (length-two x y w refl same) (Uniform-differ w) (Counted-differ w) q in
    record {
      performs = o.performs;
      means = λ signed. means_two m g.G.Gates.stands law op_differ w x y _ _ _ refl same (Uniform-differ w) q signed signed signed (λ a b. combine_bits signed w bit_xor a b) (integer-differ false signed w some);
      width = o.width;
    }
