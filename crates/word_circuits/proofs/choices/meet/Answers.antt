use Rattle.std.proofs.Common.{false, bit_and, ◌++◌, length, arith, refl, sym, ap, ◌∙◌, rules}
use Rattle.oc_values.specs.Integers.{combine_bits}
use Rattle.word_circuits.specs.Choices.{meet_circuit}
use Rattle.word_circuits.specs.Fragments.Operation.{op_meet}
use Rattle.word_circuits.proofs.Calling.{width_pos, width_most, width_of, owed, carried_two, means_two, length-two, on_two, afforded_two, apart}
use Rattle.word_circuits.proofs.Selecting.{Uniform-meet, Counted-meet}
use Rattle.word_circuits.proofs.Selecting.{integer-meet}
use Rattle.word_circuits.proofs.choices.meet.Goals as goal

pub meet_wires-requires : goal.meet_wires-requires
meet_wires-requires g c =
    let x = c.args.x.now in
    let y = c.args.y.now in
    let w = length x in
    let ex = c.wires.ensures.value in
    let ey = c.wires-2.ensures.value in
    let pos = width_pos w (width_of _ x ex c.wires.ensures.width) in
    let same = ap length ex ∙ c.requires.same ∙ ap length (sym ey) in
    let room = afforded_two g.G.Gates.calls g.G.Gates.made g.G.Gates.room g.met.G.Gates.counts op_meet w (λ d u v. meet_circuit (length u) u v d) _ x _ y _ (λ d. apart (λ u v. meet_circuit w u v d) x y w refl)
    ex ey refl pos refl (sym c.requires.same) (Uniform-meet w) (Counted-meet w) c.requires.room in
    (search rules, (same, (width_most _ c.wires.ensures.width, room)))

pub returns : goal.returns
returns g c =
    let m = g.G.Gates.calls in
    let law = g.met.G.Gates.laws in
    let x = c.args.x.now in
    let y = c.args.y.now in
    let w = length x in
    let some = width_pos w (width_of _ x c.wires.ensures.value c.wires.ensures.width) in
    let same = sym c.requires.same in
    let q = on_two m op_meet w (λ d u v. meet_circuit w u v d) x y _ _ _ (λ d xs. refl) refl
    (λ d. carried_two m (λ u v. meet_circuit (length u) u v d) _ x _ y _ c.of_array.result _ _ c.wires.ensures.value c.wires-2.ensures.value c.of_array.ensures (c.meet_wires.ensures.plays d)) in
    let o = owed m g.G.Gates.stands g.G.Gates.made g.G.Gates.room law g.met.G.Gates.counts op_meet w (x ++ y) _ _ _ (omega (arith, some)) (length-two x y w refl same) (Uniform-meet w) (Counted-meet w) q in
    record {
      performs = o.performs;
      means = λ signed. means_two m g.G.Gates.stands law op_meet w x y _ _ _ refl same (Uniform-meet w) q signed signed signed (λ a b. combine_bits signed w bit_and a b) (integer-meet false signed w some);
      width = o.width;
    }
