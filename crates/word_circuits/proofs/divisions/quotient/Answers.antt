use Rattle.std.proofs.Common.{false, ◌++◌, length, arith, refl, sym, ap, ◌∙◌, rules}
use Rattle.oc_values.specs.Integers.{wrap_bits, quotient}
use Rattle.word_circuits.specs.Divisions.{quotient_circuit}
use Rattle.word_circuits.specs.Fragments.Operation.{op_quotient}
use Rattle.word_circuits.proofs.Calling.{width_pos, width_most, width_of, owed, carried_two, means_two, length-two, on_two, afforded_two, apart}
use Rattle.word_circuits.proofs.DividingPairs.{Uniform-quotient, Counted-quotient}
use Rattle.word_circuits.proofs.Signing.{integer-quotient}
use Rattle.word_circuits.proofs.divisions.quotient.Goals as goal

pub quotient_wires-requires : goal.quotient_wires-requires
quotient_wires-requires g c =
    let x = c.args.x.now in
    let y = c.args.y.now in
    let w = length x in
    let ex = c.wires.ensures.value in
    let ey = c.wires-2.ensures.value in
    let pos = width_pos w (width_of _ x ex c.wires.ensures.width) in
    let same = ap length ex ∙ c.requires.same ∙ ap length (sym ey) in
    let room = afforded_two g.G.Gates.calls g.G.Gates.made g.G.Gates.room g.met.G.Gates.counts (op_quotient c.args.signed) w (λ d u v. quotient_circuit c.args.signed (length u) u v d) _ x _ y _ (λ d. apart (λ u v. quotient_circuit c.args.signed w u v d) x y w refl)
    ex ey refl pos refl (sym c.requires.same) (Uniform-quotient c.args.signed w) (Counted-quotient c.args.signed w pos) c.requires.room in
    (search rules, (width_pos _ c.wires.ensures.width, (same, (width_most _ c.wires.ensures.width, room))))

pub returns : goal.returns
returns g c =
    let m = g.G.Gates.calls in
    let law = g.met.G.Gates.laws in
    let x = c.args.x.now in
    let y = c.args.y.now in
    let signed = c.args.signed in
    let w = length x in
    let some = width_pos w (width_of _ x c.wires.ensures.value c.wires.ensures.width) in
    let same = sym c.requires.same in
    let q = on_two m (op_quotient signed) w (λ d u v. quotient_circuit signed w u v d) x y _ _ _ (λ d xs. refl) refl
    (λ d. carried_two m (λ u v. quotient_circuit signed (length u) u v d) _ x _ y _ c.of_array.result _ _ c.wires.ensures.value c.wires-2.ensures.value c.of_array.ensures (c.quotient_wires.ensures.plays d)) in
    let o = owed m g.G.Gates.stands g.G.Gates.made g.G.Gates.room law g.met.G.Gates.counts (op_quotient signed) w (x ++ y) _ _ _ (omega (arith, some)) (length-two x y w refl same) (Uniform-quotient signed w) (Counted-quotient signed w some) q in
    record {
      performs = o.performs;
      means = means_two m g.G.Gates.stands law (op_quotient signed) w x y _ _ _ refl same (Uniform-quotient signed w) q signed signed signed (λ a b. wrap_bits signed w (quotient signed a b)) (integer-quotient false signed w some);
      width = o.width;
    }
