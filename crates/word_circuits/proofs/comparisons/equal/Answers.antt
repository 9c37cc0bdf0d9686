use Rattle.std.proofs.Common.{◌-ℤ◌, ◌++◌, length, arith, refl, sym, ap, ◌∙◌, false}
use Rattle.oc_values.specs.Integers.{number_of, is_zero}
use Rattle.word_circuits.specs.Chains.{equal_circuit}
use Rattle.word_circuits.specs.Fragments.Operation.{op_equal}
use Rattle.word_circuits.proofs.Calling.{width_pos, width_of, owed, carried_two, means_two, length-two, on_two, afforded_two, apart}
use Rattle.word_circuits.proofs.Summing.{Uniform-equal, Counted-equal}
use Rattle.word_circuits.proofs.Totals.{integer-equal}
use Rattle.word_circuits.proofs.comparisons.equal.Goals as goal

pub all_alike-requires : goal.all_alike-requires
all_alike-requires g c =
    let x = c.args.x.now in
    let y = c.args.y.now in
    let w = length x in
    let ex = c.wires.ensures.value in
    let ey = c.wires-2.ensures.value in
    let pos = width_pos w (width_of _ x ex c.wires.ensures.width) in
    let same = ap length ex ∙ c.requires.same ∙ ap length (sym ey) in
    let room = afforded_two g.G.Gates.calls g.G.Gates.made g.G.Gates.room g.met.G.Gates.counts op_equal w (λ d u v. equal_circuit (length u) u v d) _ x _ y _ (λ d. apart (λ u v. equal_circuit w u v d) x y w refl)
    ex ey refl pos refl (sym c.requires.same) (Uniform-equal w) (Counted-equal w) c.requires.room in
    record { some = width_pos _ c.wires.ensures.width; same = same; room = room }

pub returns : goal.returns
returns g c =
    let m = g.G.Gates.calls in
    let law = g.met.G.Gates.laws in
    let x = c.args.x.now in
    let y = c.args.y.now in
    let w = length x in
    let some = width_pos w (width_of _ x c.wires.ensures.value c.wires.ensures.width) in
    let same = sym c.requires.same in
    let q = on_two m op_equal w (λ d u v. equal_circuit w u v d) x y _ _ _ (λ d xs. refl) refl
    (λ d. carried_two m (λ u v. equal_circuit (length u) u v d) _ x _ y _ c.of_wire.result _ _ c.wires.ensures.value c.wires-2.ensures.value c.of_wire.ensures (c.all_alike.ensures d)) in
    let o = owed m g.G.Gates.stands g.G.Gates.made g.G.Gates.room law g.met.G.Gates.counts op_equal w (x ++ y) _ _ _ (omega (arith, some)) (length-two x y w refl same) (Uniform-equal w) (Counted-equal w) q in
    record {
      performs = o.performs;
      means = λ signed. means_two m g.G.Gates.stands law op_equal w x y _ _ _ refl same (Uniform-equal w) q signed signed false (λ a b. number_of (is_zero (a -ℤ b))) (integer-equal false signed w some);
      width = o.width;
    }
