use Rattle.std.proofs.Common.{int_lt, ◌++◌, length, arith, refl, sym, ap, ◌∙◌, rules, false}
use Rattle.oc_values.specs.Integers.{number_of}
use Rattle.word_circuits.specs.Chains.{less_circuit}
use Rattle.word_circuits.specs.Fragments.Operation.{op_less}
use Rattle.word_circuits.proofs.Calling.{width_pos, width_most, width_of, owed, carried_two, means_two, length-two, on_two, afforded_two, apart}
use Rattle.word_circuits.proofs.Summing.{Uniform-less, Counted-less}
use Rattle.word_circuits.proofs.Totals.{integer-less}
use Rattle.word_circuits.proofs.comparisons.less.Goals as goal

pub less_wires-requires : goal.less_wires-requires
less_wires-requires g c =
    let x = c.args.x.now in
    let y = c.args.y.now in
    let w = length x in
    let ex = c.wires.ensures.value in
    let ey = c.wires-2.ensures.value in
    let pos = width_pos w (width_of _ x ex c.wires.ensures.width) in
    let same = ap length ex ∙ c.requires.same ∙ ap length (sym ey) in
    let room = afforded_two g.G.Gates.calls g.G.Gates.made g.G.Gates.room g.met.G.Gates.counts (op_less c.args.signed) w (λ d u v. less_circuit c.args.signed (length u) u v) _ x _ y _ (λ d. apart (λ u v. less_circuit c.args.signed w u v) x y w refl)
    ex ey refl pos refl (sym c.requires.same) (Uniform-less c.args.signed w) (Counted-less c.args.signed w pos) c.requires.room in
    (search rules, (width_pos _ c.wires.ensures.width, (same, (width_most _ c.wires.ensures.width, room.1))))

pub returns : goal.returns
returns g c =
    let m = g.G.Gates.calls in
    let law = g.met.G.Gates.laws in
    let x = c.args.x.now in
    let y = c.args.y.now in
    let w = length x in
    let some = width_pos w (width_of _ x c.wires.ensures.value c.wires.ensures.width) in
    let same = sym c.requires.same in
    let q = on_two m (op_less c.args.signed) w (λ d u v. less_circuit c.args.signed w u v) x y _ _ _ (λ d xs. refl) refl
    (λ d. carried_two m (λ u v. less_circuit c.args.signed (length u) u v) _ x _ y _ _ _ _ c.wires.ensures.value c.wires-2.ensures.value refl c.less_wires.ensures) in
    let o = owed m g.G.Gates.stands g.G.Gates.made g.G.Gates.room law g.met.G.Gates.counts (op_less c.args.signed) w (x ++ y) _ _ _ (omega (arith, some)) (length-two x y w refl same) (Uniform-less c.args.signed w) (Counted-less c.args.signed w some) q in
    record {
      performs = o.performs;
      means = means_two m g.G.Gates.stands law (op_less c.args.signed) w x y _ _ _ refl same (Uniform-less c.args.signed w) q c.args.signed c.args.signed false (λ a b. number_of (int_lt a b)) (integer-less c.args.signed w some);
      width = o.width;
    }
