use Rattle.std.proofs.Common.{◌++◌, length, arith, refl, sym, ap, ◌∙◌, rules}
use Rattle.oc_values.specs.Integers.{wrap_bits, shift_amount}
use Rattle.word_circuits.specs.Integers.{shift}
use Rattle.word_circuits.specs.Choices.{shift_word_circuit}
use Rattle.word_circuits.specs.Fragments.Operation.{op_shift_word}
use Rattle.word_circuits.proofs.Calling.{width_pos, width_of, owed, carried_two, means_two, length-two, on_two, afforded_two, apart}
use Rattle.word_circuits.proofs.Selecting.{Uniform-shift_word, Counted-shift_word}
use Rattle.word_circuits.proofs.Selecting.{integer-shift_two}
use Rattle.word_circuits.proofs.shifts.shift_word.Goals as goal

pub shift_wires-requires : goal.shift_wires-requires
shift_wires-requires g c =
    let x = c.args.x.now in
    let y = c.args.amount.now in
    let w = length x in
    let ex = c.wires.ensures.value in
    let ey = c.wires-2.ensures.value in
    let pos = width_pos w (width_of _ x ex c.wires.ensures.width) in
    let same = ap length ex ∙ c.requires.same ∙ ap length (sym ey) in
    let room = afforded_two g.G.Gates.calls g.G.Gates.made g.G.Gates.room g.met.G.Gates.counts (op_shift_word c.args.left c.args.signed) w (λ d u v. shift_word_circuit c.args.left c.args.signed (length u) u v) _ x _ y _ (λ d. apart (λ u v. shift_word_circuit c.args.left c.args.signed w u v) x y w refl)
    ex ey refl pos refl (sym c.requires.same) (Uniform-shift_word c.args.left c.args.signed w) (Counted-shift_word c.args.left c.args.signed w) c.requires.room in
    (search rules, (c.wires.ensures.width, (same, room.1)))

pub returns : goal.returns
returns g c =
    let m = g.G.Gates.calls in
    let law = g.met.G.Gates.laws in
    let x = c.args.x.now in
    let y = c.args.amount.now in
    let left = c.args.left in
    let signed = c.args.signed in
    let w = length x in
    let wide = width_of _ x c.wires.ensures.value c.wires.ensures.width in
    let some = width_pos w wide in
    let same = sym c.requires.same in
    let q = on_two m (op_shift_word left signed) w (λ d u v. shift_word_circuit left signed w u v) x y _ _ _ (λ d xs. refl) refl
    (λ d. carried_two m (λ u v. shift_word_circuit left signed (length u) u v) _ x _ y _ c.of_array.result _ _ c.wires.ensures.value c.wires-2.ensures.value c.of_array.ensures c.shift_wires.ensures.plays) in
    let o = owed m g.G.Gates.stands g.G.Gates.made g.G.Gates.room law g.met.G.Gates.counts (op_shift_word left signed) w (x ++ y) _ _ _ (omega (arith, some)) (length-two x y w refl same) (Uniform-shift_word left signed w) (Counted-shift_word left signed w) q in
    record {
      performs = o.performs;
      means = λ kind. means_two m g.G.Gates.stands law (op_shift_word left signed) w x y _ _ _ refl same (Uniform-shift_word left signed w) q signed kind signed (λ a b. wrap_bits signed w (shift left a (shift_amount w b))) (integer-shift_two left signed kind w wide some);
      width = o.width;
    }
