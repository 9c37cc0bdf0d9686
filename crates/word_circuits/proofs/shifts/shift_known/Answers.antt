use Rattle.std.proofs.Common.{◌%◌, length, arith, refl, ap, ◌∙◌, rules}
use Rattle.oc_values.specs.Integers.{wrap_bits}
use Rattle.word_circuits.specs.Integers.{shift}
use Rattle.word_circuits.specs.Fragments.Operation.{op_shift_known}
use Rattle.std.proofs.lemmas.Nat.{mod_below}
use Rattle.word_circuits.proofs.Calling.{width_pos, width_most, width_of, owed, means_one, on_one}
use Rattle.word_circuits.proofs.Selecting.{Uniform-shift_known, Counted-shift_known}
use Rattle.word_circuits.proofs.Shifting.{integer-shift_known, Plays-shift_known}
use Rattle.word_circuits.proofs.shifts.shift_known.Goals as goal

pub moved_in-filler-requires : goal.moved_in-filler-requires
moved_in-filler-requires g c = width_pos _ c.wires-wires.ensures.width

pub moved-requires : goal.moved-requires
moved-requires g c =
    let some = width_pos c.width.result c.width.ensures.width in
    let b = mod_below c.from.result c.width.result some in
    let x = ap length c.wires-wires.ensures.value in
    (search rules, (omega (arith, b, x, c.width.ensures.value), width_most _ c.wires-wires.ensures.width))

pub returns : goal.returns
returns g c =
    let m = g.G.Gates.calls in
    let law = g.met.G.Gates.laws in
    let counts = g.met.G.Gates.counts in
    let x = c.args.x.now in
    let w = length x in
    let some = width_pos w (width_of _ x c.wires-wires.ensures.value c.wires-wires.ensures.width) in
    let left = c.args.left in
    let signed = c.args.signed in
    let k = c.args.amount in
    let q = on_one m (op_shift_known k left signed) w x _ _ _ (λ d. Plays-shift_known m left signed w k c.wires-wires.result.now x c.known-zero.result c.moved_in-filler.result (c.from.result % c.width.result) c.moved.result.items c.of_array.result _
    c.known-zero.ensures c.wires-wires.ensures.value refl c.moved_in-filler.ensures (ap (λ n. n % c.width.result) c.from.ensures ∙ ap (λ n. k % n) c.width.ensures.value) c.moved.ensures.items c.of_array.ensures) in
    let o = owed m g.G.Gates.stands g.G.Gates.made g.G.Gates.room law counts (op_shift_known k left signed) w x _ _ _ some refl (Uniform-shift_known k left signed w) (Counted-shift_known k left signed w some) q in
    record {
      performs = o.performs;
      means = means_one m g.G.Gates.stands law (op_shift_known k left signed) w x _ _ _ refl (Uniform-shift_known k left signed w) q signed signed (λ a. wrap_bits signed w (shift left a (k % w))) (integer-shift_known left signed w k some);
      width = o.width;
    }
