use Rattle.std.proofs.Common.{◌-◌, ◌++◌, length, take, replicate, refl, ap, ◌∙◌, rules}
use Rattle.oc_values.specs.Integers.{wrap_bits}
use Rattle.word_circuits.specs.Fragments.Operation.{op_resize}
use Rattle.word_circuits.proofs.Calling.{width_pos, width_most, width_of, owed, means_one, on_one}
use Rattle.word_circuits.proofs.Selecting.{Uniform-resize, Counted-resize}
use Rattle.word_circuits.proofs.Shifting.{integer-resize, Plays-resize}
use Rattle.word_circuits.proofs.shifts.resize.Goals as goal

pub moved_in-filler-requires : goal.moved_in-filler-requires
moved_in-filler-requires g c = width_pos _ c.wires-wires.ensures.width

pub resized-requires : goal.resized-requires
resized-requires g c = (search rules, (width_most _ c.wires-wires.ensures.width, rw c.from.ensures (width_most c.args.width c.requires.width)))

pub of_array-requires : goal.of_array-requires
of_array-requires g c = (search rules, (search rules, rw (c.resized.ensures.len, c.from.ensures) c.requires.width))

pub returns : goal.returns
returns g c =
    let m = g.G.Gates.calls in
    let law = g.met.G.Gates.laws in
    let counts = g.met.G.Gates.counts in
    let x = c.args.x.now in
    let w = length x in
    let some = width_pos w (width_of _ x c.wires-wires.ensures.value c.wires-wires.ensures.width) in
    let signed = c.args.signed in
    let v = c.args.width in
    let q = on_one m (op_resize v signed) w x _ _ _ (λ d. Plays-resize m signed v w c.wires-wires.result.now x c.known-zero.result c.moved_in-filler.result c.resized.result.items c.of_array.result _
    c.known-zero.ensures c.wires-wires.ensures.value refl c.moved_in-filler.ensures (c.resized.ensures.items ∙ ap (λ n. take n c.wires-wires.result.now ++ replicate (n - length c.wires-wires.result.now) c.moved_in-filler.result) c.from.ensures) c.of_array.ensures) in
    let o = owed m g.G.Gates.stands g.G.Gates.made g.G.Gates.room law counts (op_resize v signed) w x _ _ _ some refl (Uniform-resize v signed w) (Counted-resize v signed w) q in
    record {
      performs = o.performs;
      means = λ kind. means_one m g.G.Gates.stands law (op_resize v signed) w x _ _ _ refl (Uniform-resize v signed w) q signed kind (λ a. wrap_bits kind v a) (integer-resize signed kind v w some);
      width = o.width;
    }
