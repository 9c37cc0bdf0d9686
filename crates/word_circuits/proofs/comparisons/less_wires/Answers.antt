use Rattle.std.proofs.Common.{length, arith, sym, ap, rules, subst}
use Rattle.gate_core.specs.Circuit.{Plays}
use Rattle.word_circuits.specs.Chains.{Carried, biased}
use Rattle.word_circuits.proofs.AddingPlays.{Plays-less}
use Rattle.word_circuits.proofs.Affording.{Affords-less}
use Rattle.word_circuits.proofs.comparisons.less_wires.Goals as goal

pub flip_wires-flipped-requires : goal.flip_wires-flipped-requires
flip_wires-flipped-requires g c =
    let l = ap length c.as_slice.ensures.value in
    (search rules, (omega (arith, l, c.biased-right.ensures.len, c.requires.same), c.requires.fits))

pub chain-chained-requires : goal.chain-chained-requires
chain-chained-requires g c =
    let m = g.G.Gates.calls in
    let x = c.args.x.now in
    let y = c.args.y.now in
    let high = c.known-one.result in
    let signed = c.args.signed in
    let s = c.args.gates.now in
    let l = ap length c.as_slice-2.ensures.value in
    let k = ap length c.as_slice-3.ensures.value in
    let right = subst (λ n. Plays m (biased signed n y high) s c.biased-right.result.items s) (sym c.requires.same) (c.biased-right.ensures.plays high) in
    let room = Affords-less m signed (length x) x y high c.biased-left.result.items c.biased-right.result.items c.flip_wires-flipped.result.items c.as_slice.result.now c.as_slice-2.result.now c.as_slice-3.result.now s
    c.known-one.ensures c.as_slice.ensures.value c.as_slice-2.ensures.value c.as_slice-3.ensures.value (c.biased-left.ensures.plays high) right (c.flip_wires-flipped.ensures.plays high) c.requires.room in
    (search rules, (omega (arith, l, c.biased-left.ensures.len), (omega (arith, k, c.flip_wires-flipped.ensures.len), (c.requires.fits, (high, room)))))

pub returns : goal.returns
returns g c =
    let m = g.G.Gates.calls in
    let x = c.args.x.now in
    let y = c.args.y.now in
    let w = length x in
    let high = c.known-one.result in
    let signed = c.args.signed in
    let s = c.args.gates.now in
    let a : Carried _ = record { sums = c.chain-chained.result.0.items; carry = c.chain-chained.result.1 } in
    let right = subst (λ n. Plays m (biased signed n y high) s c.biased-right.result.items s) (sym c.requires.same) (c.biased-right.ensures.plays high) in
    rw c.of_wire.ensures (Plays-less m signed w x y high c.biased-left.result.items c.biased-right.result.items c.flip_wires-flipped.result.items c.as_slice.result.now c.as_slice-2.result.now c.as_slice-3.result.now a s c.chain-chained.new.gates c.not.result
    c.known-one.ensures c.as_slice.ensures.value c.as_slice-2.ensures.value c.as_slice-3.ensures.value (c.biased-left.ensures.plays high) right (c.flip_wires-flipped.ensures.plays high) (c.chain-chained.ensures.plays high) c.not.ensures)
