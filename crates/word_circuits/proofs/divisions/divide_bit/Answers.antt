use Rattle.std.proofs.Common.{◌-◌, ◌∷◌, length, arith, refl, sym, ap, ◌∙◌, rules}
use Rattle.std.proofs.lemmas.List.{length-take-le}
use Rattle.word_circuits.proofs.DividingPlays.{Plays-divide_bit_top}
use Rattle.word_circuits.proofs.Affording.{Affords-divide_chain, Affords-divide_top, Affords-divide_choice}
use Rattle.word_circuits.proofs.divisions.divide_bit.Goals as goal

pub chain-chained-requires : goal.chain-chained-requires
chain-chained-requires g c =
    let rest = c.args.rest.now in
    let w = length rest in
    let l = ap length (c.as_slice.ensures.value ∙ c.joined-taken.ensures) in
    let k = ap length c.front.ensures ∙ length-take-le (w - 1) rest (omega arith) in
    let et = c.as_slice.ensures.value ∙ c.joined-taken.ensures ∙ ap (λ l. c.args.next ∷ l) c.front.ensures in
    let room = Affords-divide_chain g.G.Gates.calls c.args.next c.args.turned.now c.args.above c.args.one rest c.as_slice.result.now w c.args.gates.now c.requires.some (sym c.requires.same) et c.requires.room in
    (search rules, (omega (arith, l, k, c.requires.some), (omega (arith, c.requires.same), (c.requires.fits, (c.args.one, room)))))

pub add_bit-top-requires : goal.add_bit-top-requires
add_bit-top-requires g c =
    let rest = c.args.rest.now in
    let et = c.as_slice.ensures.value ∙ c.joined-taken.ensures ∙ ap (λ l. c.args.next ∷ l) c.front.ensures in
    let high = c.args.one in
    Affords-divide_top g.G.Gates.calls c.args.next c.args.turned.now c.args.above high rest c.as_slice.result.now (length rest) c.args.gates.now c.requires.some (sym c.requires.same) et c.requires.room
    c.chain-chained.result.0.items c.chain-chained.result.1 c.wire.result c.chain-chained.new.gates (c.wire.ensures high) (c.chain-chained.ensures.plays high)

pub choose_wires-left-requires : goal.choose_wires-left-requires
choose_wires-left-requires g c =
    let rest = c.args.rest.now in
    let w = length rest in
    let high = c.args.one in
    let et = c.as_slice.ensures.value ∙ c.joined-taken.ensures ∙ ap (λ l. c.args.next ∷ l) c.front.ensures in
    let l2 = ap length c.as_slice-2.ensures.value in
    let k = ap length c.front.ensures ∙ length-take-le (w - 1) rest (omega arith) in
    let l3 = ap length (c.as_slice-3.ensures.value ∙ c.joined-taken.ensures) in
    let l4 = ap length (c.as_slice-4.ensures.value ∙ c.joined-taken.ensures) in
    let room = Affords-divide_choice g.G.Gates.calls c.args.next c.args.turned.now c.args.above high rest c.as_slice.result.now w c.args.gates.now c.requires.some (sym c.requires.same) et c.requires.room
    c.chain-chained.result.0.items c.chain-chained.result.1 c.wire.result c.chain-chained.new.gates (c.wire.ensures high) (c.chain-chained.ensures.plays high)
    c.as_slice-3.result.now c.as_slice-4.result.now c.as_slice-2.result.now c.add_bit-top.result c.add_bit-top.new.gates c.chain-chained.ensures.len
    (c.as_slice-3.ensures.value ∙ sym c.as_slice.ensures.value) (c.as_slice-4.ensures.value ∙ sym c.as_slice.ensures.value) c.as_slice-2.ensures.value c.add_bit-top.ensures in
    (search rules, (omega (arith, l2, c.chain-chained.ensures.len), (omega (arith, l3, k, c.requires.some), (omega (arith, l4, k, c.requires.some), (c.requires.fits, (high, room))))))

pub returns : goal.returns
returns g c =
    let m = g.G.Gates.calls in
    let high = c.args.one in
    let rest = c.args.rest.now in
    let w = length rest in
    let taken = c.as_slice.result.now in
    let et = c.as_slice.ensures.value ∙ c.joined-taken.ensures ∙ ap (λ l. c.args.next ∷ l) c.front.ensures in
    record {
      plays = Plays-divide_bit_top m c.args.next c.args.turned.now c.args.above high rest taken c.as_slice-3.result.now c.as_slice-4.result.now c.chain-chained.result.0.items c.as_slice-2.result.now w
          c.args.gates.now c.chain-chained.new.gates c.add_bit-top.new.gates c.choose_wires-left.new.gates c.chain-chained.result.1 c.wire.result c.add_bit-top.result c.choose_wires-left.result.items
          c.requires.some refl (sym c.requires.same) c.chain-chained.ensures.len et (c.as_slice-3.ensures.value ∙ sym c.as_slice.ensures.value) (c.as_slice-4.ensures.value ∙ sym c.as_slice.ensures.value) c.as_slice-2.ensures.value (c.wire.ensures high)
          (c.chain-chained.ensures.plays high) c.add_bit-top.ensures (c.choose_wires-left.ensures.plays high);
      len = c.choose_wires-left.ensures.len;
    }
