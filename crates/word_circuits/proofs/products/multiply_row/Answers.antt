use Rattle.std.proofs.Common.{◌-◌, length, arith, ap, ◌∙◌, rules, take, drop, ◌++◌}
use Rattle.std.proofs.lemmas.List.{length-drop}
use Rattle.word_circuits.proofs.Multiplying.{Plays-multiply_row}
use Rattle.gate_core.proofs.Affording.{Affords-first}
use Rattle.gate_core.specs.Circuit.{then}
use Rattle.word_circuits.specs.Products.{part}
use Rattle.word_circuits.specs.Chains.{add_circuit}
use Rattle.gate_core.specs.Circuit.Circuit.{give}
use Rattle.word_circuits.proofs.Affording.{Affords-row_sum}
use Rattle.word_circuits.proofs.products.multiply_row.Goals as goal

pub part_wires-parts-requires : goal.part_wires-parts-requires
part_wires-parts-requires g c =
    let m = g.G.Gates.calls in
    let x = c.args.x.now in
    let j = c.args.place in
    let p = c.args.sum.now in
    let d = c.requires.room.0 in
    let n = length x - j in
    let room = Affords-first m (part x c.args.b d n) (λ r. then (add_circuit n (drop j p) r) (λ s. give (take j p ++ s))) c.args.gates.now c.requires.room.1 in
    (search rules, (omega arith, (omega (arith, c.requires.fits), (d, room))))

pub add_wires-high-requires : goal.add_wires-high-requires
add_wires-high-requires g c =
    let x = c.args.x.now in
    let ld = ap length c.back.ensures ∙ length-drop c.args.place c.args.sum.now in
    let lp = ap length c.as_slice.ensures.value in
    let d = c.requires.room.0 in
    let room = Affords-row_sum g.G.Gates.calls (length x) x c.args.b d c.args.place c.args.sum.now c.back.result.now c.part_wires-parts.result.items c.as_slice.result.now _ _
    c.back.ensures c.as_slice.ensures.value (omega (arith, ld, c.requires.sum)) (c.part_wires-parts.ensures.plays d) c.requires.room.1 in
    (search rules, (omega (arith, ld, c.requires.place, c.requires.sum), (omega (arith, ld, lp, c.part_wires-parts.ensures.len, c.requires.sum), (omega (arith, ld, c.requires.fits, c.requires.sum), room))))

pub returns-clause-plays : goal.returns-clause-plays
returns-clause-plays g c =
    λ d. Plays-multiply_row g.G.Gates.calls (length c.args.x.now) c.args.x.now c.args.b d c.args.place c.args.sum.now _ _ _ _ _ _ _ _ _ _
    c.back.ensures c.as_slice.ensures.value c.front.ensures c.as_slice-2.ensures.value (let ld = ap length c.back.ensures ∙ length-drop c.args.place c.args.sum.now in omega (arith, ld, c.requires.sum))
    (c.part_wires-parts.ensures.plays d) c.add_wires-high.ensures.plays c.joined.ensures
