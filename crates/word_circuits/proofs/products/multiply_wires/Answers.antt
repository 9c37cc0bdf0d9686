use Rattle.std.proofs.Common.{◌≡◌, ◌-◌, ◌+◌, length, arith, ap, ◌∙◌, rules, subst, sym, get_or}
use Rattle.gate_core.specs.Circuit.{Plays, Affords, times}
use Rattle.gate_core.proofs.Playing.{Plays-more}
use Rattle.word_circuits.proofs.Multiplying.{Plays-multiply}
use Rattle.word_circuits.specs.Products.{multiply_step, multiply_row, part}
use Rattle.word_circuits.proofs.Affording.{Affords-multiply_row}
use Rattle.gate_core.proofs.Affording.{Affords-first}
use Rattle.word_circuits.proofs.products.multiply_wires.Goals as goal

pub part_wires-sum-requires : goal.part_wires-sum-requires
part_wires-sum-requires g c =
    let m = g.G.Gates.calls in
    let x = c.args.x.now in
    let y = c.args.y.now in
    let w = length x in
    let d = c.requires.room.0 in
    let room = subst (λ z. Affords m (part x z d w) c.args.gates.now) (sym (c.wire.ensures d)) (Affords-first m (part x (get_or y 0 d) d w) (times (w - 1) (multiply_step w x y d)) c.args.gates.now c.requires.room.1) in
    (search rules, (omega arith, (c.requires.fits, (d, room))))

pub multiply_row-sum-requires : goal.multiply_row-sum-requires
multiply_row-sum-requires g c =
    let m = g.G.Gates.calls in
    let x = c.args.x.now in
    let y = c.args.y.now in
    let w = length x in
    let d = c.requires.room.0 in
    let room = Affords-multiply_row m w x y d c.wire.result c.wire-in-rows.result c.rows.j c.part_wires-sum.result.items c.rows.sum.items c.as_slice.result.now _ _ _ (c.wire.ensures d) (c.wire-in-rows.ensures d) c.as_slice.ensures.value
    c.rows-test.true (c.part_wires-sum.ensures.plays d) (c.rows.invariant.1 d) c.requires.room.1 in
    (search rules, (omega (arith, c.rows-test.true), (ap length c.as_slice.ensures.value ∙ c.rows.invariant.0, (c.requires.fits, (d, room)))))

pub rows-preserved : goal.rows-preserved
rows-preserved g c =
    let m = g.G.Gates.calls in
    let x = c.args.x.now in
    let y = c.args.y.now in (
      c.multiply_row-sum.ensures.len,
      λ d. Plays-more m (multiply_step (length x) x y d) c.rows.j _ _ _ _ _ _ (c.rows.invariant.1 d)
          (subst (λ v. Plays m (multiply_row (length x) x v d (c.rows.j + 1) c.rows.sum.items) c.rows.gates c.multiply_row-sum.result.items c.multiply_row-sum.new.gates) (c.wire-in-rows.ensures d)
          (subst (λ l. Plays m (multiply_row (length x) x c.wire-in-rows.result d (c.rows.j + 1) l) c.rows.gates c.multiply_row-sum.result.items c.multiply_row-sum.new.gates) c.as_slice.ensures.value (c.multiply_row-sum.ensures.plays d))),
    )

pub returns : goal.returns
returns g c =
    let done : c.rows.j ≡ length c.args.x.now - 1 = omega (arith, c.rows-test.false, c.rows.auto.j-end) in
    record {
      plays = λ d. Plays-multiply g.G.Gates.calls (length c.args.x.now) c.args.x.now c.args.y.now d c.wire.result c.rows.j _ _ _ _ _ (c.wire.ensures d) done (c.part_wires-sum.ensures.plays d) (c.rows.invariant.1 d);
      len = c.rows.invariant.0;
    }
