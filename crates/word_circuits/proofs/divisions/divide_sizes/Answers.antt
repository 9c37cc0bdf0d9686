use Rattle.std.proofs.Common.{length, arith, sym, ap, ◌∙◌, rules, subst}
use Rattle.gate_core.specs.Circuit.{Plays}
use Rattle.word_circuits.specs.Divisions.{Divided, cond_negate, divide_circuit}
use Rattle.word_circuits.proofs.DividingPlays.{Plays-divide_sizes}
use Rattle.word_circuits.proofs.Affording.{Affords-left, Affords-right, Affords-sizes}
use Rattle.word_circuits.proofs.divisions.divide_sizes.Goals as goal

pub cond_negate-left-requires : goal.cond_negate-left-requires
cond_negate-left-requires g c =
    let x = c.args.x.now in
    let d = c.requires.room.0 in
    (search rules, (c.requires.some, (c.requires.fits, (d, Affords-left g.G.Gates.calls (length x) x c.args.y.now d c.wire.result c.args.gates.now (c.wire.ensures d) c.requires.room.1))))

pub cond_negate-right-requires : goal.cond_negate-right-requires
cond_negate-right-requires g c =
    let x = c.args.x.now in
    let y = c.args.y.now in
    let d = c.requires.room.0 in
    let same = c.requires.same in (
      search rules,
      (
        omega (arith, same, c.requires.some),
        (
          omega (arith, same, c.requires.fits),
          (d, Affords-right g.G.Gates.calls (length x) (length y) x y d c.wire.result c.wire-2.result _ _ _ (c.wire.ensures d) (c.wire-2.ensures d) (sym same) (c.cond_negate-left.ensures.plays d) c.requires.room.1),
        ),
      ),
    )

pub divide-requires : goal.divide-requires
divide-requires g c =
    let m = g.G.Gates.calls in
    let x = c.args.x.now in
    let y = c.args.y.now in
    let w = length x in
    let d = c.requires.room.0 in
    let v = c.wire-2.result in
    let same = c.requires.same in
    let l = ap length c.as_slice.ensures.value ∙ c.cond_negate-left.ensures.len in
    let k = ap length c.as_slice-2.ensures.value ∙ c.cond_negate-right.ensures.len in
    let right = subst (λ n. Plays m (cond_negate n v y d) c.cond_negate-left.new.gates c.cond_negate-right.result.items c.cond_negate-right.new.gates) (sym same) (c.cond_negate-right.ensures.plays d) in
    let room = Affords-sizes m w _ x y d c.wire.result v c.cond_negate-left.result.items c.as_slice.result.now c.cond_negate-right.result.items c.as_slice-2.result.now _ _ _
    (c.wire.ensures d) (c.wire-2.ensures d) c.as_slice.ensures.value c.as_slice-2.ensures.value l (c.cond_negate-left.ensures.plays d) right c.requires.room.1 in
    (search rules, (omega (arith, l, c.requires.some), (l ∙ same ∙ sym k, (omega (arith, l, c.requires.fits), room))))

pub returns : goal.returns
returns g c =
    let m = g.G.Gates.calls in
    let x = c.args.x.now in
    let y = c.args.y.now in
    let w = length x in
    let u = c.wire.result in
    let v = c.wire-2.result in
    let s = c.args.gates.now in
    let s2 = c.cond_negate-left.new.gates in
    let s3 = c.cond_negate-right.new.gates in
    let t = c.divide.new.gates in
    let r : Divided _ = record { quotient = c.divide.result.0.items; rest = c.divide.result.1.items } in
    let l = ap length c.as_slice.ensures.value ∙ c.cond_negate-left.ensures.len in
    let same = sym c.requires.same in
    let whole = subst (λ n. Plays m (divide_circuit n c.as_slice.result.now c.as_slice-2.result.now) s3 r t) l c.divide.ensures.plays in
    record {
      plays = λ d. Plays-divide_sizes m w x y d u v c.cond_negate-left.result.items c.as_slice.result.now c.cond_negate-right.result.items c.as_slice-2.result.now r s s2 s3 t
          (c.wire.ensures d) (c.wire-2.ensures d) c.as_slice.ensures.value c.as_slice-2.ensures.value (c.cond_negate-left.ensures.plays d)
          (subst (λ n. Plays m (cond_negate n v y d) s2 c.cond_negate-right.result.items s3) same (c.cond_negate-right.ensures.plays d)) whole;
      quotient = c.divide.ensures.quotient ∙ l;
      rest = c.divide.ensures.rest ∙ l;
    }
