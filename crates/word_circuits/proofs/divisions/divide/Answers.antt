use Rattle.std.proofs.Common.{◌≡◌, [], ◌∷◌, ◌++◌, length, arith, sym, ap, ◌∙◌, rules, subst}
use Rattle.gate_core.specs.Circuit.{Plays}
use Rattle.gate_core.proofs.Playing.{Plays-more}
use Rattle.word_circuits.specs.Divisions.{divide_bit, divide_step, Divided}
use Rattle.word_circuits.proofs.DividingPlays.{Plays-divide_step, Plays-divide, Plays-turned_divisor}
use Rattle.word_circuits.proofs.Affording.{Affords-divide_step}
use Rattle.word_circuits.proofs.divisions.divide.Goals as goal

pub divide_bit-parts-requires : goal.divide_bit-parts-requires
divide_bit-parts-requires g c =
    let m = g.G.Gates.calls in
    let x = c.args.x.now in
    let y = c.args.y.now in
    let w = length x in
    let low = c.known-zero.result in
    let high = c.known-one.result in
    let ny = c.flip_wires-turned.result.items ++ c.not-above.result ∷ [] in
    let a : Divided _ = record { quotient = c.bits.quotient.items; rest = c.bits.rest.items } in
    let lt = ap length c.as_slice.ensures.value in
    let lr = ap length c.as_slice-in-bits.ensures.value ∙ c.bits.invariant.1 in
    let turned = Plays-turned_divisor m y low high c.not-above.result w c.flip_wires-turned.result.items c.args.gates.now (sym c.requires.same) c.not-above.ensures (c.flip_wires-turned.ensures.plays high) in
    let room = Affords-divide_step m w x y low high ny c.copies-rest.result.items c.bits.i a _ _ c.wire-next.result (c.as_slice.result.now ++ c.not-above.result ∷ []) c.as_slice-in-bits.result.now
    c.known-zero.ensures c.known-one.ensures c.copies-rest.ensures turned c.bits-test.true c.bits.invariant.2 (c.wire-next.ensures high) (ap (λ l. l ++ c.not-above.result ∷ []) c.as_slice.ensures.value) c.as_slice-in-bits.ensures.value lr c.requires.room in
    (search rules, (omega (arith, lr, c.requires.some), (omega (arith, lr, lt, c.flip_wires-turned.ensures.len), (omega (arith, lr, c.requires.fits), room))))

pub bits-preserved : goal.bits-preserved
bits-preserved g c =
    let m = g.G.Gates.calls in
    let x = c.args.x.now in
    let w = length x in
    let high = c.known-one.result in
    let above = c.not-above.result in
    let ny = c.flip_wires-turned.result.items ++ above ∷ [] in
    let a : Divided _ = record { quotient = c.bits.quotient.items; rest = c.bits.rest.items } in
    let lr = ap length c.as_slice-in-bits.ensures.value ∙ c.bits.invariant.1 in
    let s = c.bits.gates in
    let t = c.divide_bit-parts.new.gates in
    let p1 = subst (λ n. Plays m (divide_bit c.wire-next.result (c.as_slice.result.now ++ above ∷ []) high c.as_slice-in-bits.result.now n) s (c.divide_bit-parts.result.0, c.divide_bit-parts.result.1.items) t) lr c.divide_bit-parts.ensures.plays in
    let p2 = subst (λ l. Plays m (divide_bit c.wire-next.result (l ++ above ∷ []) high c.as_slice-in-bits.result.now w) s (c.divide_bit-parts.result.0, c.divide_bit-parts.result.1.items) t) c.as_slice.ensures.value p1 in
    let p3 = subst (λ l. Plays m (divide_bit c.wire-next.result ny high l w) s (c.divide_bit-parts.result.0, c.divide_bit-parts.result.1.items) t) c.as_slice-in-bits.ensures.value p2 in
    let step = Plays-divide_step m w x ny high c.bits.i a s t c.wire-next.result (c.divide_bit-parts.result.0, c.divide_bit-parts.result.1.items) (c.wire-next.ensures high) p3 in (
      omega (arith, c.insert.ensures.len, c.bits.invariant.0),
      c.divide_bit-parts.ensures.len ∙ lr,
      rw c.insert.ensures.items (Plays-more m (divide_step w x ny high) c.bits.i _ _ _ _ _ _ c.bits.invariant.2 step),
    )

pub returns : goal.returns
returns g c =
    let m = g.G.Gates.calls in
    let x = c.args.x.now in
    let y = c.args.y.now in
    let w = length x in
    let low = c.known-zero.result in
    let high = c.known-one.result in
    let done : c.bits.i ≡ w = omega (arith, c.bits-test.false, c.bits.auto.i-end) in
    let turned = Plays-turned_divisor m y low high c.not-above.result w c.flip_wires-turned.result.items c.args.gates.now (sym c.requires.same) c.not-above.ensures (c.flip_wires-turned.ensures.plays high) in
    record {
      plays = Plays-divide m w x y low high _ c.copies-rest.result.items c.bits.i _ _ _ done c.known-zero.ensures c.known-one.ensures c.copies-rest.ensures turned c.bits.invariant.2;
      quotient = c.bits.invariant.0 ∙ done;
      rest = c.bits.invariant.1;
    }
