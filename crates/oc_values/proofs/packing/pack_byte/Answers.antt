use Rattle.std.proofs.Common.{◌≡◌, ◌+◌, ◌^◌, ◌<◌, ℕ, get_or, false, ap, subst, arith, take, length}
use Rattle.std.proofs.lemmas.List.{length-take}
use Rattle.std.proofs.Math.Nat as nat
use Rattle.oc_values.specs.Packing.{bit, number_of_bits}
use Rattle.oc_values.proofs.Packs.{number_more, number_below}
use Rattle.oc_values.proofs.packing.pack_byte.Goals as goal
use Rattle.oc_values.proofs.packing.pack_byte.Goals.{then-bit, else-bit}

pub loop-i-preserved : goal.loop-i-preserved
loop-i-preserved c =
    let bits = c.args.bits.now in
    let i = c.loop-i.i in
    let more = number_more bits i c.loop-i-test.true in
    let below = number_below (take (i + 1) bits) in
    let size : length (take (i + 1) bits) ≡ i + 1 = omega (arith, length-take (i + 1) bits) in
    let number : c.if-bit.byte ≡ number_of_bits (take (i + 1) bits) = elim c.if-bit.branch [
      | then-bit w ↦
          let power : 2 ^ i < 256 = (let p = nat.pow-le-pow_right {n = 2} (omega arith) {i = i} {j = 7} (omega arith) in omega (arith, p)) in
          let one : bit (get_or bits i false) ≡ 1 = ap bit w.if-bit.true in
          grind arith
      | else-bit w ↦
          let none : bit (get_or bits i false) ≡ 0 = ap bit w.if-bit.false in
          grind arith
    ] in
    let here : c.if-bit.byte < 2 ^ length (take (i + 1) bits) = rw number below in
    record { number = number; below = subst (λ (k : ℕ). c.if-bit.byte < 2 ^ k) size here }
