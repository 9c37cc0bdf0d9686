use Rattle.std.proofs.Common.{◌≡◌, neg_ℤ, length, arith, refl, sym, ap, ◌∙◌, rules, replicate, subst}
use Rattle.std.proofs.lemmas.List.{length-replicate}
use Rattle.gate_core.specs.Circuit.{Plays, Affords}
use Rattle.oc_values.specs.Integers.{wrap_bits}
use Rattle.word_circuits.specs.Chains.{negate_circuit, subtract_circuit}
use Rattle.word_circuits.specs.Fragments.Operation.{op_negate}
use Rattle.word_circuits.proofs.Calling.{width_pos, width_most, width_of, carried_one, owed, means_one, on_one, afforded_one}
use Rattle.word_circuits.proofs.Summing.{Uniform-negate, Counted-negate}
use Rattle.word_circuits.proofs.Totals.{integer-negate}
use Rattle.word_circuits.proofs.AddingPlays.{Plays-negate}
use Rattle.word_circuits.proofs.sums.negate.Goals as goal

pub copies-zeros-requires : goal.copies-zeros-requires
copies-zeros-requires g c = (search rules, width_most _ c.width.ensures.width)

pub subtract_wires-requires : goal.subtract_wires-requires
subtract_wires-requires g c =
    let x = c.args.x.now in
    let w = length x in
    let ex = c.wires.ensures.value in
    let pos = width_pos w (width_of _ x ex c.wires.ensures.width) in
    let room = afforded_one g.G.Gates.calls g.G.Gates.made g.G.Gates.room g.met.G.Gates.counts op_negate w (λ d u. negate_circuit w u) c.wires.result.now x c.args.gates.now (λ d. refl) ex pos refl (Uniform-negate w) (Counted-negate w pos) c.requires in
    let m = g.G.Gates.calls in
    let s = c.args.gates.now in
    let low = c.known-zero.result in
    let u = c.wires.result.now in
    let zs = c.as_slice.result.now in
    let ez : zs ≡ replicate w low = c.as_slice.ensures.value ∙ c.copies-zeros.ensures ∙ ap (λ n. replicate n low) c.width.ensures.value in
    let lz : length zs ≡ w = ap length ez ∙ length-replicate w low in
    let h1 = subst (λ v. Affords m (subtract_circuit w (replicate w v) u) s) (sym c.known-zero.ensures) room.1 in
    let h2 = subst (λ l. Affords m (subtract_circuit w l u) s) (sym ez) h1 in
    let h3 = subst (λ n. Affords m (subtract_circuit n zs u) s) (sym lz) h2 in
    (search rules, (omega (arith, lz, pos), (lz ∙ ap length (sym ex), (omega (arith, lz, width_most c.width.result c.width.ensures.width, c.width.ensures.value), h3))))

pub returns : goal.returns
returns g c =
    let m = g.G.Gates.calls in
    let law = g.met.G.Gates.laws in
    let x = c.args.x.now in
    let w = length x in
    let some = width_pos w (width_of _ x c.wires.ensures.value c.wires.ensures.width) in
    let low = c.known-zero.result in
    let zs = c.as_slice.result.now in
    let ez : zs ≡ replicate w low = c.as_slice.ensures.value ∙ c.copies-zeros.ensures ∙ ap (λ n. replicate n low) c.width.ensures.value in
    let lz : length zs ≡ w = ap length ez ∙ length-replicate w low in
    let h = subst (λ n. Plays m (subtract_circuit n zs c.wires.result.now) c.args.gates.now c.subtract_wires.result.items c.subtract_wires.new.gates) lz c.subtract_wires.ensures.plays in
    let p = Plays-negate m w x _ zs low _ _ _ c.known-zero.ensures ez c.wires.ensures.value h in
    let p = carried_one m (λ u. negate_circuit w u) x x _ c.of_array.result _ _ refl c.of_array.ensures p in
    let q = on_one m op_negate w x _ _ _ (λ d. p) in
    let o = owed m g.G.Gates.stands g.G.Gates.made g.G.Gates.room law g.met.G.Gates.counts op_negate w x _ _ _ some refl (Uniform-negate w) (Counted-negate w some) q in
    record {
      performs = o.performs;
      means = λ signed. means_one m g.G.Gates.stands law op_negate w x _ _ _ refl (Uniform-negate w) q signed signed (λ a. wrap_bits signed w (neg_ℤ a)) (integer-negate signed w some);
      width = o.width;
    }
