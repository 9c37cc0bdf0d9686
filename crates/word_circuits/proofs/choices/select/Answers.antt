use Rattle.std.proofs.Common.{◌∷◌, ◌++◌, length, arith, refl, sym, ap, ◌∙◌, rules, subst}
use Rattle.gate_core.specs.Circuit.{Plays, Affords}
use Rattle.word_circuits.specs.Choices.{choose}
use Rattle.word_circuits.specs.Fragments.Operation.{op_select}
use Rattle.word_circuits.proofs.Calling.{width_pos, width_most, width_of, owed, carried_two, afforded}
use Rattle.word_circuits.proofs.Selecting.{Uniform-select, Counted-select, means_select, select-apart, length-select}
use Rattle.word_circuits.proofs.choices.select.Goals as goal

pub choose_wires-requires : goal.choose_wires-requires
choose_wires-requires g c =
    let m = g.G.Gates.calls in
    let e = c.args.e in
    let x = c.args.new.now in
    let y = c.args.old.now in
    let w = length x in
    let s = c.args.gates.now in
    let ex = c.wires.ensures.value in
    let ey = c.wires-last.ensures.value in
    let lx = ap length ex in
    let ly = ap length ey in
    let n = c.width.ensures.value in
    let same = c.requires.same in
    let pos = width_pos w (width_of _ x ex c.wires.ensures.width) in
    let room = afforded m g.G.Gates.made g.G.Gates.room g.met.G.Gates.counts op_select w (e ∷ (x ++ y)) s (omega (arith, pos)) (length-select e x y w refl (sym same)) (Uniform-select w) (Counted-select w) c.requires.room in
    let d = room.0 in
    let h1 = subst (λ k. Affords m k s) (select-apart e x y w d refl) room.1 in
    let h2 = subst (λ l. Affords m (choose e x l l d w) s) (sym ey) h1 in
    let h3 = subst (λ l. Affords m (choose e l c.wires-last.result.now c.wires-last.result.now d w) s) (sym ex) h2 in
    let h4 = subst (λ k. Affords m (choose e c.wires.result.now c.wires-last.result.now c.wires-last.result.now d k) s) (sym (n ∙ sym same)) h3 in
    (search rules, (omega (arith, lx, n, same), (omega (arith, ly, n), (omega (arith, ly, n), (width_most _ c.width.ensures.width, (d, h4))))))

pub returns : goal.returns
returns g c =
    let m = g.G.Gates.calls in
    let law = g.met.G.Gates.laws in
    let counts = g.met.G.Gates.counts in
    let e = c.args.e in
    let x = c.args.new.now in
    let y = c.args.old.now in
    let w = length x in
    let same = sym c.requires.same in
    let some = width_pos w (width_of _ x c.wires.ensures.value c.wires.ensures.width) in
    let n = c.width.ensures.value ∙ same in
    let q = λ (d : g.row.G-Wire.Denot). subst (λ k. Plays m k c.args.gates.now c.of_array.result c.choose_wires.new.gates) (sym (select-apart e x y w d refl))
    (subst (λ n. Plays m (choose e x y y d n) c.args.gates.now c.of_array.result c.choose_wires.new.gates) n
    (carried_two m (λ u v. choose e u v v d c.width.result) _ x _ y _ c.of_array.result _ _ c.wires.ensures.value c.wires-last.ensures.value c.of_array.ensures (c.choose_wires.ensures.plays d))) in
    let o = owed m g.G.Gates.stands g.G.Gates.made g.G.Gates.room law counts op_select w (e ∷ (x ++ y)) _ _ _ (omega (arith, some)) (length-select e x y w refl same) (Uniform-select w) (Counted-select w) q in
    record {
      performs = o.performs;
      means = means_select m g.G.Gates.stands law w e x y _ _ _ refl same q;
      width = o.width;
    }
