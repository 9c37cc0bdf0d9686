use Rattle.std.proofs.Common.{◌^◌, length, arith, ap, ◌∙◌, rules, subst, sym}
use Rattle.gate_core.specs.Circuit.{Plays, Affords}
use Rattle.word_circuits.specs.Choices.{choose, moved}
use Rattle.std.proofs.lemmas.Nat.{one_shl}
use Rattle.word_circuits.proofs.shifts.shift_step.Goals as goal

pub moved-other-requires : goal.moved-other-requires
moved-other-requires g c =
    let e = one_shl c.args.k 64 (omega (arith, c.requires.small)) in
    (search rules, (omega (arith, e, c.requires.place), c.requires.fits))

pub choose_wires-requires : goal.choose_wires-requires
choose_wires-requires g c =
    let m = g.G.Gates.calls in
    let x = c.args.x.now in
    let w = length x in
    let z = c.args.zero in
    let l = ap length c.as_slice.ensures.value in
    let e = one_shl c.args.k 64 (omega (arith, c.requires.small)) in
    let other = c.as_slice.ensures.value ∙ c.moved-other.ensures.items ∙ ap (λ k. moved c.args.left w k c.moved_in-filler.result x) e ∙ ap (λ f. moved c.args.left w (2 ^ c.args.k) f x) c.moved_in-filler.ensures in
    let room = subst (λ l. Affords m (choose c.args.chosen x l x z w) c.args.gates.now) (sym other) c.requires.room in
    (search rules, (omega arith, (omega (arith, l, c.moved-other.ensures.len), (omega arith, (c.requires.fits, (z, room))))))

pub returns : goal.returns
returns g c =
    let m = g.G.Gates.calls in
    let x = c.args.x.now in
    let w = length x in
    let z = c.args.zero in
    let e = one_shl c.args.k 64 (omega (arith, c.requires.small)) in
    let other = c.as_slice.ensures.value ∙ c.moved-other.ensures.items ∙ ap (λ k. moved c.args.left w k c.moved_in-filler.result x) e ∙ ap (λ f. moved c.args.left w (2 ^ c.args.k) f x) c.moved_in-filler.ensures in
    record {
      plays = subst (λ l. Plays m (choose c.args.chosen x l x z w) c.args.gates.now c.choose_wires.result.items c.choose_wires.new.gates) other (c.choose_wires.ensures.plays z);
      len = c.choose_wires.ensures.len;
    }
