use Rattle.std.proofs.Common.{length, sym, subst, rules, arith, ap}
use Rattle.gate_core.specs.Circuit.{Plays}
use Rattle.word_circuits.specs.Chains.{flips}
use Rattle.word_circuits.proofs.AddingPlays.{Plays-subtract}
use Rattle.word_circuits.proofs.Affording.{Affords-subtract}
use Rattle.word_circuits.proofs.carries.subtract_wires.Goals as goal

pub sum_wires-requires : goal.sum_wires-requires
sum_wires-requires g c =
    let m = g.G.Gates.calls in
    let x = c.args.x.now in
    let y = c.args.y.now in
    let high = c.known-one.result in
    let l = ap length c.as_slice.ensures.value in
    let n = c.flip_wires-turned.ensures.len in
    let turned = subst (λ n. Plays m (flips y high n) c.args.gates.now c.flip_wires-turned.result.items c.args.gates.now) (sym c.requires.same) (c.flip_wires-turned.ensures.plays high) in (
      search rules,
      (
        c.requires.some,
        (
          omega (arith, l, n, c.requires.same),
          (
            c.requires.fits,
            Affords-subtract m (length x) x y high c.flip_wires-turned.result.items _ _ c.known-one.ensures c.as_slice.ensures.value turned c.requires.room,
          ),
        ),
      ),
    )

pub returns-clause-plays : goal.returns-clause-plays
returns-clause-plays g c =
    let m = g.G.Gates.calls in
    let y = c.args.y.now in
    let high = c.known-one.result in
    let turned = subst (λ n. Plays m (flips y high n) c.args.gates.now c.flip_wires-turned.result.items c.args.gates.now) (sym c.requires.same) (c.flip_wires-turned.ensures.plays high) in
    Plays-subtract m (length c.args.x.now) c.args.x.now y high c.flip_wires-turned.result.items _ _ _ _ c.known-one.ensures c.as_slice.ensures.value turned c.sum_wires.ensures.plays
