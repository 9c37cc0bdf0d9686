use Rattle.std.proofs.Common.{◌-◌, length, rules, arith}
use Rattle.word_circuits.specs.Chains.{Carried, chain, last_sum}
use Rattle.word_circuits.proofs.AddingPlays.{Plays-last_sum, Plays-sums}
use Rattle.gate_core.proofs.Affording.{Affords-first}
use Rattle.word_circuits.proofs.carries.sum_wires.Goals as goal

pub chain-chained-requires : goal.chain-chained-requires
chain-chained-requires g c =
    let x = c.args.x.now in
    let y = c.args.y.now in
    let z = c.args.carry in
    let w = length x in
    (search rules, (omega arith, (omega (arith, c.requires.same), (omega (arith, c.requires.fits), (z, Affords-first g.G.Gates.calls (chain x y z z (w - 1)) (last_sum x y z (w - 1)) c.args.gates.now c.requires.room)))))

pub returns-clause-plays : goal.returns-clause-plays
returns-clause-plays g c =
    let m = g.G.Gates.calls in
    let x = c.args.x.now in
    let y = c.args.y.now in
    let z = c.args.carry in
    let a : Carried _ = record { sums = c.chain-chained.result.0.items; carry = c.chain-chained.result.1 } in
    let end = Plays-last_sum m x y z (length x - 1) a _ _ _ _ _ (c.wire.ensures z) (c.wire-2.ensures z) c.xor-partial.ensures c.xor.ensures in
    rw c.push.ensures.items (Plays-sums m (length x) x y z a _ _ _ (c.chain-chained.ensures.plays z) end)
