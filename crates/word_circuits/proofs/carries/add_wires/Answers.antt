use Rattle.std.proofs.Common.{length}
use Rattle.word_circuits.proofs.AddingPlays.{Plays-add}
use Rattle.word_circuits.proofs.carries.add_wires.Goals as goal

pub returns-clause-plays : goal.returns-clause-plays
returns-clause-plays g c =
    Plays-add g.G.Gates.calls (length c.args.x.now) c.args.x.now c.args.y.now c.known-zero.result _ _ _ c.known-zero.ensures c.sum_wires.ensures.plays
