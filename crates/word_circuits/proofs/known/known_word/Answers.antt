use Rattle.word_circuits.proofs.Knowing.{known_means}
use Rattle.word_circuits.proofs.known.known_word.Goals as goal

pub returns-clause-means : goal.returns-clause-means
returns-clause-means g c = λ signed. rw (c.of_array.ensures, c.known_wires.ensures.items, c.from.ensures) (known_means g.G.Gates.calls g.G.Gates.stands g.met.G.Gates.laws c.args.gates.now c.args.number c.args.width signed)
