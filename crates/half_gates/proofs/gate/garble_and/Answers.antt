use Rattle.half_gates.proofs.HalfGates.{make_and_hashed}
use Rattle.half_gates.proofs.gate.garble_and.Goals as goal

pub returns-clause-makes_and : goal.returns-clause-makes_and
returns-clause-makes_and c x y =
    let law = make_and_hashed c.args.delta c.args.a c.args.b c.args.gate c.requires.odd x y in
    rw (c.result_of.ensures, c.hash_label-hash_a.ensures, c.hash_label-hash_b.ensures, c.hash_label.ensures, c.hash_label-2.ensures, c.masked.ensures, c.selects.ensures, c.first_tweak-tweak.ensures) law
