use Rattle.std.proofs.Common.{◌≡◌, arith, ap, ◌∙◌, replicate}
use Rattle.word_circuits.proofs.wires.copies.Goals as goal

pub returns : goal.returns
returns g c = let e : c.all.index ≡ c.args.count = omega (arith, c.all-test.false, c.all.auto.index-end) in c.all.invariant.1 ∙ ap (λ n. replicate n c.args.wire) e
