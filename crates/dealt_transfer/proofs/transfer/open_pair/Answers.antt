use Rattle.std.proofs.Common.{refl}
use Rattle.dealt_transfer.specs.Halves.{receiver}
use Rattle.dealt_transfer.proofs.Opening.{opens}
use Rattle.dealt_transfer.proofs.transfer.open_pair.Goals as goal

pub returns-clause-opens : goal.returns-clause-opens
returns-clause-opens c sender m0 m1 h e =
    let law = opens sender (receiver c.args.half.now) c.args.i c.args.choice c.args.e0 c.args.e1 m0 m1 (c.args.e0, c.args.e1) refl h c.requires e in
    rw (c.chosen.ensures, c.as_slice.ensures) law
