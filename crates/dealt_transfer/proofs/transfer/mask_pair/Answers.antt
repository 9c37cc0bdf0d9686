use Rattle.std.proofs.Common.{◌≡◌, ℕ, sym, subst}
use Rattle.dealt_transfer.specs.Transfers.{pads_of}
use Rattle.dealt_transfer.specs.Hiding.{apart, masked}
use Rattle.dealt_transfer.proofs.Changes.{masked_same}
use Rattle.dealt_transfer.proofs.transfer.mask_pair.Goals as goal

pub returns-clause-hides : goal.returns-clause-hides
returns-clause-hides c choice bit x h =
    let both : ℕ × ℕ = (c.args.m0, c.args.m1) in
    let law = subst (λ d. masked (apart bit x (pads_of c.args.half.now c.args.i)) d (apart choice x both) ≡ masked (pads_of c.args.half.now c.args.i) d both) (sym h)
    (masked_same choice bit x (pads_of c.args.half.now c.args.i) both) in
    rw (c.chosen.ensures, c.chosen-2.ensures, c.as_slice.ensures) law
