use Rattle.std.proofs.Common.{[]}
use Rattle.half_gates.proofs.Digests.{hash_of-steps}
use Rattle.half_gates.proofs.hash.hash_label.Goals as goal

pub returns : goal.returns
returns c =
    let first = c.update.ensures [] c.new-hasher.ensures in
    let second = c.update-2.ensures _ first in
    let digest = c.finalize-d.ensures _ second in
    hash_of-steps _ _ _ _ _ _ c.to_le_bytes.ensures c.to_be_bytes.ensures digest c.from_le_bytes.ensures
