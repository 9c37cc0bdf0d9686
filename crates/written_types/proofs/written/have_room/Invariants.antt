use Rattle.std.proofs.Common.{◌≡◌, drop}
use Rattle.std.specs.Prelude.{◌&&◌, nat_le}
use Rattle.type_rules.specs.Written.{are_lengths}
use Rattle.written_types.specs.Forms.{times}
use Rattle.written_types.proofs.written.have_room.Given as goal

abbrev pub invariant-loop-n : goal.invariant-loop-n
invariant-loop-n l = (are_lengths (drop l.n-index l.dims) && nat_le (times l.total (drop l.n-index l.dims)) 65536) ≡ (are_lengths l.dims && nat_le (times l.each l.dims) 65536)
