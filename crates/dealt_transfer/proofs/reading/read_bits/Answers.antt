use Rattle.std.proofs.Common.{arith}
use Rattle.std.proofs.lemmas.List.{take_rest, length-drop}
use Rattle.dealt_transfer.proofs.reading.read_bits.Goals as goal

pub unpack_bits-requires : goal.unpack_bits-requires
unpack_bits-requires c = rw (take_rest c.args.bytes.now c.args.at) (let p = c.requires in omega (arith, p, length-drop c.args.at c.args.bytes.now))

pub returns : goal.returns
returns c = rw (take_rest c.args.bytes.now c.args.at) at c.unpack_bits.ensures
