use Rattle.std.specs.Int.Bits.{xor_lt}
use Rattle.oc_values.specs.Integers.{width}
use Rattle.oc_values.proofs.arithmetic.bitwise_xor.Goals as goal

pub from_bits-requires : goal.from_bits-requires
from_bits-requires c = xor_lt (width c.args.kind) c.bits_of.result c.bits_of-2.result c.bits_of.ensures.below c.bits_of-2.ensures.below
