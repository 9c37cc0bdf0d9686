use Rattle.std.specs.Int.Bits.{or_lt}
use Rattle.oc_values.specs.Integers.{width}
use Rattle.oc_values.proofs.arithmetic.bitwise_or.Goals as goal

pub from_bits-requires : goal.from_bits-requires
from_bits-requires c = or_lt (width c.args.kind) c.bits_of.result c.bits_of-2.result c.bits_of.ensures.below c.bits_of-2.ensures.below
