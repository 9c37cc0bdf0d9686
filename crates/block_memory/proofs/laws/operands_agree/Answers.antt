use Rattle.block_memory.proofs.Alike.{agree}
use Rattle.block_memory.proofs.laws.operands_agree.Goals as goal

pub returns : goal.returns
returns c = agree
