use Rattle.std.proofs.Common.{◌∙◌, ap, sym, Some}
use Rattle.block_memory.proofs.Living.{below_limit}
use Rattle.block_memory.proofs.blocks.Blocks.offset.Goals as goal

pub place-requires : goal.place-requires
place-requires g c = below_limit c.self.inside.blocks c.in-At.block _ _ _ _ _ (sym c.in-Some-Live.ensures ∙ ap Some c.in-Some-Live.field-0-is) c.len.ensures c.self.invariant.0 c.self.invariant.1 c.self.invariant.2
