use Rattle.std.proofs.Common.{ap, sym, subst, arith, rules}
use Rattle.oc_cells.specs.Memory.{living, AllHaveForm}
use Rattle.block_memory.specs.Content.{AllAreLeaves}
use Rattle.block_memory.proofs.Leafy.{leafy_structs}
use Rattle.block_memory.proofs.blocks.Blocks.new.Goals as goal

pub invariant_of-result : goal.invariant_of-result
invariant_of-result g c =
    (sym (ap living c.new.ensures), omega arith, search (rules, c.ranges.limit), subst AllHaveForm (sym c.new.ensures) tt, subst AllAreLeaves (sym c.in_ok-table_of.ensures) (leafy_structs c.args.structs.now))
