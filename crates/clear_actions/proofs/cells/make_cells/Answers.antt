use Rattle.std.proofs.Common.{pos}
use Rattle.std.specs.Int.{w128}
use Rattle.std.proofs.lemmas.Int.{to_z-of_z}
use Rattle.oc_cells.specs.Layout.{leaves}
use Rattle.clear_actions.proofs.Making.{trapped}
use Rattle.clear_actions.proofs.cells.make_cells.Goals as goal

pub returns-in-Trap : goal.returns-in-Trap
returns-in-Trap c =
    trapped c.args.store.now _ c.args.spot c.args.allocated (leaves c.args.store.now.blocks.structs c.args.ty.now) c.args.count c.in-Trap.kind _ _ _ c.in-Trap.is (c.in-Err.ensures.exactly (λ k. pos 0) (λ k h e. e)) (to_z-of_z w128 c.args.count c.ranges.count) c.trap.ensures
