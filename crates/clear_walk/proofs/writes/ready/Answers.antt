use Rattle.std.proofs.Common.{sym, ◌∙◌}
use Rattle.oc_cells.specs.Types.{kind_of}
use Rattle.oc_typed.specs.Static.{working_kind}
use Rattle.oc_walk.specs.Walking.{pure}
use Rattle.oc_walk.specs.Expressions.{turned}
use Rattle.clear_actions.specs.Acting.{bare}
use Rattle.clear_walk.proofs.Actions.{act_second}
use Rattle.clear_walk.proofs.writes.ready.Goals as goal

pub returns : goal.returns
returns c =
    act_second (λ x. pure c.args.old) (λ x. turned bare c.args.spot (kind_of c.args.place.now) (working_kind c.args.op c.args.place.now c.args.ty.now) c.args.old)
    (sym c.is_pointer.ensures ∙ c.if-is_pointer.false) (rw (c.kind_of.ensures, c.working_kind.ensures) at c.turn_value.ensures)
