use Rattle.std.proofs.Common.{sym, ◌∙◌}
use Rattle.oc_values.specs.Kinds.{is_minus}
use Rattle.oc_cells.specs.Layout.{size_of}
use Rattle.oc_cells.specs.Types.{target}
use Rattle.oc_walk.specs.Expressions.{stepping}
use Rattle.clear_actions.specs.Acting.{bare}
use Rattle.clear_walk.specs.Runs.{renewed_integer}
use Rattle.clear_walk.proofs.Actions.{act_second}
use Rattle.clear_walk.proofs.writes.renew.Goals as goal

pub returns : goal.returns
returns c =
    act_second (λ x. stepping bare c.args.spot (size_of x.run.structs (target c.args.place.now)) (is_minus c.args.op) c.args.old c.args.value) (λ x. renewed_integer c.args.spot c.args.op c.args.place.now c.args.ty.now c.args.old c.args.value)
    (sym c.is_pointer.ensures ∙ c.if-is_pointer.false) c.operate_update.ensures
