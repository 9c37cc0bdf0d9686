use Rattle.std.proofs.Common.{Ok}
use Rattle.oc_cells.specs.Types.{is_hidden, kind_of}
use Rattle.oc_typed.specs.Static.{working_kind}
use Rattle.oc_walk.specs.Walking.{still}
use Rattle.oc_walk.specs.Operations.{operates}
use Rattle.oc_walk.specs.Expressions.{turned}
use Rattle.clear_actions.specs.Acting.{bare}
use Rattle.clear_walk.proofs.Actions.{acts_then, act_look}
use Rattle.clear_walk.proofs.writes.operate_update.Goals as goal

pub returns : goal.returns
returns c =
    let k = working_kind c.args.op c.args.place.now c.args.ty.now in
    acts_then (λ x. still (operates bare c.args.spot c.args.op k (is_hidden c.args.place.now) c.args.old c.args.value)) (λ x z. turned bare c.args.spot k (kind_of c.args.place.now) z) (Ok c.in_ok-new.new)
    (act_look (operates bare c.args.spot c.args.op k (is_hidden c.args.place.now) c.args.old c.args.value) c.args.m.now (rw (c.working_kind-kind.ensures, c.is_hidden.ensures) at c.in_ok-new.ensures))
    (rw (c.working_kind-kind.ensures, c.kind_of.ensures) at c.turn_value.ensures)
