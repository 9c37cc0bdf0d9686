use Rattle.oc_walk.specs.Builtins.{performs}
use Rattle.oc_meanings.specs.Clear.{clear}
use Rattle.clear_actions.specs.Calls.{called, site}
use Rattle.clear_actions.proofs.Calls.{by_memory, performs_is}
use Rattle.clear_actions.proofs.builtins.perform.Goals as goal

pub returns : goal.returns
returns c = λ rounds room slots.
    let s = c.args.setup.now in
    let lss = c.args.machine.now.store.blocks.structs in
    by_memory (performs (clear s.first s.second) (site s lss rounds slots room) c.args.spot c.args.ty.now c.args.source c.args.which.now c.args.values.now)
    (called s lss c.args.spot c.args.ty.now c.args.source c.args.which.now c.args.values.now) c.args.machine.now c.call.new.store c.call.result
    (performs_is s c.args.spot lss rounds room slots c.args.ty.now c.args.source c.args.which.now c.args.values.now) c.call.ensures
