use Rattle.std.proofs.Common.{ap, ◌∙◌, Err}
use Rattle.clear_walk.proofs.Entry.{entry_done, entry_halted}
use Rattle.clear_walk.proofs.run.run_entry.Goals as goal

pub returns-in-Ok : goal.returns-in-Ok
returns-in-Ok c =
    entry_done c.args.typed.now.structs c.args.typed.now.functions c.args.typed.now.entry c.args.setup.now c.args.f.now _ _ c.run_function-ended.new.m c.requires c.in_ok-m.ensures c.nowhere.ensures c.run_function-ended.ensures c.in-Ok.is

pub returns-in-Halted : goal.returns-in-Halted
returns-in-Halted c =
    rw c.outcome_of.ensures (entry_halted c.args.typed.now.structs c.args.typed.now.functions c.args.typed.now.entry c.args.setup.now c.args.f.now _ _ c.run_function-ended.new.m _ c.requires c.in_ok-m.ensures c.nowhere.ensures c.run_function-ended.ensures (c.in-Err.is ∙ ap Err c.in-Halted.is))
