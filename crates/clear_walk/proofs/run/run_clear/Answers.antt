use Rattle.clear_walk.proofs.Entry.{entry_missing}
use Rattle.clear_walk.proofs.run.run_clear.Goals as goal

pub returns-in-None : goal.returns-in-None
returns-in-None c =
    rw c.outcome_of.ensures (entry_missing c.args.typed.now.structs c.args.typed.now.functions c.args.typed.now.entry c.args.setup.now _ _ c.in-None.ensures.value c.nowhere.ensures c.new.ensures)
