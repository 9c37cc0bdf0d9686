use Rattle.cond_lowering.proofs.Codes.{events_so, shown_so, jumps_so}
use Rattle.cond_lowering.proofs.lowering.lower.Goals as goal

pub returns-clause-events : goal.returns-clause-events
returns-clause-events c = events_so c.args.typed.now.structs c.args.typed.now.functions c.in_ok-functions.functions c.args.typed.now.entry c.code_walks.ensures.events c.in_ok-functions.ensures

pub returns-clause-shown : goal.returns-clause-shown
returns-clause-shown c = shown_so c.args.typed.now.structs c.args.typed.now.functions c.in_ok-functions.functions c.args.typed.now.entry c.code_walks.ensures.shown c.in_ok-functions.ensures

pub returns-clause-jumps : goal.returns-clause-jumps
returns-clause-jumps c = jumps_so c.args.typed.now.structs c.args.typed.now.functions c.in_ok-functions.functions c.code_walks.ensures.jumps c.in_ok-functions.ensures
