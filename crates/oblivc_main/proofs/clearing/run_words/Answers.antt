use Rattle.std.proofs.Common.{subst}
use Rattle.std.specs.Prelude.{IfOk}
use Rattle.oc_meanings.specs.Clear.{Clear}
use Rattle.oblivc_main.proofs.clearing.run_words.Goals as goal

pub returns : goal.returns
returns c =
    subst (λ s. IfOk c.run_clear.result (λ run. Clear c.args.typed.now.structs c.args.typed.now.functions c.args.typed.now.entry s run.shown run.outcome))
    c.in_ok-setup.ensures c.run_clear.ensures
