use Rattle.std.proofs.Common.{refl, subst, ap, Ok}
use Rattle.command_grammar.specs.Grammar.{texts}
use Rattle.oblivcc_commands.specs.Asks.{Asks}
use Rattle.oblivcc_commands.specs.declared.asked.Asked.TheVariants.{Check, Clear, Deal}
use Rattle.oblivc_main.specs.Statuses.{usage, command}
use Rattle.oblivc_main.proofs.Completing.{answered}
use Rattle.oblivc_main.proofs.DealtFiles.{deal_ends}
use Rattle.oblivc_main.proofs.program.serve.Goals as goal

pub returns-in-Err : goal.returns-in-Err
returns-in-Err g c = usage c.in-Err.k refl c.in-Err.ensures (record { silent = refl; kept = λ n. refl })

pub deal-requires : goal.deal-requires
deal-requires g c = let asks = subst (λ a. Asks (texts c.args.words.now) (Ok a)) c.in-Ok-Deal.field-0-is c.in-Ok-Deal.ensures in asks.few

pub returns-in-Ok-Check : goal.returns-in-Ok-Check
returns-in-Ok-Check g c =
    let asks = subst (λ a. Asks (texts c.args.words.now) (Ok a)) c.in-Ok-Check.field-0-is c.in-Ok-Check.ensures in
    command (Check c.in-Ok-Check.asked) asks (answered _ (Check c.in-Ok-Check.asked) c.check.result c.check.ensures.end (λ n apart. ap (λ told. told n) c.check.ensures.unchanged))

pub returns-in-Ok-Clear : goal.returns-in-Ok-Clear
returns-in-Ok-Clear g c =
    let asks = subst (λ a. Asks (texts c.args.words.now) (Ok a)) c.in-Ok-Clear.field-0-is c.in-Ok-Clear.ensures in
    command (Clear c.in-Ok-Clear.asked) asks (answered _ (Clear c.in-Ok-Clear.asked) c.clear.result c.clear.ensures.end (λ n apart. ap (λ told. told n) c.clear.ensures.unchanged))

pub returns-in-Ok-Deal : goal.returns-in-Ok-Deal
returns-in-Ok-Deal g c =
    let asks = subst (λ a. Asks (texts c.args.words.now) (Ok a)) c.in-Ok-Deal.field-0-is c.in-Ok-Deal.ensures in
    command (Deal c.in-Ok-Deal.asked) asks (answered _ (Deal c.in-Ok-Deal.asked) c.deal.result (deal_ends _ c.in-Ok-Deal.asked c.deal.result refl refl c.deal.ensures.end) c.deal.ensures.elsewhere)
