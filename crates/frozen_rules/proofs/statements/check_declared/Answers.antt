use Rattle.std.proofs.Common.{ap, sym}
use Rattle.scope_rules.specs.InScope.{slot_type}
use Rattle.scope_rules.specs.FirstFault.{visits_coming}
use Rattle.frozen_rules.specs.Scopes.{facts_of, around}
use Rattle.frozen_rules.proofs.Sequences.{told_as}
use Rattle.frozen_rules.proofs.statements.check_declared.Goals as goal

pub returns-in-Some : goal.returns-in-Some
returns-in-Some c =
    let g = around c.args.typed.now c.args.f.now in
    told_as (ap (λ o. visits_coming g (facts_of c.args.w) (slot_type o) c.args.d.now.init) (sym c.in-Some.ensures.value)) c.check_value.ensures

pub returns-in-None : goal.returns-in-None
returns-in-None c =
    let g = around c.args.typed.now c.args.f.now in
    told_as (ap (λ o. visits_coming g (facts_of c.args.w) (slot_type o) c.args.d.now.init) (sym c.in-None.ensures.value)) c.check_value-in-None.ensures
