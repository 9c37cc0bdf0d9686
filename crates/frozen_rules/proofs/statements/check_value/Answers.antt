use Rattle.std.proofs.Common.{◌∙◌, ap, sym, Some}
use Rattle.scope_rules.specs.FirstFault.{visits_coming}
use Rattle.frozen_rules.specs.Scopes.{facts_of, around}
use Rattle.frozen_rules.specs.Lists.{visits_arg}
use Rattle.frozen_rules.proofs.Sequences.{told_as}
use Rattle.frozen_rules.proofs.statements.check_value.Goals as goal

pub returns-in-Some : goal.returns-in-Some
returns-in-Some c =
    let g = around c.args.typed.now c.args.f.now in
    let w = facts_of c.args.w in
    told_as (ap (λ o. visits_coming g w c.args.to.now o) c.in-Some.is ∙ ap (λ x. visits_arg g w (Some c.args.to.now) x) (sym c.get.ensures)) c.check_coming.ensures
