use Rattle.std.proofs.Common.{◌∙◌, ap, sym}
use Rattle.scope_rules.specs.FirstFault.{visits_maybe}
use Rattle.frozen_rules.specs.Scopes.{facts_of, around}
use Rattle.frozen_rules.specs.Lists.{whole}
use Rattle.frozen_rules.proofs.Sequences.{told_as}
use Rattle.frozen_rules.proofs.statements.check_maybe.Goals as goal

pub returns-in-Some : goal.returns-in-Some
returns-in-Some c =
    let g = around c.args.typed.now c.args.f.now in
    let w = facts_of c.args.w in
    told_as (ap (λ o. visits_maybe g w o) c.in-Some.is ∙ ap (λ x. whole g w x) (sym c.get.ensures)) c.check_expr.ensures
