use Rattle.std.proofs.Common.{◌∙◌, ap, sym, refl, Err}
use Rattle.std.specs.Prelude.{not}
use Rattle.std.proofs.lemmas.Result.{err_from_is_err_and}
use Rattle.scope_rules.specs.declared.rules.ScopeRule.TheVariants.{F4}
use Rattle.scope_rules.specs.FirstFault.{visit}
use Rattle.frozen_rules.proofs.Sequences.{told_as, stopped, finished}
use Rattle.frozen_rules.proofs.statements.check_jump.Goals as goal

pub returns-in_err-keep : goal.returns-in_err-keep
returns-in_err-keep c =
    let q = err_from_is_err_and c.from_residual.result c.from_residual.ensures.1 in
    told_as (ap (λ b. visit F4 c.args.spot (not b)) (sym c.leaves.ensures)) (stopped c.in_err-keep.ensures (q.1 ∙ ap Err q.2))

pub returns : goal.returns
returns c = told_as (ap (λ b. visit F4 c.args.spot (not b)) (sym c.leaves.ensures)) (finished c.in_ok-keep.ensures refl)
