use Rattle.std.proofs.Common.{ap, ◌∙◌}
use Rattle.type_rules.specs.Calls.{called_name}
use Rattle.typed_expressions.specs.Sites.{site_lookup}
use Rattle.typed_expressions.proofs.called.meaning_of.Goals as goal

pub returns-in-Some : goal.returns-in-Some
returns-in-Some c = ap (λ o. called_name (site_lookup c.args.site.now) c.args.name.now o) c.in-Some.ensures

pub returns-in-None : goal.returns-in-None
returns-in-None c = c.no_variable.ensures ∙ ap (λ o. called_name (site_lookup c.args.site.now) c.args.name.now o) c.in-None.ensures
