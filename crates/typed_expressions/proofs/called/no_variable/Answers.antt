use Rattle.std.proofs.Common.{ap, ◌∙◌}
use Rattle.type_rules.specs.Calls.{called_function}
use Rattle.typed_expressions.specs.Sites.{site_lookup}
use Rattle.typed_expressions.proofs.called.no_variable.Goals as goal

pub returns-in-Some : goal.returns-in-Some
returns-in-Some c = c.own.ensures ∙ ap (λ o. called_function (site_lookup c.args.site.now) c.args.name.now o) c.in-Some.ensures

pub returns-in-None : goal.returns-in-None
returns-in-None c = c.function.ensures ∙ ap (λ o. called_function (site_lookup c.args.site.now) c.args.name.now o) c.in-None.ensures
