use Rattle.std.proofs.Common.{Some, None, sym, ap, ◌∙◌}
use Rattle.std.specs.Option.{option_map}
use Rattle.visible_variables.specs.Seen.{seen_of}
use Rattle.visible_variables.proofs.Variables.{seen_at, found_last}
use Rattle.typed_expressions.proofs.leaves.find.Goals as goal

pub returns-in-None : goal.returns-in-None
returns-in-None c =
    let s = c.args.site.now in
    ap (λ o. seen_at s.variables.now o) (c.in-None.ensures ∙ s.found.at c.args.name.now) ∙ sym (found_last s.variables.now c.args.name.now)

pub returns-in-Some : goal.returns-in-Some
returns-in-Some c =
    let s = c.args.site.now in
    ap (λ o. option_map seen_of o) c.get.ensures.value ∙ ap (λ o. seen_at s.variables.now o) (c.in-Some.ensures ∙ s.found.at c.args.name.now) ∙ sym (found_last s.variables.now c.args.name.now)
