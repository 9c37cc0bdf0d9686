use Rattle.std.proofs.Common.{◌∙◌, sym, subst, rules}
use Rattle.std.proofs.lemmas.Fn.{filter_same}
use Rattle.type_rules.specs.declared.judging.Heading.{Heading}
use Rattle.written_types.specs.Numbers.{Numbers, heading_names}
use Rattle.typed_headings.proofs.Numbered.{filtered}
use Rattle.typed_headings.proofs.bodies.bodies_of.Goals as goal

pub invariant_of-result : goal.invariant_of-result
invariant_of-result c =
    let so = c.from_vec.ensures ∙ filter_same _ (λ (h : Heading). h.has_body) _ (λ x b f' k. search rules) _ _ c.retain.ensures.filtered ∙ filtered c.args.headings.list.items in
    record { numbered = subst (λ hs. Numbers c.args.headings.bodies (heading_names hs)) (sym so) c.args.headings.numbered }

pub returns : goal.returns
returns c = c.from_vec.ensures ∙ filter_same _ (λ (h : Heading). h.has_body) _ (λ x b f' k. search rules) _ _ c.retain.ensures.filtered ∙ filtered c.args.headings.list.items
