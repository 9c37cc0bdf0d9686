use Rattle.std.proofs.Common.{Some, None, sym, ap, ◌∙◌}
use Rattle.typed_expressions.proofs.Functions.{told, by_number, function_number}
use Rattle.typed_expressions.proofs.called.function.Goals as goal

pub returns-in-None : goal.returns-in-None
returns-in-None c =
    let b = c.args.bodies.now in
    ap (λ o. by_number b.headings o) (c.in-None.ensures ∙ b.numbered.at c.args.name.now) ∙ sym (function_number b.headings c.args.name.now)

pub returns-in-None-get : goal.returns-in-None-get
returns-in-None-get c =
    let b = c.args.bodies.now in
    ap (λ o. told c.in-Some.number o) c.in-None-get.ensures.value
    ∙ ap (λ o. by_number b.headings o) (c.in-Some.ensures ∙ b.numbered.at c.args.name.now) ∙ sym (function_number b.headings c.args.name.now)

pub returns-in-Some-get : goal.returns-in-Some-get
returns-in-Some-get c =
    let b = c.args.bodies.now in
    ap (λ o. told c.in-Some.number o) c.in-Some-get.ensures.value
    ∙ ap (λ o. by_number b.headings o) (c.in-Some.ensures ∙ b.numbered.at c.args.name.now) ∙ sym (function_number b.headings c.args.name.now)
