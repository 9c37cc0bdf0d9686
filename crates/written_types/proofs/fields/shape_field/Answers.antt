use Rattle.std.proofs.Common.{Some, None, sym, ap, ◌∙◌}
use Rattle.written_types.proofs.Firsts.{got, field_number}
use Rattle.written_types.proofs.fields.shape_field.Goals as goal

pub returns-in-None : goal.returns-in-None
returns-in-None c =
    let s = c.args.shape.now in
    ap (λ o. got s.ty.fields o) (c.in-None.ensures ∙ s.numbered.at c.args.name.now) ∙ sym (field_number s.ty.fields c.args.name.now)

pub returns-in-Some : goal.returns-in-Some
returns-in-Some c =
    let s = c.args.shape.now in
    c.get.ensures.value ∙ ap (λ o. got s.ty.fields o) (c.in-Some.ensures ∙ s.numbered.at c.args.name.now) ∙ sym (field_number s.ty.fields c.args.name.now)
