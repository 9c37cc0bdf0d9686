use Rattle.std.proofs.Common.{sym, ap, ◌∙◌}
use Rattle.type_rules.specs.Operators.{field_of, fields_of}
use Rattle.written_types.proofs.Firsts.{ty_of, types_at}
use Rattle.written_types.proofs.fields.struct_field.Goals as goal

pub returns-in-None : goal.returns-in-None
returns-in-None c =
    ap (λ o. field_of (fields_of (ty_of o)) c.args.name.now) c.in-None.ensures.value
    ∙ ap (λ o. field_of (fields_of o) c.args.name.now) (sym (types_at c.args.shapes.now.list c.args.number))

pub returns-in-Some : goal.returns-in-Some
returns-in-Some c =
    c.shape_field.ensures ∙ ap (λ o. field_of (fields_of (ty_of o)) c.args.name.now) c.in-Some.ensures.value
    ∙ ap (λ o. field_of (fields_of o) c.args.name.now) (sym (types_at c.args.shapes.now.list c.args.number))
