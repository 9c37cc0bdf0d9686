use Rattle.type_rules.specs.Written.{struct_names}
use Rattle.typed_structs.proofs.Naming.{one_public, not_public, no_more_public}
use Rattle.typed_structs.proofs.names.some_public_field.Goals as goal

pub returns-then-field_public : goal.returns-then-field_public
returns-then-field_public c =
    one_public (struct_names c.args.names.now.defs.now) c.args.known.now c.args.fields.now _ _ _ _ c.loop-field.invariant c.field-item.is c.loop-field-test.true c.field_public.ensures c.if-field_public.true

pub loop-field-preserved : goal.loop-field-preserved
loop-field-preserved c =
    not_public (struct_names c.args.names.now.defs.now) c.args.known.now c.args.fields.now _ _ _ _ c.loop-field.invariant c.field-item.is c.loop-field-test.true c.field_public.ensures c.if-field_public.false

pub returns : goal.returns
returns c = no_more_public (struct_names c.args.names.now.defs.now) c.args.known.now c.args.fields.now _ _ c.loop-field.invariant c.loop-field-test.false
