use Rattle.std.proofs.Common.{◌≡◌, drop}
use Rattle.type_rules.specs.Written.{struct_names, some_public_field}
use Rattle.typed_structs.proofs.names.some_public_field.Given as goal

abbrev pub invariant-loop-field : goal.invariant-loop-field
invariant-loop-field l =
    some_public_field (struct_names l.names.defs.now) l.known (drop l.field-index l.fields) ≡ some_public_field (struct_names l.names.defs.now) l.known l.fields
