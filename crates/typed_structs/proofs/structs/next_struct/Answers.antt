use Rattle.std.proofs.Common.{ap, refl}
use Rattle.type_rules.specs.Written.{struct_type}
use Rattle.type_steps.proofs.Steps.{said_as}
use Rattle.typed_structs.proofs.AllStructs.{known_as}
use Rattle.typed_structs.proofs.structs.next_struct.Goals as goal

pub returns-clause-typed : goal.returns-clause-typed
returns-clause-typed c =
    said_as (ap (λ g. struct_type g c.args.def.now) (known_as c.args.names.now c.args.shapes.now _ _ _ c.len-above.ensures c.requires refl)) c.struct_type.ensures.typed
