use Rattle.std.proofs.Common.{◌≡◌, [], drop}
use Rattle.type_rules.specs.Written.{struct_names, public_from}
use Rattle.typed_structs.proofs.names.public_structs.Given as goal

abbrev pub invariant-loop-def : goal.invariant-loop-def
invariant-loop-def l =
    public_from (struct_names l.names.defs.now) l.public (drop l.def-index l.names.defs.now) ≡ public_from (struct_names l.names.defs.now) [] l.names.defs.now
