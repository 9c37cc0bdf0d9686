use Rattle.typed_structs.proofs.AllStructs.{StructsLeft}
use Rattle.typed_structs.proofs.structs.type_structs.Given as goal

abbrev pub invariant-loop-def : goal.invariant-loop-def
invariant-loop-def l = StructsLeft l.names l.names.defs.now l.def-index l.shapes
