use Rattle.std.proofs.Common.{take}
use Rattle.type_rules.specs.Written.{struct_names}
use Rattle.written_types.specs.Numbers.{Numbers}
use Rattle.typed_structs.proofs.names.numbered.Given as goal

abbrev pub invariant-loop-number : goal.invariant-loop-number
invariant-loop-number l = Numbers l.numbers (struct_names (take l.number l.defs))
