use Rattle.std.proofs.Common.{drop}
use Rattle.numbered_scopes.specs.Numbered.{numbered_functions}
use Rattle.frozen_rules.proofs.Sequences.{Left}
use Rattle.frozen_rules.proofs.functions.check_functions.Given as goal

abbrev pub invariant-loop-f : goal.invariant-loop-f
invariant-loop-f l =
    Left (numbered_functions l.typed.structs l.typed.functions (drop l.f-index l.f-items)) (numbered_functions l.typed.structs l.typed.functions l.f-items)
