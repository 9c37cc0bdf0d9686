use Rattle.std.proofs.Common.{◌≡◌, ◌+◌, ◌≤◌, drop}
use Rattle.type_rules.specs.Written.{count_before}
use Rattle.typed_headings.proofs.structs.count_each.Given as goal

abbrev pub invariant-loop-def : goal.invariant-loop-def
invariant-loop-def l =
    record {
      counted : l.count + count_before l.spot (drop l.def-index l.defs) ≡ count_before l.spot l.defs;
      within : l.count ≤ l.def-index;
    }
