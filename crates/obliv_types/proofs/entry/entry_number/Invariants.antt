use Rattle.std.proofs.Common.{◌≡◌, drop}
use Rattle.type_rules.specs.ProgramRules.{entry_from}
use Rattle.obliv_types.proofs.entry.entry_number.Given as goal

abbrev pub invariant-loop-i : goal.invariant-loop-i
invariant-loop-i l = entry_from l.i (drop l.i l.headings) ≡ entry_from 0 l.headings
