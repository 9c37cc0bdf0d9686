use Rattle.std.proofs.Common.{All}
use Rattle.oc_lines.specs.MemoryLines.{IsUnused}
use Rattle.oc_lines.proofs.tests.lines_with.Given as goal

abbrev pub invariant-loop-bytes : goal.invariant-loop-bytes
invariant-loop-bytes l = All IsUnused l.lines.items
