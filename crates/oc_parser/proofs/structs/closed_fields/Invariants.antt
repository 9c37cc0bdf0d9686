use Rattle.std.proofs.Common.{◌<◌, length}
use Rattle.oc_grammar.specs.Parsing.{Leaves, Any}
use Rattle.oc_parser.specs.Continuations.{FieldRun, closed_fields}
use Rattle.oc_parser.proofs.structs.closed_fields.Given as goal

abbrev pub invariant-loop-after : goal.invariant-loop-after
invariant-loop-after l = record {
  reads : Leaves closed_fields Any l.tokens (FieldRun l.found) l.rest;
  shorter : length l.rest < length l.tokens;
}

abbrev pub decreases-loop-after : goal.decreases-loop-after
decreases-loop-after l = length l.rest
