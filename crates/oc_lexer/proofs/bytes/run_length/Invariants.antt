use Rattle.std.proofs.Common.{◌≡◌, ◌+◌, length, drop}
use Rattle.oc_lexer.specs.Bytes.{is_in, run}
use Rattle.oc_lexer.proofs.bytes.run_length.Given as goal

abbrev pub invariant-loop-index : goal.invariant-loop-index
invariant-loop-index l = l.index + length (run (is_in l.class) (drop l.index l.text)) ≡ length (run (is_in l.class) l.text)
