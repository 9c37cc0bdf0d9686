use Rattle.std.proofs.Common.{◌≡◌, ◌≤◌, ◌+◌, ◌-◌, drop, length}
use Rattle.oc_lexer.specs.Moving.{passed}
use Rattle.oc_lexer.proofs.places.passed.Given as goal

abbrev pub invariant-loop-byte : goal.invariant-loop-byte
invariant-loop-byte l = record {
  so_far : passed l.after (drop l.byte-index l.text) ≡ passed l.fn.place l.text;
  at : l.after.at + (length l.text - l.byte-index) ≤ 4294967295;
  line : l.after.spot.line + (length l.text - l.byte-index) ≤ 4294967295;
  column : l.after.spot.column + (length l.text - l.byte-index) ≤ 4294967295;
}
