use Rattle.std.proofs.Common.{◌≡◌, ◌+◌, ◌*◌, drop}
use Rattle.std.specs.Prelude.{fold}
use Rattle.oc_lexer.specs.Numbers.{base_of, digit_value, value_of}
use Rattle.oc_lexer.proofs.numbers.value_of.Given as goal

abbrev pub invariant-loop-byte : goal.invariant-loop-byte
invariant-loop-byte l = fold (λ v b. v * base_of l.form + digit_value b) l.value (drop l.byte-index l.digits) ≡ value_of (base_of l.form) l.digits
