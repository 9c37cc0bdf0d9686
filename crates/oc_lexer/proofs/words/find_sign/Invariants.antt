use Rattle.std.proofs.Common.{◌≡◌, drop}
use Rattle.oc_lexer.specs.Scanned.{find_sign}
use Rattle.oc_lexer.proofs.words.find_sign.Given as goal

abbrev pub invariant-loop-sign : goal.invariant-loop-sign
invariant-loop-sign l = find_sign (drop l.sign-index l.signs) l.text ≡ find_sign l.signs l.text
