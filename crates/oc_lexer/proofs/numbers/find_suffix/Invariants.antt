use Rattle.std.proofs.Common.{◌≡◌, drop, map}
use Rattle.std.specs.Map.{lookup}
use Rattle.std.specs.Str.{bytes_eq}
use Rattle.oc_lexer.proofs.numbers.find_suffix.Given as goal

abbrev pub invariant-loop-spelling : goal.invariant-loop-spelling
invariant-loop-spelling l = lookup (bytes_eq l.text) (map (λ s. (s.0.now, s.1)) (drop l.spelling-index l.suffixes)) ≡ lookup (bytes_eq l.text) (map (λ s. (s.0.now, s.1)) l.suffixes)
