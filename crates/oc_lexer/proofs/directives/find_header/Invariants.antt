use Rattle.std.proofs.Common.{◌≡◌, drop, map}
use Rattle.oc_lexer.specs.Scanned.{find_header}
use Rattle.oc_lexer.proofs.directives.find_header.Given as goal

abbrev pub invariant-loop-header : goal.invariant-loop-header
invariant-loop-header l = find_header (map (λ h. h.now) (drop l.header-index l.headers)) l.text ≡ find_header (map (λ h. h.now) l.headers) l.text
