-- Where a fault is a refusal.
use Rattle.oc_source.specs.declared.spot.Spot.{Spot}
use Rattle.oc_lexer.specs.declared.token.LexRule.{LexRule}
use Rattle.oc_lexer.specs.declared.token.LexFault.{LexFault}
use Rattle.oc_lexer.specs.declared.token.LexFault.TheVariants.{Refused, NoMemory}

-- a fact of the rule and the spot of a refusal; want of memory says nothing
abbrev pub IfRefused : LexFault → (LexRule → Spot → Type 0) → Type 0
IfRefused (Refused rule spot) P = P rule spot
IfRefused NoMemory P = Unit {0}
