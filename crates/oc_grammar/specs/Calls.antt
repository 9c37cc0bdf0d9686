-- Calls: what a call that reads a form answers.
use Rattle.std.specs.Prelude.{ℕ, List, [], ◌∷◌, Result, Ok, Err}
use Rattle.std.specs.Borrow.{Bor}
use Rattle.oc_source.specs.declared.spot.Spot.{Spot}
use Rattle.oc_lexer.specs.declared.token.Token.{Token}
use Rattle.oc_lexer.specs.declared.token.TokenKind.{TokenKind}
use Rattle.oc_lexer.specs.declared.token.TokenKind.TheVariants.{Name}
use Rattle.oc_grammar.specs.declared.taking.Named.{Named}
use Rattle.oc_grammar.specs.Tokens.{Is, spot_at}
use Rattle.oc_grammar.specs.Parsing.{Found, Refused, Any}
use Rattle.oc_grammar.specs.declared.ParseError.{ParseError}
use Rattle.oc_grammar.specs.declared.ParseError.TheVariants.{Unexpected, NoMemory}

-- the error says where the form is refused
abbrev pub Fails : {A : Type 0} → (A → List Token → Type 0) → (A → List Token → Type 0) → List Token → ParseError → Type 0
Fails form stop ts (Unexpected rest) = Refused form stop ts rest.now
Fails form stop ts NoMemory = Unit {0}

-- a value, and the tokens after it
abbrev pub Reads : {A : Type 0} → (A → List Token → Type 0) → (A → List Token → Type 0) → List Token →
    Result (A × Bor (List Token)) ParseError → Type 0
Reads form stop ts (Ok p) = Found form stop ts p.0 p.1.now
Reads form stop ts (Err e) = Fails form stop ts e

-- the tokens after a form without a value
abbrev pub Passes : (Unit {0} → List Token → Type 0) → List Token → Result (Bor (List Token)) ParseError → Type 0
Passes form ts (Ok p) = Found form Any ts tt p.now
Passes form ts (Err e) = Fails form Any ts e

-- the one token of this kind
pub data One (k : TokenKind) : Unit {0} → List Token → Type 0 where
  one : {t : Token} → Is k t → One k tt (t ∷ [])

-- a name, with its spot
pub data ANamed : Named → List Token → Type 0 where
  a_named : {n : List ℕ} {t : Token} → Is (Name n) t → ANamed (record { spot = t.spot; name = n }) (t ∷ [])

-- a form, with the spot of its first token
pub data Placed {A : Type 0} (form : A → List Token → Type 0) : Spot × A → List Token → Type 0 where
  placed : {v : A} {x : List Token} → form v x → Placed form (spot_at x, v) x
