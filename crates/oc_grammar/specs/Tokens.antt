-- Tokens: what a token is, and where a list of tokens begins.
use Rattle.std.specs.Prelude.{◌≡◌, List, [], ◌∷◌, Option, Some}
use Rattle.oc_source.specs.declared.spot.Spot.{Spot}
use Rattle.oc_lexer.specs.declared.token.Token.{Token}
use Rattle.oc_lexer.specs.declared.token.TokenKind.{TokenKind}
use Rattle.oc_lexer.specs.declared.token.TokenKind.TheVariants.{Sign}
use Rattle.oc_lexer.specs.declared.token.Sign.{Sign as SignType}

-- the token has this kind
pub record Is (k : TokenKind) (t : Token) : Type 0 where
  pub kind : t.kind ≡ k

-- A token of this kind comes first, and then the rest.
pub record Starts (k : TokenKind) (ts rest : List Token) : Type 0 where
  pub token : Token
  pub is : Is k token
  pub whole : ts ≡ token ∷ rest

-- a token of another kind comes next, or none
abbrev pub NotNext : TokenKind → List Token → Type 0
NotNext k [] = Unit {0}
NotNext k (t ∷ ts) = Is k t → ⊥

-- the spot of the first token; no form of the grammar has no tokens where its spot is asked for
abbrev pub spot_at : List Token → Spot
spot_at [] = record { line = 1; column = 1 }
spot_at (t ∷ ts) = t.spot

-- A sign of which the table says `said` comes first, and then the rest.
pub record SignStarts {R : Type 0} (table : SignType → Option R) (ts : List Token) (said : R) (rest : List Token) : Type 0 where
  pub token : Token
  pub sign : SignType
  pub is : Is (Sign sign) token
  pub says : table sign ≡ Some said
  pub whole : ts ≡ token ∷ rest

-- no sign of the table comes next
abbrev pub NoSign : {R : Type 0} → (SignType → Option R) → List Token → Type 0
NoSign {R} table [] = Unit {0}
NoSign {R} table (t ∷ ts) = (sign : SignType) (said : R) → Is (Sign sign) t → table sign ≡ Some said → ⊥
