-- Places: where the token at a place stands.
use Rattle.std.specs.Prelude.{ℕ, List, [], ◌∷◌, drop}
use Rattle.oc_source.specs.declared.spot.Spot.{Spot}
use Rattle.oc_lexer.specs.declared.token.Token.{Token}

-- the spot of the first token, or that of the end
abbrev pub spot_from : Spot → List Token → Spot
spot_from end [] = end
spot_from end (t ∷ ts) = t.spot

-- the spot of the token at a place, counted from 0, or that of the end
abbrev pub place_spot : Spot → List Token → ℕ → Spot
place_spot end ts p = spot_from end (drop p ts)
