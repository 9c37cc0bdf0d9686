-- A place is moved on, byte after byte.
use Rattle.std.specs.Prelude.{ℕ, ◌+◌, List, [], ◌∷◌, length, fold, Option, true, ◌&&◌, if◌then◌else◌}
use Rattle.oc_lexer.specs.declared.places.Place.{Place}
use Rattle.oc_lexer.specs.declared.token.Token.{Token}
use Rattle.oc_lexer.specs.Bytes.{is_blank}
use Rattle.oc_source.specs.declared.literal.Literal.{Literal}
use Rattle.oc_lexer.specs.Pieces.{Piece, Blank, Comment, Include, Define, Lexeme}
use Rattle.oc_lexer.specs.Sources.{replaced_by}
use Rattle.oc_lexer.specs.Places.{is_newline, spot_after, is_fresh_after}

-- the place after these bytes of a source
abbrev pub place_of : List ℕ → Place
place_of front = record { at = length front; spot = spot_after front; is_fresh = is_fresh_after front }

-- the place after one more byte
abbrev pub stepped : Place → ℕ → Place
stepped p b =
    if is_newline b then record { at = p.at + 1; spot = record { line = p.spot.line + 1; column = 1 }; is_fresh = true }
    else record { at = p.at + 1; spot = record { line = p.spot.line; column = p.spot.column + 1 }; is_fresh = p.is_fresh && is_blank b }

-- the place after a further text
abbrev pub passed : Place → List ℕ → Place
passed p text = fold stepped p text

-- the token of a piece that begins and ends at these places
abbrev pub token_between : (List ℕ → Option Literal) → Place → Place → Piece → List Token
token_between known from to Blank = []
token_between known from to Comment = []
token_between known from to Include = []
token_between known from to (Define name literal) = []
token_between known from to (Lexeme kind) = record { kind = replaced_by known kind; from = from.at; to = to.at; spot = from.spot } ∷ []
