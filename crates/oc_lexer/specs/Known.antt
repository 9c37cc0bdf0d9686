-- What a map of defined names tells.
use Rattle.std.specs.Prelude.{ℕ, ◌≡◌, List, Option, Some, None, if◌then◌else◌}
use Rattle.std.specs.Map.{update}
use Rattle.std.specs.Str.{bytes_eq}
use Rattle.std.specs.Ordering.{nat_cmp}
use Rattle.std.specs.Cmp.Lexicographic.{slice_cmp}
use Rattle.std.specs.BTreeMap.{BTreeMap, get_by}
use denote.Ref.{Bor}
use Rattle.oc_source.specs.declared.literal.Literal.{Literal}
use Rattle.oc_lexer.specs.Sources.{Definitions, defined, is_new_by}
use Rattle.oc_lexer.specs.Pieces.{Piece, Blank, Comment, Include, Define, Lexeme}

-- the literal at a name
abbrev pub get_at : BTreeMap (Bor (List ℕ)) Literal → List ℕ → Option Literal
get_at m name = get_by (λ k. slice_cmp nat_cmp name k.now) m

-- the map has these definitions
abbrev pub Knows : BTreeMap (Bor (List ℕ)) Literal → Definitions → Type 0
Knows m ds = (name : List ℕ) → get_at m name ≡ defined ds name

-- what is known after a piece
abbrev pub known_after : (List ℕ → Option Literal) → Piece → List ℕ → Option Literal
known_after known Blank name = known name
known_after known Comment name = known name
known_after known Include name = known name
known_after known (Define defined literal) name = update bytes_eq known defined (Some literal) name
known_after known (Lexeme kind) name = known name

-- a piece whose name, where it defines one, is new
abbrev pub filtered : (List ℕ → Option Literal) → Option (Piece × ℕ) → Option (Piece × ℕ)
filtered known None = None
filtered known (Some found) = if is_new_by known found.0 then Some found else None
