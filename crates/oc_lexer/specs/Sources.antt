-- The tokens of a source, as a relation on the whole text, and the one place at which a source without tokens is refused.
use Rattle.std.specs.Prelude.{ℕ, ◌≡◌, ◌≤◌, ◌<◌, ◌⊎◌, List, [], ◌∷◌, ◌++◌, length, Option, Some, None, is_none, Bool, true, IsTrue}
use Rattle.std.specs.Map.{lookup}
use Rattle.std.specs.Str.{bytes_eq}
use Rattle.oc_source.specs.declared.spot.Spot.{Spot}
use Rattle.oc_source.specs.declared.literal.Literal.{Literal}
use Rattle.oc_lexer.specs.declared.bytes.ByteClass.TheVariants as class
use Rattle.oc_lexer.specs.declared.kinds.Kind.{Kind}
use Rattle.oc_lexer.specs.declared.kinds.Kind.TheVariants as k
use Rattle.oc_lexer.specs.declared.token.LexRule.{LexRule}
use Rattle.oc_lexer.specs.declared.token.LexRule.TheVariants.{L1, L2, L3, L4, L5, L6}
use Rattle.oc_lexer.specs.declared.token.Token.{Token}
use Rattle.oc_lexer.specs.declared.token.TokenKind.{TokenKind}
use Rattle.oc_lexer.specs.declared.token.TokenKind.TheVariants as t
use Rattle.oc_lexer.specs.Bytes.{is_in, run}
use Rattle.oc_lexer.specs.Kinds.{kind_at}
use Rattle.oc_lexer.specs.Numbers.{IsNoNumber, IsTooLarge}
use Rattle.oc_lexer.specs.Places.{spot_after, is_fresh_after}
use Rattle.oc_lexer.specs.Pieces.{Piece, Blank, Comment, Include, Define, Lexeme, SpellsPiece}

-- ---- what the `#define`s before a piece say

-- defined names, each with its number, the last one first
abbrev pub Definitions : Type 0
Definitions = List (List ℕ × Literal)

-- the literal that a name stands for, if it is defined
abbrev pub defined : Definitions → List ℕ → Option Literal
defined ds name = lookup (bytes_eq name) ds

-- the definitions after one more piece
abbrev pub with_piece : Definitions → Piece → Definitions
with_piece ds Blank = ds
with_piece ds Comment = ds
with_piece ds Include = ds
with_piece ds (Define name literal) = (name, literal) ∷ ds
with_piece ds (Lexeme kind) = ds

-- whether a name that the piece defines is not known yet
abbrev pub is_new_by : (List ℕ → Option Literal) → Piece → Bool
is_new_by known Blank = true
is_new_by known Comment = true
is_new_by known Include = true
is_new_by known (Define name literal) = is_none (known name)
is_new_by known (Lexeme kind) = true

-- the same, where these are the definitions before the piece
abbrev pub is_new : Definitions → Piece → Bool
is_new ds piece = is_new_by (defined ds) piece

-- the token of a name: the number that it stands for, or else the name itself
abbrev pub number_or_name : Option Literal → List ℕ → TokenKind
number_or_name (Some literal) name = t.Number literal
number_or_name None name = t.Name name

-- a token, where a name that is known is its number
abbrev pub replaced_by : (List ℕ → Option Literal) → TokenKind → TokenKind
replaced_by known (t.Name name) = number_or_name (known name) name
replaced_by known (t.Keyword keyword) = t.Keyword keyword
replaced_by known (t.Number literal) = t.Number literal
replaced_by known (t.Character byte) = t.Character byte
replaced_by known (t.Text bytes) = t.Text bytes
replaced_by known (t.Sign sign) = t.Sign sign

-- ---- pieces one after the other

-- a piece and its text
pub record Laid : Type 0 where
  pub piece : Piece
  pub text : List ℕ

-- the texts of pieces, one after the other
abbrev pub laid : List Laid → List ℕ
laid [] = []
laid (l ∷ ls) = l.text ++ laid ls

-- the pieces stand one after the other, after this front of the source and these definitions, and before this rest of it
abbrev pub AreLaid : List ℕ → Definitions → List Laid → List ℕ → Type 0
AreLaid front ds [] rest = Unit {0}
AreLaid front ds (l ∷ ls) rest =
    SpellsPiece (is_fresh_after front) l.piece l.text (laid ls ++ rest) × IsTrue (is_new ds l.piece)
    × AreLaid (front ++ l.text) (with_piece ds l.piece) ls rest

-- the definitions after further pieces
abbrev pub definitions : Definitions → List Laid → Definitions
definitions ds [] = ds
definitions ds (l ∷ ls) = definitions (with_piece ds l.piece) ls

-- the token of a piece with this text, after this front of the source
abbrev pub token_by : (List ℕ → Option Literal) → List ℕ → List ℕ → Piece → List Token
token_by known front text Blank = []
token_by known front text Comment = []
token_by known front text Include = []
token_by known front text (Define name literal) = []
token_by known front text (Lexeme kind) =
    record { kind = replaced_by known kind; from = length front; to = length (front ++ text); spot = spot_after front } ∷ []

-- the tokens of pieces, after this front of the source and these definitions
abbrev pub tokens_of : List ℕ → Definitions → List Laid → List Token
tokens_of front ds [] = []
tokens_of front ds (l ∷ ls) = token_by (defined ds) front l.text l.piece ++ tokens_of (front ++ l.text) (with_piece ds l.piece) ls

-- ---- a whole source

-- these are the tokens of the source
pub record Spells (source : List ℕ) (tokens : List Token) : Type 0 where
  pub size : length source ≤ 1048576
  pub pieces : List Laid
  pub text : source ≡ laid pieces
  pub spelled : AreLaid [] [] pieces []
  pub given : tokens ≡ tokens_of [] [] pieces

-- a text that begins with a digit breaks one rule where it is no number, and another where no kind holds the number
abbrev pub IsNumberRule : List ℕ → LexRule → Type 0
IsNumberRule text rule = ((rule ≡ L3) × IsNoNumber text) ⊎ ((rule ≡ L4) × IsTooLarge text)

-- the rule that a text breaks which begins so and spells nothing
abbrev pub IsRule : Kind → List ℕ → LexRule → Type 0
IsRule k.Blank text rule = rule ≡ L1
IsRule k.Word text rule = rule ≡ L1
IsRule k.Character text rule = rule ≡ L1
IsRule k.Text text rule = rule ≡ L1
IsRule k.Sign text rule = rule ≡ L1
IsRule k.LineComment text rule = rule ≡ L1
IsRule k.BlockComment text rule = rule ≡ L2
IsRule k.Number text rule = IsNumberRule (run (is_in class.Number) text) rule
IsRule k.Directive text rule = rule ≡ L5

-- no piece can start after this front of the source, where this rest of it stands
abbrev pub IsStuck : List ℕ → Definitions → List ℕ → Type 0
IsStuck front ds text =
    (piece : Piece) (spelling rest : List ℕ) → text ≡ spelling ++ rest
    → SpellsPiece (is_fresh_after front) piece spelling rest → IsTrue (is_new ds piece) → ⊥

-- after some pieces the source goes on where no piece can start: there it breaks the rule
pub record BreaksOff (source : List ℕ) (broken : LexRule) (at : Spot) : Type 0 where
  pub pieces : List Laid
  pub rest : List ℕ
  pub text : source ≡ laid pieces ++ rest
  pub some : rest ≡ [] → ⊥
  pub spelled : AreLaid [] [] pieces rest
  pub stuck : IsStuck (laid pieces) (definitions [] pieces) rest
  pub rule : IsRule (kind_at (is_fresh_after (laid pieces)) rest) rest broken
  pub spot : at ≡ spot_after (laid pieces)

-- the source has no tokens, since it breaks this rule at this spot
abbrev pub HasNoTokens : List ℕ → LexRule → Spot → Type 0
HasNoTokens source rule spot =
    ((1048576 < length source) × (rule ≡ L6) × (spot ≡ spot_after []))
    ⊎ ((length source ≤ 1048576) × BreaksOff source rule spot)
