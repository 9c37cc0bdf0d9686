-- The pieces of a source: blanks, comments, directives and the spellings of tokens, each the longest that can start there.
use Rattle.std.specs.Prelude.{ℕ, ◌≡◌, ◌≤◌, ◌⊎◌, List, [], ◌∷◌, ◌++◌, length, map, Bool, not, IsTrue}
use Rattle.std.specs.List.{list_all}
use Rattle.oc_source.specs.declared.literal.Literal.{Literal}
use Rattle.oc_lexer.specs.declared.bytes.ByteClass.TheVariants as class
use Rattle.oc_lexer.specs.declared.kinds.Kind.{Kind}
use Rattle.oc_lexer.specs.declared.kinds.Kind.TheVariants as k
use Rattle.oc_lexer.specs.declared.token.TokenKind.{TokenKind}
use Rattle.oc_lexer.specs.declared.token.TokenKind.TheVariants as t
use Rattle.oc_lexer.specs.declared.token.Sign.{Sign}
use Rattle.oc_lexer.specs.Bytes.{is_in, is_name_byte, begins_with}
use Rattle.oc_lexer.specs.Kinds.{kind_at}
use Rattle.oc_lexer.specs.Comments.{has_end}
use Rattle.oc_lexer.specs.Words.{keyword_of, word_kind, sign_text}
use Rattle.oc_lexer.specs.Numbers.{SpellsNumber}
use Rattle.oc_lexer.specs.Literals.{Element, element_text, element_value, elements_text, is_element, is_text_byte, is_character_byte}
use Rattle.oc_lexer.specs.Directives.{Includes, Defines}

-- a piece of a source: a blank, a comment, a directive or a token
pub data Piece : Type 0 where
  Blank : Piece
  Comment : Piece
  Include : Piece
  -- the name stands for the number from here on
  Define : List ℕ → Literal → Piece
  -- a token, as it is where no `#define` names it
  Lexeme : TokenKind → Piece

-- the text is a run of this class that the rest doesn't go on with
pub record IsRun (p : ℕ → Bool) (text rest : List ℕ) : Type 0 where
  pub all : IsTrue (list_all p text)
  pub longest : IsTrue (not (begins_with p rest))

-- the sign is spelled, and no longer sign stands there
pub record SpellsSign (s : Sign) (text rest : List ℕ) : Type 0 where
  pub spelled : text ≡ sign_text s
  pub longest : (longer : Sign) (more : List ℕ) → text ++ rest ≡ sign_text longer ++ more → length (sign_text longer) ≤ length text

-- the text is a character literal, with its quotes, that stands for this byte
pub record SpellsCharacter (b : ℕ) (text : List ℕ) : Type 0 where
  pub element : Element
  pub whole : text ≡ 39 ∷ (element_text element ++ 39 ∷ [])
  pub fits : IsTrue (is_element is_character_byte element)
  pub value : b ≡ element_value element

-- the text is a text literal, with its quotes, that stands for these bytes
pub record SpellsText (bytes text : List ℕ) : Type 0 where
  pub elements : List Element
  pub whole : text ≡ 34 ∷ (elements_text elements ++ 34 ∷ [])
  pub fit : IsTrue (list_all (is_element is_text_byte) elements)
  pub value : bytes ≡ map element_value elements

-- what a text of each beginning spells: one piece, whose text this is, before this rest of the source
abbrev pub Spelled : Kind → Piece → List ℕ → List ℕ → Type 0
Spelled k.Blank piece text rest = (piece ≡ Blank) × (length text ≡ 1)
Spelled k.LineComment piece text rest = (piece ≡ Comment) × IsRun (is_in class.Line) text rest
Spelled k.BlockComment piece text rest =
    (piece ≡ Comment) × ((body : List ℕ) × (text ≡ 47 ∷ (42 ∷ (body ++ 42 ∷ (47 ∷ [])))) × IsTrue (not (has_end body)))
Spelled k.Directive piece text rest =
    ((piece ≡ Include) × Includes text rest)
    ⊎ ((name : List ℕ) × (literal : Literal) × (piece ≡ Define name literal) × Defines name literal text rest)
Spelled k.Word piece text rest = (piece ≡ Lexeme (word_kind (keyword_of text) text)) × IsRun is_name_byte text rest
Spelled k.Number piece text rest =
    (literal : Literal) × (piece ≡ Lexeme (t.Number literal)) × SpellsNumber literal text × IsRun (is_in class.Number) text rest
Spelled k.Character piece text rest = (b : ℕ) × (piece ≡ Lexeme (t.Character b)) × SpellsCharacter b text
Spelled k.Text piece text rest = (bytes : List ℕ) × (piece ≡ Lexeme (t.Text bytes)) × SpellsText bytes text
Spelled k.Sign piece text rest = (s : Sign) × (piece ≡ Lexeme (t.Sign s)) × SpellsSign s text rest

-- the text spells the piece, where the flag says whether only blanks stand before it on its line
abbrev pub SpellsPiece : Bool → Piece → List ℕ → List ℕ → Type 0
SpellsPiece is_fresh piece text rest = Spelled (kind_at is_fresh (text ++ rest)) piece text rest
