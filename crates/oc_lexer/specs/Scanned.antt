-- What is read of a text: the piece at its front, and how many bytes it has.
use Rattle.std.specs.Prelude.{ℕ, ◌+◌, ◌-◌, List, [], ◌∷◌, ◌++◌, length, get_or, drop, Option, Some, None, is_none, option_map, Bool, false, ◌&&◌, ◌||◌, not, nat_eq, codes, if◌then◌else◌}
use Rattle.std.specs.List.{starts_with}
use Rattle.oc_source.specs.declared.literal.Literal.{Literal}
use Rattle.oc_lexer.specs.declared.bytes.ByteClass.TheVariants as class
use Rattle.oc_lexer.specs.declared.kinds.Kind.{Kind}
use Rattle.oc_lexer.specs.declared.kinds.Kind.TheVariants as k
use Rattle.oc_lexer.specs.declared.numbers.Suffix.{Suffix}
use Rattle.oc_lexer.specs.declared.token.LexRule.{LexRule}
use Rattle.oc_lexer.specs.declared.token.LexRule.TheVariants.{L1, L2, L3, L4, L5}
use Rattle.oc_lexer.specs.declared.token.Sign.{Sign}
use Rattle.oc_lexer.specs.declared.token.TokenKind.TheVariants as t
use Rattle.oc_lexer.specs.declared.pieces.Piece.{Piece as ReadPiece}
use Rattle.oc_lexer.specs.declared.pieces.Piece.TheVariants as read
use Rattle.oc_lexer.specs.Bytes.{is_in, is_space, is_name_start, is_name_byte, is_empty, begins_with, run, after}
use Rattle.oc_lexer.specs.Kinds.{kind_at}
use Rattle.oc_lexer.specs.Comments.{ends_line}
use Rattle.oc_lexer.specs.Words.{keyword_of, word_kind, sign_text, signs}
use Rattle.oc_lexer.specs.ScannedNumbers.{literal_of, suffix_of}
use Rattle.oc_lexer.specs.Literals.{escape_value, is_text_byte, is_character_byte}
use Rattle.oc_lexer.specs.Directives.{headers}
use Rattle.oc_lexer.specs.Pieces.{Piece, Blank, Comment, Include, Define, Lexeme}

-- ---- comments

-- how many bytes stand before the first end of a comment
unfoldable pub body_length : List ℕ → Option ℕ
body_length [] = None
body_length (b ∷ []) = None
body_length (b ∷ c ∷ more) = if nat_eq b 42 && nat_eq c 47 then Some 0 else option_map (λ n. n + 1) (body_length (c ∷ more))

-- how many bytes a comment has that begins here
unfoldable pub comment_length : List ℕ → Option ℕ
comment_length text = option_map (λ n. n + 4) (body_length (drop 2 text))

-- a line ends here, or a comment begins that goes up to its end
abbrev pub is_line_end : List ℕ → Bool
is_line_end text = is_empty text || nat_eq (get_or text 0 0) 10 || (nat_eq (get_or text 0 0) 47 && nat_eq (get_or text 1 0) 47)

-- a comment begins here that only `*/` ends
abbrev pub starts_comment : List ℕ → Bool
starts_comment text = nat_eq (get_or text 0 0) 47 && nat_eq (get_or text 1 0) 42

-- ---- signs

-- the first of these signs with which a text begins
abbrev pub find_sign : List Sign → List ℕ → Option Sign
find_sign [] text = None
find_sign (x ∷ xs) text = if starts_with nat_eq text (sign_text x) then Some x else find_sign xs text

-- the longest sign with which a text begins
unfoldable pub sign_at : List ℕ → Option Sign
sign_at text = find_sign signs text

-- ---- characters and texts

-- the byte of the character literal that begins here, and how many bytes spell it
unfoldable pub character_at : List ℕ → Option (ℕ × ℕ)
character_at text =
    if nat_eq (get_or text 1 0) 92 && nat_eq (get_or text 3 0) 39 then option_map (λ v. (v, 4)) (escape_value (get_or text 2 0))
    else if is_character_byte (get_or text 1 0) && nat_eq (get_or text 2 0) 39 then Some (get_or text 1 0, 3)
    else None

-- the byte that stands first in a text, and how many bytes spell it
unfoldable pub element_at : List ℕ → Option (ℕ × ℕ)
element_at [] = None
element_at (b ∷ more) =
    if nat_eq b 92 then option_map (λ v. (v, 2)) (escape_value (get_or more 0 0))
    else if is_text_byte b then Some (b, 1)
    else None

-- what was read of a text, with bytes before it that n bytes spell
abbrev pub onto : List ℕ → ℕ → Option (List ℕ × ℕ) → Option (List ℕ × ℕ)
onto bytes n None = None
onto bytes n (Some (more, m)) = Some (bytes ++ more, n + m)

-- the same with the value of an escape before it, none where that is no escape
abbrev pub onto_escape : Option ℕ → Option (List ℕ × ℕ) → Option (List ℕ × ℕ)
onto_escape (Some v) o = onto (v ∷ []) 2 o
onto_escape None o = None

-- the bytes of a text up to the quote that closes it, and how many bytes spell them, with that quote
unfoldable pub quoted : List ℕ → Option (List ℕ × ℕ)
quoted [] = None
quoted (b ∷ []) = if nat_eq b 34 then Some ([], 1) else None
quoted (b ∷ c ∷ more) =
    if nat_eq b 34 then Some ([], 1)
    else if nat_eq b 92 then onto_escape (escape_value c) (quoted more)
    else if is_text_byte b then onto (b ∷ []) 1 (quoted (c ∷ more))
    else None

-- ---- directives

-- how many bytes the first of these headers has with which a text begins
abbrev pub find_header : List (List ℕ) → List ℕ → Option ℕ
find_header [] text = None
find_header (x ∷ xs) text = if starts_with nat_eq text x then Some (length x) else find_header xs text

-- how many bytes of a text name a header, after which the line ends
abbrev pub header_end : List ℕ → Option ℕ → Option ℕ
header_end text None = None
header_end text (Some n) = if ends_line false (drop n text) then Some n else None

-- the same of the headers that an `#include` may name
abbrev pub header_at : List ℕ → Option ℕ
header_at text = header_end text (find_header headers text)

-- how many bytes an `#include` has, whose header these bytes begin with
abbrev pub included : List ℕ → List ℕ → Option ℕ
included text rest = option_map (λ n. length text - length rest + n) (header_at rest)

-- how many bytes an accepted `#include` has that begins here
unfoldable pub include_length : List ℕ → Option ℕ
include_length text = if starts_with nat_eq text (codes "#include") then included text (after is_space (drop 8 text)) else None

-- a name that a `#define` may take
abbrev pub is_free_name : List ℕ → Bool
is_free_name name = begins_with is_name_start name && is_none (keyword_of name)

-- whether a `#define` may have these blanks and this name, and only blanks and comments end its line
abbrev pub is_definition : List ℕ → List ℕ → List ℕ → List ℕ → Bool
is_definition gap name second rest = not (is_empty gap) && not (is_empty second) && is_free_name name && ends_line false rest

-- the name, the literal and the number of bytes of a `#define` of these parts
abbrev pub defined_as : List ℕ → List ℕ → List ℕ → List ℕ → List ℕ → List ℕ → Option (List ℕ × Literal × ℕ)
defined_as text gap name second number rest =
    if is_definition gap name second rest then option_map (λ literal. (name, literal, length text - length rest)) (literal_of number)
    else None

-- the same, where the number is what comes next
abbrev pub define_number : List ℕ → List ℕ → List ℕ → List ℕ → List ℕ → Option (List ℕ × Literal × ℕ)
define_number text gap name second rest = defined_as text gap name second (run (is_in class.Number) rest) (after (is_in class.Number) rest)

-- the same, where the blanks before the number come next
abbrev pub define_second : List ℕ → List ℕ → List ℕ → List ℕ → Option (List ℕ × Literal × ℕ)
define_second text gap name rest = define_number text gap name (run is_space rest) (after is_space rest)

-- the same, where the name comes next
abbrev pub define_name : List ℕ → List ℕ → List ℕ → Option (List ℕ × Literal × ℕ)
define_name text gap rest = define_second text gap (run is_name_byte rest) (after is_name_byte rest)

-- the same, where the blanks before the name come next
abbrev pub define_after : List ℕ → List ℕ → Option (List ℕ × Literal × ℕ)
define_after text rest = define_name text (run is_space rest) (after is_space rest)

-- the name, the literal and the number of bytes of a `#define` that begins here, whether the name is new or not
unfoldable pub define_at : List ℕ → Option (List ℕ × Literal × ℕ)
define_at text = if starts_with nat_eq text (codes "#define") then define_after text (drop 7 text) else None

-- ---- pieces

-- the piece that was read, with the bytes of a name that it borrows
abbrev pub piece_of : ReadPiece → Piece
piece_of read.Blank = Blank
piece_of read.Comment = Comment
piece_of read.Include = Include
piece_of (read.Define name literal) = Define name.now literal
piece_of (read.Lexeme kind) = Lexeme kind

-- the token of a number that n bytes spell, and n, none where they spell no literal
abbrev pub lexeme_of_length : ℕ → Option Literal → Option (Piece × ℕ)
lexeme_of_length n (Some literal) = Some (Lexeme (t.Number literal), n)
lexeme_of_length n None = None

-- a `#define` as a piece, and how many bytes it has
abbrev pub defined_piece : Option (List ℕ × Literal × ℕ) → Option (Piece × ℕ)
defined_piece found = option_map (λ d. (Define d.0 d.1, d.2)) found

-- an `#include` of this many bytes, and where there is none the `#define` that begins here
abbrev pub directive_of : Option ℕ → List ℕ → Option (Piece × ℕ)
directive_of (Some n) text = Some (Include, n)
directive_of None text = defined_piece (define_at text)

-- the piece that begins so, and how many bytes it has
abbrev pub piece_by : Kind → List ℕ → Option (Piece × ℕ)
piece_by k.Blank text = Some (Blank, 1)
piece_by k.LineComment text = Some (Comment, length (run (is_in class.Line) text))
piece_by k.BlockComment text = option_map (λ n. (Comment, n)) (comment_length text)
piece_by k.Directive text = directive_of (include_length text) text
piece_by k.Word text =
    Some (Lexeme (word_kind (keyword_of (run is_name_byte text)) (run is_name_byte text)), length (run is_name_byte text))
piece_by k.Number text = lexeme_of_length (length (run (is_in class.Number) text)) (literal_of (run (is_in class.Number) text))
piece_by k.Character text = option_map (λ c. (Lexeme (t.Character c.0), c.1)) (character_at text)
piece_by k.Text text = option_map (λ c. (Lexeme (t.Text c.0), c.1 + 1)) (quoted (drop 1 text))
piece_by k.Sign text = option_map (λ s. (Lexeme (t.Sign s), length (sign_text s))) (sign_at text)

-- the piece at the front of a text and its length; the flag says if only blanks stand before it on its line
abbrev pub piece_at : Bool → List ℕ → Option (Piece × ℕ)
piece_at is_fresh text = piece_by (kind_at is_fresh text) text

-- ---- refusals

-- the rule that a run of bytes breaks which is no literal, by the suffix that was read of it
abbrev pub number_rule : Option Suffix → LexRule
number_rule None = L3
number_rule (Some suffix) = L4

-- the rule that a text breaks which begins so and spells nothing
abbrev pub rule_of : Kind → List ℕ → LexRule
rule_of k.Blank text = L1
rule_of k.Word text = L1
rule_of k.Character text = L1
rule_of k.Text text = L1
rule_of k.Sign text = L1
rule_of k.LineComment text = L1
rule_of k.BlockComment text = L2
rule_of k.Number text = number_rule (suffix_of (run (is_in class.Number) text))
rule_of k.Directive text = L5
