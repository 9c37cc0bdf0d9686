-- The texts of keywords and signs.
use Rattle.std.specs.Prelude.{ℕ, List, [], ◌∷◌, Option, Some, None, codes, if◌then◌else◌}
use Rattle.std.specs.Str.{bytes_eq}
use Rattle.oc_lexer.specs.declared.token.Keyword.{Keyword}
use Rattle.oc_lexer.specs.declared.token.Keyword.TheVariants as k
use Rattle.oc_lexer.specs.declared.token.Sign.{Sign}
use Rattle.oc_lexer.specs.declared.token.Sign.TheVariants as s
use Rattle.oc_lexer.specs.declared.token.TokenKind.{TokenKind}
use Rattle.oc_lexer.specs.declared.token.TokenKind.TheVariants as t

-- the bytes that spell a keyword
abbrev pub keyword_text : Keyword → List ℕ
keyword_text k.Obliv = codes "obliv"
keyword_text k.Frozen = codes "frozen"
keyword_text k.If = codes "if"
keyword_text k.Else = codes "else"
keyword_text k.While = codes "while"
keyword_text k.For = codes "for"
keyword_text k.Return = codes "return"
keyword_text k.Break = codes "break"
keyword_text k.Continue = codes "continue"
keyword_text k.Struct = codes "struct"
keyword_text k.Void = codes "void"
keyword_text k.Bool = codes "bool"
keyword_text k.UnderscoreBool = codes "_Bool"
keyword_text k.Char = codes "char"
keyword_text k.Short = codes "short"
keyword_text k.Int = codes "int"
keyword_text k.Long = codes "long"
keyword_text k.Signed = codes "signed"
keyword_text k.Unsigned = codes "unsigned"
keyword_text k.Sizeof = codes "sizeof"
keyword_text k.True = codes "true"
keyword_text k.False = codes "false"
keyword_text k.Null = codes "NULL"

-- every keyword
abbrev pub keywords : List Keyword
keywords =
    k.Obliv ∷ k.Frozen ∷ k.If ∷ k.Else ∷ k.While ∷ k.For ∷ k.Return ∷ k.Break ∷ k.Continue ∷ k.Struct
    ∷ k.Void ∷ k.Bool ∷ k.UnderscoreBool ∷ k.Char ∷ k.Short ∷ k.Int ∷ k.Long ∷ k.Signed ∷ k.Unsigned ∷ k.Sizeof
    ∷ k.True ∷ k.False ∷ k.Null ∷ []

-- the keyword among these whose text this is
abbrev pub find_keyword : List Keyword → List ℕ → Option Keyword
find_keyword [] word = None
find_keyword (x ∷ xs) word = if bytes_eq word (keyword_text x) then Some x else find_keyword xs word

-- the keyword that a word is, if it is one
unfoldable pub keyword_of : List ℕ → Option Keyword
keyword_of word = find_keyword keywords word

-- the token that a word is where no `#define` names it
abbrev pub word_kind : Option Keyword → List ℕ → TokenKind
word_kind (Some x) word = t.Keyword x
word_kind None word = t.Name word

-- the bytes that spell a sign
abbrev pub sign_text : Sign → List ℕ
sign_text s.LeftParen = codes "("
sign_text s.RightParen = codes ")"
sign_text s.LeftBracket = codes "["
sign_text s.RightBracket = codes "]"
sign_text s.LeftBrace = codes "{"
sign_text s.RightBrace = codes "}"
sign_text s.Semicolon = codes ";"
sign_text s.Comma = codes ","
sign_text s.Dot = codes "."
sign_text s.Arrow = codes "->"
sign_text s.PlusPlus = codes "++"
sign_text s.MinusMinus = codes "--"
sign_text s.Plus = codes "+"
sign_text s.Minus = codes "-"
sign_text s.Star = codes "*"
sign_text s.Slash = codes "/"
sign_text s.Percent = codes "%"
sign_text s.Ampersand = codes "&"
sign_text s.Bar = codes "|"
sign_text s.Caret = codes "^"
sign_text s.Tilde = codes "~"
sign_text s.Bang = codes "!"
sign_text s.Less = codes "<"
sign_text s.Greater = codes ">"
sign_text s.LessEq = codes "<="
sign_text s.GreaterEq = codes ">="
sign_text s.EqualEqual = codes "=="
sign_text s.NotEqual = codes "!="
sign_text s.ShiftLeft = codes "<<"
sign_text s.ShiftRight = codes ">>"
sign_text s.AndAnd = codes "&&"
sign_text s.OrOr = codes "||"
sign_text s.Question = codes "?"
sign_text s.Colon = codes ":"
sign_text s.Assign = codes "="
sign_text s.PlusAssign = codes "+="
sign_text s.MinusAssign = codes "-="
sign_text s.StarAssign = codes "*="
sign_text s.SlashAssign = codes "/="
sign_text s.PercentAssign = codes "%="
sign_text s.AndAssign = codes "&="
sign_text s.OrAssign = codes "|="
sign_text s.XorAssign = codes "^="
sign_text s.ShiftLeftAssign = codes "<<="
sign_text s.ShiftRightAssign = codes ">>="

-- every sign, none before a longer one that begins with it
abbrev pub signs : List Sign
signs =
    s.LeftParen ∷ s.RightParen ∷ s.Semicolon ∷ s.Comma ∷ s.LeftBracket ∷ s.RightBracket ∷ s.LeftBrace ∷ s.RightBrace
    ∷ s.Dot ∷ s.EqualEqual ∷ s.Assign ∷ s.PlusPlus ∷ s.PlusAssign ∷ s.Plus ∷ s.MinusMinus ∷ s.MinusAssign
    ∷ s.Arrow ∷ s.Minus ∷ s.ShiftLeftAssign ∷ s.ShiftLeft ∷ s.LessEq ∷ s.Less ∷ s.ShiftRightAssign ∷ s.ShiftRight
    ∷ s.GreaterEq ∷ s.Greater ∷ s.AndAnd ∷ s.AndAssign ∷ s.Ampersand ∷ s.OrOr ∷ s.OrAssign ∷ s.Bar
    ∷ s.StarAssign ∷ s.Star ∷ s.SlashAssign ∷ s.Slash ∷ s.PercentAssign ∷ s.Percent ∷ s.XorAssign ∷ s.Caret
    ∷ s.NotEqual ∷ s.Bang ∷ s.Tilde ∷ s.Question ∷ s.Colon ∷ []
