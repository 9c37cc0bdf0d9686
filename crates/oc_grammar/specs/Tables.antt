-- Tables: what single signs and keywords stand for.
use Rattle.std.specs.Prelude.{ℕ, Bool, true, false, Option, Some, None}
use Rattle.oc_values.specs.declared.integers.IntKind.{IntKind}
use Rattle.oc_values.specs.declared.integers.IntKind.TheVariants as kind
use Rattle.oc_values.specs.declared.integers.BinaryOp.{BinaryOp}
use Rattle.oc_values.specs.declared.integers.BinaryOp.TheVariants as b
use Rattle.oc_source.specs.declared.parsed.UnaryOp.TheVariants as u
use Rattle.oc_lexer.specs.declared.token.TokenKind.{TokenKind}
use Rattle.oc_lexer.specs.declared.token.TokenKind.TheVariants.{Keyword, Sign}
use Rattle.oc_lexer.specs.declared.token.Keyword.TheVariants as w
use Rattle.oc_lexer.specs.declared.token.Sign.{Sign as SignType}
use Rattle.oc_lexer.specs.declared.token.Sign.TheVariants as s
use Rattle.oc_grammar.specs.declared.tables.Prefix.{Prefix}
use Rattle.oc_grammar.specs.declared.tables.Prefix.TheVariants as p
use Rattle.oc_grammar.specs.declared.tables.Infix.{Infix}
use Rattle.oc_grammar.specs.declared.tables.Infix.TheVariants as i
use Rattle.oc_grammar.specs.declared.tables.Width.{Width}
use Rattle.oc_grammar.specs.declared.tables.Width.TheVariants as width
use Rattle.oc_grammar.specs.declared.tables.Opening.{Opening}
use Rattle.oc_grammar.specs.declared.tables.Opening.TheVariants as o

-- the operator that a sign is before an operand
abbrev pub prefix : SignType → Option Prefix
prefix s.Minus = Some (p.Unary u.Neg)
prefix s.Plus = Some (p.Unary u.Plus)
prefix s.Bang = Some (p.Unary u.Not)
prefix s.Tilde = Some (p.Unary u.Flip)
prefix s.Star = Some (p.Unary u.Deref)
prefix s.Ampersand = Some (p.Unary u.Address)
prefix s.PlusPlus = Some (p.Bump true)
prefix s.MinusMinus = Some (p.Bump false)
prefix _ = None

-- the left-associative operator that a sign is between two operands, and its level: the higher, the tighter
abbrev pub operator : SignType → Option (ℕ × Infix)
operator s.OrOr = Some (3, i.Logic false)
operator s.AndAnd = Some (4, i.Logic true)
operator s.Bar = Some (5, i.Binary b.Or)
operator s.Caret = Some (6, i.Binary b.Xor)
operator s.Ampersand = Some (7, i.Binary b.And)
operator s.EqualEqual = Some (8, i.Binary b.Equal)
operator s.NotEqual = Some (8, i.Binary b.NotEqual)
operator s.Less = Some (9, i.Binary b.Less)
operator s.LessEq = Some (9, i.Binary b.LessEq)
operator s.Greater = Some (9, i.Binary b.Greater)
operator s.GreaterEq = Some (9, i.Binary b.GreaterEq)
operator s.ShiftLeft = Some (10, i.Binary b.Shl)
operator s.ShiftRight = Some (10, i.Binary b.Shr)
operator s.Plus = Some (11, i.Binary b.Add)
operator s.Minus = Some (11, i.Binary b.Sub)
operator s.Star = Some (12, i.Binary b.Mul)
operator s.Slash = Some (12, i.Binary b.Div)
operator s.Percent = Some (12, i.Binary b.Rem)
operator _ = None

-- the assignment that a sign is: by an operator, or plain
abbrev pub assignment : SignType → Option (Option BinaryOp)
assignment s.Assign = Some None
assignment s.PlusAssign = Some (Some b.Add)
assignment s.MinusAssign = Some (Some b.Sub)
assignment s.StarAssign = Some (Some b.Mul)
assignment s.SlashAssign = Some (Some b.Div)
assignment s.PercentAssign = Some (Some b.Rem)
assignment s.AndAssign = Some (Some b.And)
assignment s.OrAssign = Some (Some b.Or)
assignment s.XorAssign = Some (Some b.Xor)
assignment s.ShiftLeftAssign = Some (Some b.Shl)
assignment s.ShiftRightAssign = Some (Some b.Shr)
assignment _ = None

-- whether a sign is `++`, where it is one of `++` and `--`
abbrev pub bump : SignType → Option Bool
bump s.PlusPlus = Some true
bump s.MinusMinus = Some false
bump _ = None

-- what a token begins in a written type
abbrev pub opening : TokenKind → Opening
opening (Keyword w.Frozen) = o.Frozen
opening (Keyword w.Obliv) = o.Obliv
opening (Keyword w.Struct) = o.Struct
opening (Keyword w.Bool) = o.Bool
opening (Keyword w.UnderscoreBool) = o.Bool
opening (Keyword w.Signed) = o.Signs false
opening (Keyword w.Unsigned) = o.Signs true
opening (Keyword w.Char) = o.Named width.Char
opening (Keyword w.Short) = o.Named width.Short
opening (Keyword w.Int) = o.Named width.Int
opening (Keyword w.Long) = o.Named width.Long
opening _ = o.Other

-- the kind of an integer type: whether it is unsigned, and the word that it is named after
abbrev pub int_kind : Bool → Width → IntKind
int_kind false width.Char = kind.I8
int_kind true width.Char = kind.U8
int_kind false width.Short = kind.I16
int_kind true width.Short = kind.U16
int_kind false width.Int = kind.I32
int_kind true width.Int = kind.U32
int_kind false width.Long = kind.I64
int_kind true width.Long = kind.U64

-- how tightly a token binds to the expression before it
abbrev pub strength : TokenKind → ℕ
strength (Sign s.Assign) = 1
strength (Sign s.PlusAssign) = 1
strength (Sign s.MinusAssign) = 1
strength (Sign s.StarAssign) = 1
strength (Sign s.SlashAssign) = 1
strength (Sign s.PercentAssign) = 1
strength (Sign s.AndAssign) = 1
strength (Sign s.OrAssign) = 1
strength (Sign s.XorAssign) = 1
strength (Sign s.ShiftLeftAssign) = 1
strength (Sign s.ShiftRightAssign) = 1
strength (Sign s.Question) = 2
strength (Sign s.OrOr) = 3
strength (Sign s.AndAnd) = 4
strength (Sign s.Bar) = 5
strength (Sign s.Caret) = 6
strength (Sign s.Ampersand) = 7
strength (Sign s.EqualEqual) = 8
strength (Sign s.NotEqual) = 8
strength (Sign s.Less) = 9
strength (Sign s.LessEq) = 9
strength (Sign s.Greater) = 9
strength (Sign s.GreaterEq) = 9
strength (Sign s.ShiftLeft) = 10
strength (Sign s.ShiftRight) = 10
strength (Sign s.Plus) = 11
strength (Sign s.Minus) = 11
strength (Sign s.Star) = 12
strength (Sign s.Slash) = 12
strength (Sign s.Percent) = 12
strength (Sign s.LeftBracket) = 14
strength (Sign s.Dot) = 14
strength (Sign s.Arrow) = 14
strength (Sign s.PlusPlus) = 14
strength (Sign s.MinusMinus) = 14
strength (Sign s.LeftParen) = 15
strength _ = 0
