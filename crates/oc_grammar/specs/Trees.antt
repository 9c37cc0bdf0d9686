-- Trees: nodes of the parsed tree.
use Rattle.std.specs.Prelude.{◌≡◌, ℕ, List, Bool, true, false}
use Rattle.oc_values.specs.declared.integers.IntKind.TheVariants.{I32}
use Rattle.oc_source.specs.declared.spot.Spot.{Spot}
use Rattle.oc_source.specs.declared.literal.Literal.{Literal}
use Rattle.oc_source.specs.declared.parsed.BaseName.{BaseName}
use Rattle.oc_source.specs.declared.parsed.BaseKind.TheVariants as base
use Rattle.oc_source.specs.declared.parsed.TypeName.{TypeName}
use Rattle.oc_source.specs.declared.parsed.Expr.{Expr}
use Rattle.oc_source.specs.declared.parsed.ExprNode.{ExprNode}
use Rattle.oc_source.specs.declared.parsed.ExprNode.TheVariants as e
use Rattle.oc_lexer.specs.declared.token.TokenKind.{TokenKind}
use Rattle.oc_lexer.specs.declared.token.TokenKind.TheVariants.{Keyword, Number, Character, Text}
use Rattle.oc_lexer.specs.declared.token.Keyword.TheVariants as w
use Rattle.oc_grammar.specs.declared.tables.Prefix.{Prefix}
use Rattle.oc_grammar.specs.declared.tables.Prefix.TheVariants as p
use Rattle.oc_grammar.specs.declared.tables.Infix.{Infix}
use Rattle.oc_grammar.specs.declared.tables.Infix.TheVariants as i

-- an operand after a sign
abbrev pub prefixed : Prefix → Expr → ExprNode
prefixed (p.Unary op) v = e.Unary op v
prefixed (p.Bump up) v = e.Bump up true v

-- two operands with a sign between them
abbrev pub infixed : Infix → Expr → Expr → ExprNode
infixed (i.Binary op) l r = e.Binary op l r
infixed (i.Logic all) l r = e.Logic all l r

-- The one token of this kind is an expression by itself: a number, a character, a text, `NULL`, `true` or `false`.
pub data Leaf : TokenKind → ExprNode → Type 0 where
  number : (n : Literal) → Leaf (Number n) (e.Number n)
  character : {c : ℕ} (n : Literal) → n.kind ≡ I32 → n.value ≡ c → Leaf (Character c) (e.Number n)
  text : (bytes : List ℕ) → Leaf (Text bytes) (e.Text bytes)
  null : Leaf (Keyword w.Null) e.NullPointer
  truth : (n : Literal) → n.kind ≡ I32 → n.value ≡ 1 → Leaf (Keyword w.True) (e.Number n)
  falsity : (n : Literal) → n.kind ≡ I32 → n.value ≡ 0 → Leaf (Keyword w.False) (e.Number n)

-- a struct type that begins at the spot, with its mark `frozen`
abbrev pub struct_base : Spot → Bool → List ℕ → BaseName
struct_base spot frozen name = record { spot = spot; frozen = frozen; obliv = false; kind = base.Struct name }

-- a written type without a name: a base, and how many stars follow it
abbrev pub type_name : BaseName → ℕ → TypeName
type_name b n = record { base = b; stars = n }
