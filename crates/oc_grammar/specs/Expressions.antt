-- Expressions: which tokens spell an expression.
use Rattle.std.specs.Prelude.{◌≡◌, ℕ, ◌+◌, ◌<◌, ◌≤◌, List, [], ◌∷◌, ◌++◌, Bool, false, Option, Some}
use Rattle.oc_values.specs.declared.integers.BinaryOp.{BinaryOp}
use Rattle.oc_source.specs.declared.parsed.TypeName.{TypeName}
use Rattle.oc_source.specs.declared.parsed.Expr.{Expr}
use Rattle.oc_source.specs.declared.parsed.ExprNode.{ExprNode}
use Rattle.oc_source.specs.declared.parsed.ExprNode.TheVariants as e
use Rattle.oc_lexer.specs.declared.token.Token.{Token}
use Rattle.oc_lexer.specs.declared.token.TokenKind.TheVariants.{Name, Keyword, Sign}
use Rattle.oc_lexer.specs.declared.token.Keyword.TheVariants as w
use Rattle.oc_lexer.specs.declared.token.Sign.{Sign as SignType}
use Rattle.oc_lexer.specs.declared.token.Sign.TheVariants as s
use Rattle.oc_grammar.specs.declared.tables.Prefix.{Prefix}
use Rattle.oc_grammar.specs.declared.tables.Infix.{Infix}
use Rattle.oc_grammar.specs.Tokens.{Is, spot_at}
use Rattle.oc_grammar.specs.Tables.{prefix, operator, assignment, bump, strength}
use Rattle.oc_source.specs.Parsed.{expr}
use Rattle.oc_grammar.specs.Trees.{prefixed, infixed, Leaf}
use Rattle.oc_grammar.specs.WrittenTypes.{TypeNamed}

-- `Rule n tree tokens`: the tokens spell the tree, and n is the level of the outermost rule. 1 is an assignment, 2 a
-- choice, 3 to 12 are the operators between two operands, 13 is a sign or a cast before an operand, 14 what stands after
-- one, 15 what stands alone.
mutual
  pub data Rule : ℕ → Expr → List Token → Type 0 where
    assign : {sign : SignType} {op : Option BinaryOp} {t : Token} {l r : Expr} {x y : List Token} →
        Expression 2 l x → Is (Sign sign) t → assignment sign ≡ Some op → Expression 1 r y →
        Rule 1 (expr (spot_at x) (e.Assign op l r)) (x ++ t ∷ y)
    choose : {q : Token} {c y z : Expr} {xs ys zs : List Token} →
        Expression 3 c xs → Is (Sign s.Question) q → Before s.Colon y ys → Expression 2 z zs →
        Rule 2 (expr (spot_at xs) (e.Choose c y z)) (xs ++ q ∷ (ys ++ zs))
    operation : {n : ℕ} {sign : SignType} {op : Infix} {t : Token} {l r : Expr} {x y : List Token} →
        Expression n l x → Is (Sign sign) t → operator sign ≡ Some (n, op) → Expression (n + 1) r y →
        Rule n (expr (spot_at x) (infixed op l r)) (x ++ t ∷ y)
    signed : {sign : SignType} {op : Prefix} {t : Token} {v : Expr} {x : List Token} →
        Is (Sign sign) t → prefix sign ≡ Some op → Expression 13 v x →
        Rule 13 (expr t.spot (prefixed op v)) (t ∷ x)
    cast : {a b : Token} {to : TypeName} {v : Expr} {x y : List Token} →
        Is (Sign s.LeftParen) a → TypeNamed to y → Is (Sign s.RightParen) b → Expression 13 v x →
        Rule 13 (expr a.spot (e.Cast to v)) (a ∷ (y ++ b ∷ x))
    index : {a : Token} {v i : Expr} {x y : List Token} →
        Expression 14 v x → Is (Sign s.LeftBracket) a → Before s.RightBracket i y →
        Rule 14 (expr (spot_at x) (e.Index v i)) (x ++ a ∷ y)
    field : {a b : Token} {n : List ℕ} {v : Expr} {x : List Token} →
        Expression 14 v x → Is (Sign s.Dot) a → Is (Name n) b →
        Rule 14 (expr (spot_at x) (e.Field v n)) (x ++ a ∷ (b ∷ []))
    arrow : {a b : Token} {n : List ℕ} {v : Expr} {x : List Token} →
        Expression 14 v x → Is (Sign s.Arrow) a → Is (Name n) b →
        Rule 14 (expr (spot_at x) (e.Arrow v n)) (x ++ a ∷ (b ∷ []))
    bumped : {sign : SignType} {up : Bool} {t : Token} {v : Expr} {x : List Token} →
        Expression 14 v x → Is (Sign sign) t → bump sign ≡ Some up →
        Rule 14 (expr (spot_at x) (e.Bump up false v)) (x ++ t ∷ [])
    leaf : {node : ExprNode} {t : Token} → Leaf t.kind node → Rule 15 (expr t.spot node) (t ∷ [])
    named : {n : List ℕ} {t : Token} → Is (Name n) t → Rule 15 (expr t.spot (e.Named n)) (t ∷ [])
    call : {n : List ℕ} {t a b : Token} {vs : List Expr} {x : List Token} →
        Is (Name n) t → Is (Sign s.LeftParen) a → Arguments vs x → Is (Sign s.RightParen) b →
        Rule 15 (expr t.spot (e.Call n vs)) (t ∷ (a ∷ (x ++ b ∷ [])))
    size : {t a b : Token} {ty : TypeName} {x : List Token} →
        Is (Keyword w.Sizeof) t → Is (Sign s.LeftParen) a → TypeNamed ty x → Is (Sign s.RightParen) b →
        Rule 15 (expr t.spot (e.SizeOf ty)) (t ∷ (a ∷ (x ++ b ∷ [])))
    parens : {a : Token} {v : Expr} {x : List Token} →
        Is (Sign s.LeftParen) a → Before s.RightParen v x →
        Rule 15 v (a ∷ x)

  -- at level n or a tighter one
  pub data Expression : ℕ → Expr → List Token → Type 0 where
    at : {n m : ℕ} {v : Expr} {x : List Token} → Rule m v x → n ≤ m → Expression n v x

  -- an expression and then the sign
  pub data Before : SignType → Expr → List Token → Type 0 where
    before : {sign : SignType} {t : Token} {v : Expr} {x : List Token} →
        Expression 1 v x → Is (Sign sign) t →
        Before sign v (x ++ t ∷ [])

  -- the arguments of a call, or none
  pub data Arguments : List Expr → List Token → Type 0 where
    none : Arguments [] []
    some : {vs : List Expr} {x : List Token} → Listed vs x → Arguments vs x

  -- one or more expressions with commas between them: `Commas` of them, here since expressions and lists are parts of one another
  pub data Listed : List Expr → List Token → Type 0 where
    last : {v : Expr} {x : List Token} → Expression 1 v x → Listed (v ∷ []) x
    more : {t : Token} {v : Expr} {vs : List Expr} {x y : List Token} →
        Expression 1 v x → Is (Sign s.Comma) t → Listed vs y →
        Listed (v ∷ vs) (x ++ t ∷ y)

-- The tokens do not go on with an expression of level n.
abbrev pub BindsWeaker : ℕ → List Token → Type 0
BindsWeaker n [] = 0 < n
BindsWeaker n (t ∷ ts) = strength t.kind < n

-- A tree of level n is not gone on with.
abbrev pub Ends : ℕ → Expr → List Token → Type 0
Ends n v ts = BindsWeaker n ts
