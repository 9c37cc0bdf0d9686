-- Statements: which tokens spell a declaration, a statement and a block.
use Rattle.std.specs.Prelude.{◌≡◌, List, [], ◌∷◌, ◌++◌, true, false, Option, Some, None}
use Rattle.oc_source.specs.declared.parsed.BaseName.{BaseName}
use Rattle.oc_source.specs.declared.parsed.FieldDef.{FieldDef}
use Rattle.oc_source.specs.declared.parsed.Declared.{Declared}
use Rattle.oc_source.specs.declared.parsed.Expr.{Expr}
use Rattle.oc_source.specs.declared.parsed.Stmt.{Stmt}
use Rattle.oc_source.specs.declared.parsed.StmtNode.TheVariants as st
use Rattle.oc_source.specs.declared.parsed.ForInit.{ForInit}
use Rattle.oc_source.specs.declared.parsed.ForInit.TheVariants as init
use Rattle.oc_lexer.specs.declared.token.Token.{Token}
use Rattle.oc_lexer.specs.declared.token.TokenKind.TheVariants.{Name, Keyword, Sign}
use Rattle.oc_lexer.specs.declared.token.Keyword.TheVariants as w
use Rattle.oc_lexer.specs.declared.token.Sign.{Sign as SignType}
use Rattle.oc_lexer.specs.declared.token.Sign.TheVariants as s
use Rattle.oc_grammar.specs.Tokens.{Is, NotNext, spot_at}
use Rattle.oc_source.specs.Parsed.{stmt, declared}
use Rattle.oc_grammar.specs.WrittenTypes.{Base, Declr, Commas}
use Rattle.oc_grammar.specs.Expressions.{Expression, Before}
use Rattle.oc_grammar.specs.Open.{ends_open}

-- a declared name with its initialiser, if it has one
pub data Initialised (b : BaseName) : Declared → List Token → Type 0 where
  bare : {f : FieldDef} {x : List Token} → Declr b f x → Initialised b (declared f None) x
  set : {f : FieldDef} {v : Expr} {t : Token} {x y : List Token} →
      Declr b f x → Is (Sign s.Assign) t → Expression 1 v y →
      Initialised b (declared f (Some v)) (x ++ t ∷ y)

-- one or more declared names of one base, up to the semicolon
pub data Declaration : BaseName → List Declared → List Token → Type 0 where
  declaration : {b : BaseName} {ds : List Declared} {t : Token} {x y : List Token} →
      Base b x → Commas (Initialised b) ds y → Is (Sign s.Semicolon) t →
      Declaration b ds (x ++ (y ++ t ∷ []))

-- an expression in parentheses
pub data Condition : Expr → List Token → Type 0 where
  condition : {t : Token} {c : Expr} {x : List Token} →
      Is (Sign s.LeftParen) t → Before s.RightParen c x →
      Condition c (t ∷ x)

-- an expression or none, and then the sign
pub data Perhaps (sign : SignType) : Option Expr → List Token → Type 0 where
  absent : {t : Token} → Is (Sign sign) t → Perhaps sign None (t ∷ [])
  given : {v : Expr} {x : List Token} → Before sign v x → Perhaps sign (Some v) x

-- what the header of a `for` begins with, up to its first semicolon
pub data Init : ForInit → List Token → Type 0 where
  nothing : {t : Token} → Is (Sign s.Semicolon) t → Init init.Nothing (t ∷ [])
  declares : {b : BaseName} {ds : List Declared} {x : List Token} → Declaration b ds x → Init (init.Declare ds) x
  expresses : {v : Expr} {x : List Token} → Before s.Semicolon v x → Init (init.Express v) x

mutual
  -- a statement; a declaration is none, and stands only in a block or in the header of a `for`
  pub data Statement : Stmt → List Token → Type 0 where
    empty : {t : Token} → Is (Sign s.Semicolon) t → Statement (stmt t.spot st.Empty) (t ∷ [])
    express : {v : Expr} {x : List Token} → Before s.Semicolon v x → Statement (stmt (spot_at x) (st.Express v)) x
    block : {vs : List Stmt} {x : List Token} → Block vs x → Statement (stmt (spot_at x) (st.Block vs)) x
    returns : {t : Token} {v : Option Expr} {x : List Token} →
        Is (Keyword w.Return) t → Perhaps s.Semicolon v x →
        Statement (stmt t.spot (st.Return v)) (t ∷ x)
    breaks : {t u : Token} →
        Is (Keyword w.Break) t → Is (Sign s.Semicolon) u →
        Statement (stmt t.spot st.Break) (t ∷ (u ∷ []))
    continues : {t u : Token} →
        Is (Keyword w.Continue) t → Is (Sign s.Semicolon) u →
        Statement (stmt t.spot st.Continue) (t ∷ (u ∷ []))
    if : {t : Token} {c : Expr} {y : Stmt} {n : Option Stmt} {xs ys : List Token} →
        Is (Keyword w.If) t → Condition c xs → Branches y n ys →
        Statement (stmt t.spot (st.If c y n)) (t ∷ (xs ++ ys))
    obliv_if : {o t : Token} {c : Expr} {y : Stmt} {n : Option Stmt} {xs ys : List Token} →
        Is (Keyword w.Obliv) o → Is (Keyword w.If) t → Condition c xs → Branches y n ys →
        Statement (stmt o.spot (st.OblivIf c y n)) (o ∷ (t ∷ (xs ++ ys)))
    always : {a o p n q : Token} {name : List _} {vs : List Stmt} {x : List Token} →
        Is (Sign s.Tilde) a → Is (Keyword w.Obliv) o → Is (Sign s.LeftParen) p → Is (Name name) n →
        Is (Sign s.RightParen) q → Block vs x →
        Statement (stmt a.spot (st.Always name (stmt (spot_at x) (st.Block vs)))) (a ∷ (o ∷ (p ∷ (n ∷ (q ∷ x)))))
    while : {t : Token} {c : Expr} {b : Stmt} {xs ys : List Token} →
        Is (Keyword w.While) t → Condition c xs → Statement b ys →
        Statement (stmt t.spot (st.While c b)) (t ∷ (xs ++ ys))
    for : {t p : Token} {i : ForInit} {c a : Option Expr} {b : Stmt} {ws xs ys zs : List Token} →
        Is (Keyword w.For) t → Is (Sign s.LeftParen) p → Init i ws → Perhaps s.Semicolon c xs →
        Perhaps s.RightParen a ys → Statement b zs →
        Statement (stmt t.spot (st.For i c a b)) (t ∷ (p ∷ (ws ++ (xs ++ (ys ++ zs)))))

  -- the parts of an `if`; an `else` belongs to the nearest `if` that has none
  pub data Branches : Stmt → Option Stmt → List Token → Type 0 where
    one : {y : Stmt} {x : List Token} → Statement y x → Branches y None x
    two : {y n : Stmt} {t : Token} {xs ys : List Token} →
        Statement y xs → ends_open y ≡ false → Is (Keyword w.Else) t → Statement n ys →
        Branches y (Some n) (xs ++ t ∷ ys)

  -- declarations and statements in braces
  pub data Block : List Stmt → List Token → Type 0 where
    braces : {a b : Token} {vs : List Stmt} {x : List Token} →
        Is (Sign s.LeftBrace) a → Steps vs x → Is (Sign s.RightBrace) b →
        Block vs (a ∷ (x ++ b ∷ []))

  -- declarations and statements, one after the other
  pub data Steps : List Stmt → List Token → Type 0 where
    no_step : Steps [] []
    a_declaration : {b : BaseName} {ds : List Declared} {vs : List Stmt} {x y : List Token} →
        Declaration b ds x → Steps vs y →
        Steps (stmt b.spot (st.Declare ds) ∷ vs) (x ++ y)
    a_statement : {v : Stmt} {vs : List Stmt} {x y : List Token} →
        Statement v x → Steps vs y →
        Steps (v ∷ vs) (x ++ y)

-- An `else` after these tokens is not part of the statement.
abbrev pub Closed : Stmt → List Token → Type 0
Closed v ts = ends_open v ≡ true → NotNext (Keyword w.Else) ts
