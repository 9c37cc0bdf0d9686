-- Continuations: what is left of an expression after its first tokens.
use Rattle.std.specs.Prelude.{◌≡◌, ℕ, ◌<◌, ◌≤◌, List, [], ◌∷◌, Bool, true, false, Option, Some, None}
use Rattle.oc_values.specs.declared.integers.BinaryOp.{BinaryOp}
use Rattle.oc_source.specs.declared.spot.Spot.{Spot}
use Rattle.oc_source.specs.declared.parsed.Expr.{Expr}
use Rattle.oc_source.specs.declared.parsed.ExprNode.{ExprNode}
use Rattle.oc_source.specs.declared.parsed.ExprNode.TheVariants as e
use Rattle.oc_lexer.specs.declared.token.Token.{Token}
use Rattle.oc_lexer.specs.declared.token.TokenKind.{TokenKind}
use Rattle.oc_lexer.specs.declared.token.TokenKind.TheVariants.{Name, Number, Character, Text, Keyword, Sign}
use Rattle.oc_lexer.specs.declared.token.Keyword.TheVariants as w
use Rattle.oc_lexer.specs.declared.token.Sign.{Sign as SignType}
use Rattle.oc_lexer.specs.declared.token.Sign.TheVariants as s
use Rattle.oc_grammar.specs.declared.tables.Opening.TheVariants as o
use Rattle.oc_grammar.specs.declared.tables.Prefix.{Prefix}
use Rattle.oc_grammar.specs.declared.tables.Infix.{Infix}
use Rattle.oc_grammar.specs.Tokens.{Is, NotNext}
use Rattle.oc_grammar.specs.Tables.{prefix, operator, assignment, opening}
use Rattle.oc_source.specs.Parsed.{expr}
use Rattle.oc_grammar.specs.Trees.{prefixed, Leaf}
use Rattle.oc_grammar.specs.Parsing.{End, Then, By, Maybe, Loop}
use Rattle.oc_grammar.specs.Calls.{One, ANamed, Placed}
use Rattle.oc_grammar.specs.Expressions.{Expression, Before, Arguments, BindsWeaker}
use Rattle.oc_declarators.specs.Continuations.{closed_type}
use Rattle.oc_expressions.specs.declared.signs.Postfix.{Postfix}
use Rattle.oc_expressions.specs.declared.signs.Postfix.TheVariants as p

-- the tokens that an expression may begin with
abbrev pub begins : TokenKind → Bool
begins (Name n) = true
begins (Number n) = true
begins (Character c) = true
begins (Text t) = true
begins (Keyword w.Null) = true
begins (Keyword w.True) = true
begins (Keyword w.False) = true
begins (Keyword w.Sizeof) = true
begins (Sign s.LeftParen) = true
begins (Sign s.Minus) = true
begins (Sign s.Plus) = true
begins (Sign s.Bang) = true
begins (Sign s.Tilde) = true
begins (Sign s.Star) = true
begins (Sign s.Ampersand) = true
begins (Sign s.PlusPlus) = true
begins (Sign s.MinusMinus) = true
begins _ = false

-- the one token is this expression
pub data LeafOf (t : Token) : Expr → Type 0 where
  leaf_of : {node : ExprNode} → Leaf t.kind node → LeafOf t (expr t.spot node)

-- what a sign begins after an operand
abbrev pub postfix : SignType → Option Postfix
postfix s.LeftBracket = Some p.Index
postfix s.Dot = Some p.Field
postfix s.Arrow = Some p.Arrow
postfix s.PlusPlus = Some (p.Bump true)
postfix s.MinusMinus = Some (p.Bump false)
postfix _ = None

-- after the operand l and that sign, where the whole begins at the spot
abbrev pub postfix_after : Spot → Expr → Postfix → Expr → List Token → Type 0
postfix_after spot l p.Index = Then (Before s.RightBracket) (λ i. End (expr spot (e.Index l i)))
postfix_after spot l p.Field = Then ANamed (λ n. End (expr spot (e.Field l n.name)))
postfix_after spot l p.Arrow = Then ANamed (λ n. End (expr spot (e.Arrow l n.name)))
postfix_after spot l (p.Bump up) = End (expr spot (e.Bump up false l))

-- one turn of what stands after operands
pub data PostfixStep (spot : Spot) (l : Expr) (t : Token) : Expr → List Token → Type 0 where
  postfix_step : {sign : SignType} {said : Postfix} {v : Expr} {ys : List Token} →
      Is (Sign sign) t → postfix sign ≡ Some said → postfix_after spot l said v ys →
      PostfixStep spot l t v ys

-- all that stands after the operand l
abbrev pub postfixes : Spot → Expr → Expr → List Token → Type 0
postfixes spot = Loop (PostfixStep spot)

-- arguments and the closing parenthesis
abbrev pub closed_arguments : List Expr → List Token → Type 0
closed_arguments = Then Arguments (λ vs. Then (One (Sign s.RightParen)) (λ _. End vs))

-- what a parenthesis after a name begins: the arguments of a call and the closing parenthesis
pub data CallBy (spot : Spot) (n : List ℕ) (t : Token) : Expr → List Token → Type 0 where
  call_by : {v : Expr} {ys : List Token} →
      Is (Sign s.LeftParen) t → Then closed_arguments (λ vs. End (expr spot (e.Call n vs))) v ys →
      CallBy spot n t v ys

-- after `sizeof`
abbrev pub size_after : Spot → Expr → List Token → Type 0
size_after spot = Then (One (Sign s.LeftParen)) (λ _. Then closed_type (λ ty. End (expr spot (e.SizeOf ty))))

-- after a name at the spot
abbrev pub name_after : Spot → List ℕ → Expr → List Token → Type 0
name_after spot n = Maybe (CallBy spot n) (expr spot (e.Named n))

-- what stands alone and is not in parentheses, by its first token
pub data PrimaryBy (t : Token) : Expr → List Token → Type 0 where
  by_leaf : {v : Expr} → LeafOf t v → PrimaryBy t v []
  by_size : {v : Expr} {ys : List Token} → Is (Keyword w.Sizeof) t → size_after t.spot v ys → PrimaryBy t v ys
  by_name : {n : List ℕ} {v : Expr} {ys : List Token} → Is (Name n) t → name_after t.spot n v ys → PrimaryBy t v ys

-- what stands alone and is not in parentheses
abbrev pub primary : Expr → List Token → Type 0
primary = By PrimaryBy

-- after an opening parenthesis at the spot: a type, and an operand; or an expression, and what stands after it
pub data ParenAfter (spot : Spot) : Expr → List Token → Type 0 where
  by_cast : {v : Expr} {ys : List Token} →
      Then closed_type (λ ty. Then (Expression 13) (λ w. End (expr spot (e.Cast ty w)))) v ys →
      ParenAfter spot v ys
  by_inner : {v : Expr} {ys : List Token} →
      Then (Before s.RightParen) (λ l. postfixes spot l) v ys →
      ParenAfter spot v ys

-- an operand with all that stands before and after it
pub data Operand : Expr → List Token → Type 0 where
  by_paren : {t : Token} {v : Expr} {ys : List Token} →
      Is (Sign s.LeftParen) t → ParenAfter t.spot v ys →
      Operand v (t ∷ ys)
  by_prefix : {t : Token} {sign : SignType} {op : Prefix} {v : Expr} {ys : List Token} →
      Is (Sign sign) t → prefix sign ≡ Some op → Then (Expression 13) (λ w. End (expr t.spot (prefixed op w))) v ys →
      Operand v (t ∷ ys)
  by_primary : {v : Expr} {ys : List Token} → Then (Placed primary) (λ p. postfixes p.0 p.1) v ys → Operand v ys

-- an assignment after its left side
pub data AssignBy (spot : Spot) (l : Expr) (t : Token) : Expr → List Token → Type 0 where
  assign_by : {sign : SignType} {op : Option BinaryOp} {v : Expr} {ys : List Token} →
      Is (Sign sign) t → assignment sign ≡ Some op → Then (Expression 1) (λ r. End (expr spot (e.Assign op l r))) v ys →
      AssignBy spot l t v ys

-- a choice after its condition
pub data ChooseBy (spot : Spot) (c : Expr) (t : Token) : Expr → List Token → Type 0 where
  choose_by : {v : Expr} {ys : List Token} →
      Is (Sign s.Question) t →
      Then (Before s.Colon) (λ y. Then (Expression 2) (λ z. End (expr spot (e.Choose c y z)))) v ys →
      ChooseBy spot c t v ys

-- An operator of level n, at least as tight as `least`, comes first, and then the rest.
pub record Operates (ts : List Token) (least n : ℕ) (op : Infix) (rest : List Token) : Type 0 where
  pub token : Token
  pub sign : SignType
  pub is : Is (Sign sign) token
  pub says : operator sign ≡ Some (n, op)
  pub whole : ts ≡ token ∷ rest
  pub above : least ≤ n

-- no operator of level n or above comes next
abbrev pub Below : ℕ → List Token → Type 0
Below n [] = Unit {0}
Below n (t ∷ ts) = (sign : SignType) (i : ℕ) (op : Infix) → Is (Sign sign) t → operator sign ≡ Some (i, op) → i < n

-- a token with which a written type begins comes next
abbrev pub BeginsType : List Token → Type 0
BeginsType [] = ⊥
BeginsType (t ∷ ts) = opening t.kind ≡ o.Other → ⊥

-- neither a comma nor what goes on with an expression comes next
abbrev pub ListEnds : {A : Type 0} → A → List Token → Type 0
ListEnds v ts = NotNext (Sign s.Comma) ts × BindsWeaker 1 ts
