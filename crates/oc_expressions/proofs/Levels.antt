-- Levels: what the tables say of how tightly tokens bind, and the tokens that an expression begins with.
use Rattle.std.proofs.Common.{◌≡◌, ℕ, ◌≤◌, ◌<◌, List, [], ◌∷◌, ◌++◌, Option, Some, refl, ap, arith, true}
use Rattle.oc_values.specs.declared.integers.BinaryOp.{BinaryOp}
use Rattle.oc_source.specs.declared.parsed.Expr.{Expr}
use Rattle.oc_source.specs.declared.parsed.ExprNode.{ExprNode}
use Rattle.oc_source.specs.declared.parsed.ExprNode.TheVariants as e
use Rattle.oc_lexer.specs.declared.token.Token.{Token}
use Rattle.oc_lexer.specs.declared.token.TokenKind.{TokenKind}
use Rattle.oc_lexer.specs.declared.token.TokenKind.TheVariants.{Name, Number, Character, Text, Keyword, Sign}
use Rattle.oc_lexer.specs.declared.token.Keyword.TheVariants as w
use Rattle.oc_lexer.specs.declared.token.Sign.{Sign as SignType}
use Rattle.oc_lexer.specs.declared.token.Sign.TheVariants as s
use Rattle.oc_grammar.specs.declared.tables.Prefix.{Prefix}
use Rattle.oc_grammar.specs.declared.tables.Infix.{Infix}
use Rattle.oc_grammar.specs.declared.tables.Opening.TheVariants as o
use Rattle.oc_grammar.specs.Tokens.{Is, spot_at}
use Rattle.oc_grammar.specs.Tables.{prefix, operator, assignment, strength, opening}
use Rattle.oc_source.specs.Parsed.{expr}
use Rattle.oc_grammar.specs.Trees.{Leaf, number, character, text, null, truth, falsity}
use Rattle.oc_grammar.specs.Expressions.{Rule, Expression, Before, before, assign, choose, operation, signed, cast, index, field, arrow, bumped, leaf, named, call, size, parens, at, BindsWeaker}
use Rattle.oc_grammar.proofs.Parsing.{Closes}
use Rattle.oc_grammar.proofs.Calls.{made, is_made, spot_front}
use Rattle.oc_expressions.specs.declared.signs.Postfix.{Postfix}
use Rattle.oc_expressions.specs.Continuations.{postfix, begins}

pub lower : {n m : ℕ} {v : Expr} {x : List Token} → n ≤ m → Expression m v x → Expression n v x
lower h (at d g) = at d (omega arith)

pub some_pair : {A B : Type 0} {p q : A × B} → Some p ≡ Some q → (p.0 ≡ q.0) × (p.1 ≡ q.1)
some_pair {A} {B} {p} {q} h = let e : p ≡ q = cc in (ap (λ (p : A × B). p.0) e, ap (λ (p : A × B). p.1) e)

pub operator_level : (sign : SignType) (n : ℕ) (op : Infix) → operator sign ≡ Some (n, op) → (3 ≤ n) × (n ≤ 12) × (strength (Sign sign) ≡ n)
operator_level s.OrOr n op h = let e : 3 ≡ n = (some_pair h).0 in (omega arith, omega arith, e)
operator_level s.AndAnd n op h = let e : 4 ≡ n = (some_pair h).0 in (omega arith, omega arith, e)
operator_level s.Bar n op h = let e : 5 ≡ n = (some_pair h).0 in (omega arith, omega arith, e)
operator_level s.Caret n op h = let e : 6 ≡ n = (some_pair h).0 in (omega arith, omega arith, e)
operator_level s.Ampersand n op h = let e : 7 ≡ n = (some_pair h).0 in (omega arith, omega arith, e)
operator_level s.EqualEqual n op h = let e : 8 ≡ n = (some_pair h).0 in (omega arith, omega arith, e)
operator_level s.NotEqual n op h = let e : 8 ≡ n = (some_pair h).0 in (omega arith, omega arith, e)
operator_level s.Less n op h = let e : 9 ≡ n = (some_pair h).0 in (omega arith, omega arith, e)
operator_level s.LessEq n op h = let e : 9 ≡ n = (some_pair h).0 in (omega arith, omega arith, e)
operator_level s.Greater n op h = let e : 9 ≡ n = (some_pair h).0 in (omega arith, omega arith, e)
operator_level s.GreaterEq n op h = let e : 9 ≡ n = (some_pair h).0 in (omega arith, omega arith, e)
operator_level s.ShiftLeft n op h = let e : 10 ≡ n = (some_pair h).0 in (omega arith, omega arith, e)
operator_level s.ShiftRight n op h = let e : 10 ≡ n = (some_pair h).0 in (omega arith, omega arith, e)
operator_level s.Plus n op h = let e : 11 ≡ n = (some_pair h).0 in (omega arith, omega arith, e)
operator_level s.Minus n op h = let e : 11 ≡ n = (some_pair h).0 in (omega arith, omega arith, e)
operator_level s.Star n op h = let e : 12 ≡ n = (some_pair h).0 in (omega arith, omega arith, e)
operator_level s.Slash n op h = let e : 12 ≡ n = (some_pair h).0 in (omega arith, omega arith, e)
operator_level s.Percent n op h = let e : 12 ≡ n = (some_pair h).0 in (omega arith, omega arith, e)
operator_level _ n op h = cc

pub assignment_level : (sign : SignType) (op : Option BinaryOp) → assignment sign ≡ Some op → strength (Sign sign) ≡ 1
assignment_level s.Assign op h = refl
assignment_level s.PlusAssign op h = refl
assignment_level s.MinusAssign op h = refl
assignment_level s.StarAssign op h = refl
assignment_level s.SlashAssign op h = refl
assignment_level s.PercentAssign op h = refl
assignment_level s.AndAssign op h = refl
assignment_level s.OrAssign op h = refl
assignment_level s.XorAssign op h = refl
assignment_level s.ShiftLeftAssign op h = refl
assignment_level s.ShiftRightAssign op h = refl
assignment_level _ op h = cc

pub postfix_level : (sign : SignType) (said : Postfix) → postfix sign ≡ Some said → strength (Sign sign) ≡ 14
postfix_level s.LeftBracket said h = refl
postfix_level s.Dot said h = refl
postfix_level s.Arrow said h = refl
postfix_level s.PlusPlus said h = refl
postfix_level s.MinusMinus said h = refl
postfix_level _ said h = cc

prefix_begins : (sign : SignType) (op : Prefix) → prefix sign ≡ Some op → begins (Sign sign) ≡ true
prefix_begins s.Minus op h = refl
prefix_begins s.Plus op h = refl
prefix_begins s.Bang op h = refl
prefix_begins s.Tilde op h = refl
prefix_begins s.Star op h = refl
prefix_begins s.Ampersand op h = refl
prefix_begins s.PlusPlus op h = refl
prefix_begins s.MinusMinus op h = refl
prefix_begins _ op h = cc

-- none of them begins a type
pub begins_other : (k : TokenKind) → begins k ≡ true → opening k ≡ o.Other
begins_other (Name n) h = refl
begins_other (Number n) h = refl
begins_other (Character c) h = refl
begins_other (Text t) h = refl
begins_other (Sign s) h = refl
begins_other (Keyword w.Null) h = refl
begins_other (Keyword w.True) h = refl
begins_other (Keyword w.False) h = refl
begins_other (Keyword w.Sizeof) h = refl
begins_other (Keyword _) h = cc

abbrev pub Begun : List Token → Type 0
Begun [] = ⊥
Begun (t ∷ ts) = begins t.kind ≡ true

pub begun_append : (x y : List Token) → Begun x → Begun (x ++ y)
begun_append [] y h = absurd h
begun_append (t ∷ x) y h = h

leaf_begins : {k : TokenKind} {node : ExprNode} → Leaf k node → begins k ≡ true
leaf_begins (number n) = refl
leaf_begins (character n h g) = refl
leaf_begins (text bytes) = refl
leaf_begins null = refl
leaf_begins (truth n h g) = refl
leaf_begins (falsity n h g) = refl

mutual
  pub rule_begun : {n : ℕ} {v : Expr} {x : List Token} → Rule n v x → Begun x
  rule_begun (assign {x = x} d i h r) = begun_append x _ (begun d)
  rule_begun (choose {xs = x} d i b z) = begun_append x _ (begun d)
  rule_begun (operation {x = x} d i h r) = begun_append x _ (begun d)
  rule_begun (signed {sign = sign} {op = op} i h d) = rw i.kind (prefix_begins sign op h)
  rule_begun (cast i ty j d) = rw i.kind refl
  rule_begun (index {x = x} d i b) = begun_append x _ (begun d)
  rule_begun (field {x = x} d i j) = begun_append x _ (begun d)
  rule_begun (arrow {x = x} d i j) = begun_append x _ (begun d)
  rule_begun (bumped {x = x} d i h) = begun_append x _ (begun d)
  rule_begun (leaf d) = leaf_begins d
  rule_begun (named i) = rw i.kind refl
  rule_begun (call i j a k) = rw i.kind refl
  rule_begun (size i j ty k) = rw i.kind refl
  rule_begun (parens i b) = rw i.kind refl

  pub begun : {n : ℕ} {v : Expr} {x : List Token} → Expression n v x → Begun x
  begun (at d h) = rule_begun d

pub filled : (n : ℕ) (v : Expr) → Expression n v [] → ⊥
filled n v d = begun d

not_empty : (x : List Token) → Begun x → x ≡ [] → ⊥
not_empty [] b e = b
not_empty (t ∷ x) b e = cc

-- what follows an expression leaves the spot of its first token
pub spot_begun : (x y : List Token) → Begun x → spot_at (x ++ y) ≡ spot_at x
spot_begun x y b = spot_front x y (not_empty x b)

pub stops_less : {n m : ℕ} (zs : List Token) → n ≤ m → BindsWeaker n zs → BindsWeaker m zs
stops_less [] h s = omega arith
stops_less (t ∷ zs) h s = omega arith

-- a token of a kind that doesn't bind
pub stops_kind : (n : ℕ) {k : TokenKind} (t : Token) (zs : List Token) → strength k < n → Is k t → BindsWeaker n (t ∷ zs)
stops_kind n t zs h i = rw i.kind h

-- a token that binds is gone on with
pub goes_kind : (n : ℕ) {k : TokenKind} (t : Token) (zs : List Token) → n ≤ strength k → Is k t → BindsWeaker n (t ∷ zs) → ⊥
goes_kind n {k} t zs h i g = let f : strength k < n = rw i.kind at g in let P : strength k < n → n ≤ strength k → ⊥ = λ a b. omega arith in P f h

-- the table says one thing of a token
pub same_said : {R : Type 0} (table : SignType → Option R) {t : Token} {a b : SignType} {r r' : R} → Is (Sign a) t → Is (Sign b) t → table a ≡ Some r → table b ≡ Some r' → r ≡ r'
same_said table i j h g = let p = i.kind in let q = j.kind in cc

-- an expression, to close with
pub some_expr : (n : ℕ) → n ≤ 15 → Closes (Expression n)
some_expr n h = (expr (made (Keyword w.Null)).spot e.NullPointer, made (Keyword w.Null) ∷ [], at (leaf (let i = is_made (Keyword w.Null) in rw i.kind null)) h)

pub some_before : (sign : SignType) → Closes (Before sign)
some_before sign = let (v, x, d) = some_expr 1 (omega arith) in (v, x ++ made (Sign sign) ∷ [], before d (is_made (Sign sign)))
