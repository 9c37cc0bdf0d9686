-- Continuations: what is left of a statement after its first tokens.
use Rattle.std.specs.Prelude.{◌≡◌, ℕ, List, [], ◌∷◌, ◌++◌, Bool, true, false, Option, Some, None}
use Rattle.oc_source.specs.declared.spot.Spot.{Spot}
use Rattle.oc_source.specs.declared.parsed.BaseName.{BaseName}
use Rattle.oc_source.specs.declared.parsed.FieldDef.{FieldDef}
use Rattle.oc_source.specs.declared.parsed.Declared.{Declared}
use Rattle.oc_source.specs.declared.parsed.Expr.{Expr}
use Rattle.oc_source.specs.declared.parsed.Stmt.{Stmt}
use Rattle.oc_source.specs.declared.parsed.StmtNode.{StmtNode}
use Rattle.oc_source.specs.declared.parsed.StmtNode.TheVariants as st
use Rattle.oc_source.specs.declared.parsed.ForInit.{ForInit}
use Rattle.oc_lexer.specs.declared.token.Token.{Token}
use Rattle.oc_lexer.specs.declared.token.TokenKind.{TokenKind}
use Rattle.oc_lexer.specs.declared.token.TokenKind.TheVariants.{Keyword, Sign}
use Rattle.oc_lexer.specs.declared.token.Keyword.TheVariants as w
use Rattle.oc_lexer.specs.declared.token.Sign.TheVariants as s
use Rattle.oc_grammar.specs.Tokens.{Is, spot_at}
use Rattle.oc_grammar.specs.Tables.{opening}
use Rattle.oc_source.specs.Parsed.{stmt, declared}
use Rattle.oc_grammar.specs.Parsing.{End, Then, By, Maybe}
use Rattle.oc_grammar.specs.Calls.{One, ANamed, Placed}
use Rattle.oc_grammar.specs.WrittenTypes.{Commas}
use Rattle.oc_grammar.specs.Expressions.{Expression, Before, BindsWeaker}
use Rattle.oc_grammar.specs.Statements.{Initialised, Declaration, Condition, Perhaps, Init, Statement, Block}
use Rattle.oc_grammar.specs.Open.{ends_open}
use Rattle.oc_declarators.specs.Continuations.{after_obliv as base_after_obliv}
use Rattle.oc_statements.specs.declared.leads.Lead.{Lead}
use Rattle.oc_statements.specs.declared.leads.Lead.TheVariants as lead
use Rattle.oc_statements.specs.declared.leads.SimpleLead.{SimpleLead}
use Rattle.oc_statements.specs.declared.leads.SimpleLead.TheVariants as simple
use Rattle.oc_statements.specs.declared.simple.Header.{Header}

-- ---- declarations

-- the initialiser of a declared name
pub data SetBy (f : FieldDef) (t : Token) : Declared → List Token → Type 0 where
  set_by : {d : Declared} {ys : List Token} →
      Is (Sign s.Assign) t → Then (Expression 1) (λ v. End (declared f (Some v))) d ys →
      SetBy f t d ys

-- nothing that goes on with a declared name or its initialiser comes next
abbrev pub NameEnds : {A : Type 0} → A → List Token → Type 0
NameEnds d zs = BindsWeaker 1 zs

-- the names of a declaration, after what its type begins with
abbrev pub names_after : BaseName → List Declared → List Token → Type 0
names_after b = Then (Commas (Initialised b)) (λ ds. Then (One (Sign s.Semicolon)) (λ _. End ds))

-- a declaration as a statement, after what its type begins with
abbrev pub declare_after : BaseName → Stmt → List Token → Type 0
declare_after b = Then (names_after b) (λ ds. End (stmt b.spot (st.Declare ds)))

-- ---- statements without parts that are statements

-- what a token begins among these
abbrev pub simple_lead : TokenKind → SimpleLead
simple_lead (Sign s.Semicolon) = simple.Empty
simple_lead (Keyword w.Return) = simple.Return
simple_lead (Keyword w.Break) = simple.Break
simple_lead (Keyword w.Continue) = simple.Continue
simple_lead _ = simple.Express

-- an empty statement, an expression, a `return`, a `break` or a `continue`, with its semicolon
pub data SimpleStatement : Stmt → List Token → Type 0 where
  empty : {t : Token} → Is (Sign s.Semicolon) t → SimpleStatement (stmt t.spot st.Empty) (t ∷ [])
  express : {v : Expr} {x : List Token} → Before s.Semicolon v x → SimpleStatement (stmt (spot_at x) (st.Express v)) x
  returns : {t : Token} {v : Option Expr} {x : List Token} →
      Is (Keyword w.Return) t → Perhaps s.Semicolon v x →
      SimpleStatement (stmt t.spot (st.Return v)) (t ∷ x)
  breaks : {t u : Token} →
      Is (Keyword w.Break) t → Is (Sign s.Semicolon) u →
      SimpleStatement (stmt t.spot st.Break) (t ∷ (u ∷ []))
  continues : {t u : Token} →
      Is (Keyword w.Continue) t → Is (Sign s.Semicolon) u →
      SimpleStatement (stmt t.spot st.Continue) (t ∷ (u ∷ []))

-- an expression and a semicolon, as a statement
abbrev pub expressed : Stmt → List Token → Type 0
expressed = Then (Placed (Before s.Semicolon)) (λ p. End (stmt p.0 (st.Express p.1)))

-- the header of a `for`: what it begins with, its condition, and what is done after each turn
abbrev pub header : ForInit → Option Expr → Option Expr → Header
header i c a = record { init = i; cond = c; advance = a }

-- what stands in the parentheses of a `for`, with them
abbrev pub header_form : Header → List Token → Type 0
header_form = Then (One (Sign s.LeftParen)) (λ _. Then Init (λ i. Then (Perhaps s.Semicolon) (λ c.
    Then (Perhaps s.RightParen) (λ a. End (header i c a)))))

-- a name in parentheses
abbrev pub name_form : List ℕ → List Token → Type 0
name_form = Then (One (Sign s.LeftParen)) (λ _. Then ANamed (λ n. Then (One (Sign s.RightParen)) (λ _. End n.name)))

-- ---- the others

-- what a token begins among all statements
abbrev pub lead_at : TokenKind → Lead
lead_at (Sign s.LeftBrace) = lead.Block
lead_at (Keyword w.If) = lead.If
lead_at (Keyword w.While) = lead.While
lead_at (Keyword w.For) = lead.For
lead_at (Keyword w.Obliv) = lead.Obliv
lead_at (Sign s.Tilde) = lead.Tilde
lead_at _ = lead.Simple

-- an `if`, or an `obliv if`
abbrev pub if_node : Bool → Expr → Stmt → Option Stmt → StmtNode
if_node false c y n = st.If c y n
if_node true c y n = st.OblivIf c y n

-- the else part
pub data ElseBy (spot : Spot) (obliv : Bool) (c : Expr) (y : Stmt) (t : Token) : Stmt → List Token → Type 0 where
  else_by : {v : Stmt} {ys : List Token} →
      Is (Keyword w.Else) t → ends_open y ≡ false →
      Then Statement (λ n. End (stmt spot (if_node obliv c y (Some n)))) v ys →
      ElseBy spot obliv c y t v ys

-- after `if`, where the statement begins at the spot
abbrev pub if_after : Spot → Bool → Stmt → List Token → Type 0
if_after spot obliv = Then Condition (λ c. Then Statement (λ y. Maybe (ElseBy spot obliv c y) (stmt spot (if_node obliv c y None))))

-- after `while`, where the statement begins at the spot
abbrev pub while_after : Spot → Stmt → List Token → Type 0
while_after spot = Then Condition (λ c. Then Statement (λ b. End (stmt spot (st.While c b))))

-- after `for`, where the statement begins at the spot
abbrev pub for_after : Spot → Stmt → List Token → Type 0
for_after spot = Then header_form (λ h. Then Statement (λ b. End (stmt spot (st.For h.init h.cond h.advance b))))

-- after `~ obliv`
abbrev pub always_after : Spot → Stmt → List Token → Type 0
always_after spot = Then name_form (λ n. Then (Placed Block) (λ p. End (stmt spot (st.Always n (stmt p.0 (st.Block p.1))))))

-- a declaration or a statement
pub data Step : Stmt → List Token → Type 0 where
  declares : {b : BaseName} {ds : List Declared} {x : List Token} →
      Declaration b ds x →
      Step (stmt b.spot (st.Declare ds)) x
  states : {v : Stmt} {x : List Token} → Statement v x → Step v x

-- after `{` and the steps l: further ones, up to `}`
pub data Run : List Stmt → List Stmt → List Token → Type 0 where
  run_end : {l : List Stmt} {t : Token} → Is (Sign s.RightBrace) t → Run l l (t ∷ [])
  run_more : {l : List Stmt} {v : Stmt} {vs : List Stmt} {x y : List Token} →
      Step v x → Run (l ++ v ∷ []) vs y →
      Run l vs (x ++ y)

-- after `{`, where the block begins at the spot
abbrev pub block_after : Spot → Stmt → List Token → Type 0
block_after spot = Then (Run []) (λ vs. End (stmt spot (st.Block vs)))

-- after `~`: an `obliv` and the rest of that, or an expression that begins with this sign
pub data TildeAfter (t : Token) : Stmt → List Token → Type 0 where
  by_always : {u : Token} {v : Stmt} {ys : List Token} →
      Is (Keyword w.Obliv) u → always_after t.spot v ys →
      TildeAfter t v (u ∷ ys)
  by_simple : {v : Stmt} {ys : List Token} → SimpleStatement v (t ∷ ys) → TildeAfter t v ys

-- after the first token of a statement
abbrev pub stmt_after : Token → Lead → Stmt → List Token → Type 0
stmt_after t lead.Block = block_after t.spot
stmt_after t lead.If = if_after t.spot false
stmt_after t lead.While = while_after t.spot
stmt_after t lead.For = for_after t.spot
stmt_after t lead.Obliv = Then (One (Keyword w.If)) (λ _. if_after t.spot true)
stmt_after t lead.Tilde = TildeAfter t
stmt_after t lead.Simple = λ v ys. SimpleStatement v (t ∷ ys)

-- after the `obliv` that a step begins with
pub data OblivAfter (spot : Spot) : Stmt → List Token → Type 0 where
  by_if : {u : Token} {v : Stmt} {ys : List Token} →
      Is (Keyword w.If) u → if_after spot true v ys →
      OblivAfter spot v (u ∷ ys)
  by_base : {v : Stmt} {ys : List Token} →
      Then (By (λ t. base_after_obliv spot (opening t.kind))) declare_after v ys →
      OblivAfter spot v ys
