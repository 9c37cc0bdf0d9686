-- Typing of statements: which typed one a statement is, and which scope it leaves, as a relation on both trees.
use Rattle.std.specs.Prelude.{◌≡◌, List, [], ◌∷◌, length, Option, Some, None, Ok, Bool, true, false}
use Rattle.oc_values.specs.declared.integers.IntKind.TheVariants.{Bool as KBool}
use Rattle.oc_source.specs.declared.spot.Spot.{Spot}
use Rattle.oc_cells.specs.declared.types.CType.{CType, Int}
use Rattle.oc_source.specs.declared.parsed.Expr.{Expr}
use Rattle.oc_source.specs.declared.parsed.Stmt.{Stmt}
use Rattle.oc_source.specs.declared.parsed.Declared.{Declared}
use Rattle.oc_source.specs.declared.parsed.StmtNode.{StmtNode, Declare, Express, Block', If', OblivIf', Always', While', For', Return, Break, Continue, Empty, Row_of-Stmt, end_of-Stmt, more_of-Stmt, Held-StmtNode-If-2, None', Some'}
use Rattle.oc_source.specs.declared.parsed.ForInit.{ForInit}
use Rattle.oc_source.specs.declared.parsed.ForInit.TheVariants as begin
use Rattle.oc_typed.specs.declared.typed.TExpr.{TExpr}
use Rattle.oc_typed.specs.declared.typed.TStmt.{TStmt, roll-TStmt}
use Rattle.oc_typed.specs.declared.typed.TStmtNode as t
use Rattle.oc_typed.specs.declared.typed.TDeclared.{TDeclared}
use Rattle.oc_typed.specs.declared.typed.TForInit.{TForInit}
use Rattle.oc_typed.specs.declared.typed.TForInit.TheVariants as init
use Rattle.oc_cells.specs.Types.{is_integer}
use Rattle.type_rules.specs.declared.judging.Found.{Found}
use Rattle.type_rules.specs.Judging.{public_integer}
use Rattle.type_rules.specs.Lookup.{Lookup, value_of, convert, converted}
use Rattle.type_rules.specs.Written.{field_type, is_frozen_place}
use Rattle.type_rules.specs.StatementRules.{Scope, at, add, is_taken, condition, returned}
use Rattle.type_rules.specs.Moves.{deeper, back}
use Rattle.type_rules.specs.Typing.{Typing}

-- the typed statement of this node at this spot
abbrev pub stands : Spot → t.TStmtNode → TStmt
stands p n = roll-TStmt (record { spot = p; node = n })

-- v is the value of the expression, in a scope
abbrev pub ValueTyping : Lookup → Scope → Expr → TExpr → Type 0
ValueTyping g s e v = (f : Found) × Typing (at g s) false e.spot e.node f × (v ≡ value_of f)

-- of an expression, if there is one
abbrev pub OptionalTyping : Lookup → Scope → Option Expr → Option TExpr → Type 0
OptionalTyping g s None o = o ≡ None
OptionalTyping g s (Some e) o = (v : TExpr) × ValueTyping g s e v × (o ≡ Some v)

-- of an initialiser of a variable of this type, if there is one
abbrev pub InitialTyping : Lookup → Scope → CType → Option Expr → Option TExpr → Type 0
InitialTyping g s ty None o = o ≡ None
InitialTyping g s ty (Some e) o = (v x : TExpr) × ValueTyping g s e v × (convert ty v ≡ Ok x) × (o ≡ Some x)

-- the scope after a name of this type is declared
abbrev pub declared : Declared → CType → Scope → Scope
declared d ty s = add d.field.name ty (is_frozen_place d.field.base d.field.stars) s

-- of a declared variable, whose name isn't taken and is visible in its own initialiser; r is the scope after it
abbrev pub DeclaredTyping : Lookup → Declared → Scope → TDeclared → Scope → Type 0
DeclaredTyping g d s x r =
    (ty : CType) × (o : Option TExpr) × (field_type g d.field ≡ Ok ty) × (is_taken s d.field.name ≡ false)
    × InitialTyping g (declared d ty s) ty d.init o × (x ≡ record { spot = d.field.spot; slot = length s.slots; init = o })
    × (r ≡ declared d ty s)

-- of the variables of a declaration, in order
abbrev pub DeclaresTyping : Lookup → List Declared → Scope → List TDeclared → Scope → Type 0
DeclaresTyping g [] s xs r = (xs ≡ []) × (r ≡ s)
DeclaresTyping g (d ∷ ds) s xs r =
    (x : TDeclared) × (q : Scope) × (ys : List TDeclared) × DeclaredTyping g d s x q × DeclaresTyping g ds q ys r × (xs ≡ x ∷ ys)

-- of what the header of a `for` begins with
abbrev pub HeaderTyping : Lookup → ForInit → Scope → TForInit → Scope → Type 0
HeaderTyping g begin.Nothing s h r = (h ≡ init.Nothing) × (r ≡ s)
HeaderTyping g (begin.Declare ds) s h r = (xs : List TDeclared) × DeclaresTyping g ds s xs r × (h ≡ init.Declare xs)
HeaderTyping g (begin.Express e) s h r = (v : TExpr) × ValueTyping g s e v × (h ≡ init.Express v) × (r ≡ s)

abbrev mutual
  -- c is the typed statement, in a loop or not, and r the scope after it
  pub StatementTyping : Lookup → Bool → Spot → StmtNode → Scope → TStmt → Scope → Type 0
  StatementTyping g loop p (Express e) s c r =
      (f : Found) × Typing (at g s) true e.spot e.node f × (c ≡ stands p (t.Express (value_of f))) × (r ≡ s)
  StatementTyping g loop p (Declare ds) s c r = (xs : List TDeclared) × DeclaresTyping g ds s xs r × (c ≡ stands p (t.Declare xs))
  StatementTyping g loop p (Block' _ ss) s c r =
      (xs : List TStmt) × (q : Scope) × BlockTyping g loop ss (deeper s) xs q × (c ≡ stands p (t.Block xs)) × (r ≡ back s q)
  StatementTyping g loop p (If' e _ y n) s c r =
      (v : TExpr) × (a : TStmt) × (q : Scope) × (o : Option TStmt) × ValueTyping g s e v × (public_integer p v.ty ≡ Ok tt)
      × PartTyping g loop y s a q × OtherTyping g loop n q o r × (c ≡ stands p (t.If v a o))
  StatementTyping g loop p (OblivIf' e _ y n) s c r =
      (v : TExpr) × (a : TStmt) × (q : Scope) × (o : Option TStmt) × ValueTyping g s e v × (is_integer v.ty ≡ true)
      × PartTyping g loop y s a q × OtherTyping g loop n q o r × (c ≡ stands p (t.OblivIf (converted (Int KBool true) v) a o))
  StatementTyping g loop p (Always' x _ b) s c r =
      (a : TStmt) × (q : Scope) × PartTyping g loop b (add x (Int KBool true) false (deeper s)) a q
      × (c ≡ stands p (t.Always (length s.slots) a)) × (r ≡ back s q)
  StatementTyping g loop p (While' e _ b) s c r =
      (v : TExpr) × (a : TStmt) × ValueTyping g s e v × (public_integer p v.ty ≡ Ok tt) × PartTyping g true b s a r
      × (c ≡ stands p (t.While v a))
  StatementTyping g loop p (For' i e u _ b) s c r =
      (h : TForInit) × (v w : Option TExpr) × (a : TStmt) × (q z : Scope) × HeaderTyping g i (deeper s) h q × OptionalTyping g q e v
      × OptionalTyping g q u w × (condition p v ≡ Ok tt) × PartTyping g true b q a z × (c ≡ stands p (t.For h v w a)) × (r ≡ back s z)
  StatementTyping g loop p (Return e) s c r =
      (v o : Option TExpr) × OptionalTyping g s e v × (returned g p v ≡ Ok o) × (c ≡ stands p (t.Return o)) × (r ≡ s)
  StatementTyping g loop p Break s c r = (loop ≡ true) × (c ≡ stands p t.Break) × (r ≡ s)
  StatementTyping g loop p Continue s c r = (loop ≡ true) × (c ≡ stands p t.Continue) × (r ≡ s)
  StatementTyping g loop p Empty s c r = (c ≡ stands p t.Empty) × (r ≡ s)

  -- of a part of a statement, whose names end with it
  pub PartTyping : Lookup → Bool → Row_of-Stmt 1 → Scope → TStmt → Scope → Type 0
  PartTyping g loop (more_of-Stmt p n rest) s c r = (q : Scope) × StatementTyping g loop p n (deeper s) c q × (r ≡ back s q)

  -- of the statements of a block, in order
  pub BlockTyping : {m : _} → Lookup → Bool → Row_of-Stmt m → Scope → List TStmt → Scope → Type 0
  BlockTyping g loop end_of-Stmt s xs r = (xs ≡ []) × (r ≡ s)
  BlockTyping g loop (more_of-Stmt p n rest) s xs r =
      (x : TStmt) × (q : Scope) × (ys : List TStmt) × StatementTyping g loop p n s x q × BlockTyping g loop rest q ys r × (xs ≡ x ∷ ys)

  -- of the part after an `else`, if there is one
  pub OtherTyping : Lookup → Bool → Held-StmtNode-If-2 → Scope → Option TStmt → Scope → Type 0
  OtherTyping g loop None' s o r = (o ≡ None) × (r ≡ s)
  OtherTyping g loop (Some' _ y) s o r = (a : TStmt) × PartTyping g loop y s a r × (o ≡ Some a)

-- of the statements of a function's body, in order
abbrev pub BodyTyping : Lookup → List Stmt → Scope → List TStmt → Scope → Type 0
BodyTyping g [] s xs r = (xs ≡ []) × (r ≡ s)
BodyTyping g (c ∷ cs) s xs r =
    (x : TStmt) × (q : Scope) × (ys : List TStmt) × StatementTyping g false c.spot c.node s x q × BodyTyping g cs q ys r × (xs ≡ x ∷ ys)
