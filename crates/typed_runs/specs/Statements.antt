-- When the statements and calls of a program have the shapes that their users want.
use Rattle.std.specs.Prelude.{ℕ, suc, ◌≡◌, List, [], ◌∷◌, Option, Some, None, true, slice_get}
use Rattle.oc_values.specs.declared.integers.IntKind.TheVariants.{Bool as KBool}
use Rattle.oc_cells.specs.declared.types.CType.{CType, Int, Pointer', Nothing}
use Rattle.oc_cells.specs.declared.types.SlotType.{SlotType}
use Rattle.oc_cells.specs.Types.{IsLeaf}
use Rattle.oc_typed.specs.declared.typed.TExpr.{TExpr}
use Rattle.oc_typed.specs.declared.typed.TDeclared.{TDeclared}
use Rattle.oc_typed.specs.declared.typed.TForInit.{TForInit}
use Rattle.oc_typed.specs.declared.typed.TForInit.TheVariants.{Nothing as NoInit, Declare as InitDeclare, Express as InitExpress}
use Rattle.oc_typed.specs.declared.typed.TStmt.{TStmt}
use Rattle.oc_typed.specs.declared.typed.TStmtNode.{TStmtNode, Declare, Express, Block', If', OblivIf', Always', While', For', Return, Break, Continue, Empty, Row_of-TStmt, end_of-TStmt, more_of-TStmt, Held-TStmtNode-If-2, None', Some'}
use Rattle.oc_typed.specs.declared.typed.TypedFunction.{TypedFunction}
use Rattle.oc_typed.specs.Visible.{after_node, after_header, after_params}
use Rattle.typed_runs.specs.Shapes.{Heading, Sized, Held, PublicOk, ExprOk}

module _ (lss : List (List CType)) (hs : List Heading) (slots : List SlotType) (result : CType) where
  -- an expression where these slots are visible
  abbrev pub WholeOk : List ℕ → TExpr → Type 0
  WholeOk vis e = ExprOk lss (record { headings = hs; visible = vis }) e.ty e.node

  -- a public condition
  abbrev pub TestOk : List ℕ → TExpr → Type 0
  TestOk vis e = PublicOk e.ty × WholeOk vis e

  -- an initialiser of a variable of this type, if it has one
  abbrev pub InitOk : List ℕ → CType → Option TExpr → Type 0
  InitOk vis u None = Unit {0}
  InitOk vis u (Some e) = (e.ty ≡ u) × Held lss u × WholeOk vis e

  -- a variable whose own name is visible in its initialiser
  pub record DeclaredOk (vis : List ℕ) (d : TDeclared) : Type 0 where
    pub type : SlotType
    pub there : slice_get slots d.slot ≡ Some type
    pub sized : Sized lss type.ty
    pub init : InitOk (d.slot ∷ vis) type.ty d.init

  -- variables that are declared one after the other: each is visible in those after it
  abbrev pub DeclaredsOk : List ℕ → List TDeclared → Type 0
  DeclaredsOk vis [] = Unit {0}
  DeclaredsOk vis (d ∷ ds) = DeclaredOk vis d × DeclaredsOk (d.slot ∷ vis) ds

  -- what the header of a `for` begins with
  abbrev pub HeaderOk : List ℕ → TForInit → Type 0
  HeaderOk vis NoInit = Unit {0}
  HeaderOk vis (InitDeclare ds) = DeclaredsOk vis ds
  HeaderOk vis (InitExpress e) = WholeOk vis e

  -- a public condition, if there is one
  abbrev pub MaybeTestOk : List ℕ → Option TExpr → Type 0
  MaybeTestOk vis None = Unit {0}
  MaybeTestOk vis (Some e) = TestOk vis e

  -- an expression, if there is one
  abbrev pub MaybeOk : List ℕ → Option TExpr → Type 0
  MaybeOk vis None = Unit {0}
  MaybeOk vis (Some e) = WholeOk vis e

  -- what a `return` gives back: a value of the type of the result, or nothing where there is no result
  abbrev pub BackOk : List ℕ → Option TExpr → Type 0
  BackOk vis None = result ≡ Nothing
  BackOk vis (Some e) = (e.ty ≡ result) × WholeOk vis e

  -- the slot of a `~obliv` name
  pub record NameOk (n : ℕ) : Type 0 where
    pub type : SlotType
    pub there : slice_get slots n ≡ Some type
    pub is : type.ty ≡ Int KBool true

  abbrev mutual
    -- a statement where these slots are visible, and all its parts
    pub NodeOk : List ℕ → TStmtNode → Type 0
    NodeOk vis (Declare ds) = DeclaredsOk vis ds
    NodeOk vis (Express e) = WholeOk vis e
    NodeOk vis (Block' _ ss) = RowOk vis ss
    NodeOk vis (If' c _ s n) = TestOk vis c × PartOk vis s × OtherOk vis n
    NodeOk vis (OblivIf' c _ s n) = (c.ty ≡ Int KBool true) × WholeOk vis c × PartOk vis s × OtherOk vis n
    NodeOk vis (Always' n _ s) = NameOk n × PartOk (n ∷ vis) s
    NodeOk vis (While' c _ s) = TestOk vis c × PartOk vis s
    NodeOk vis (For' i c a _ s) =
        HeaderOk vis i × MaybeTestOk (after_header vis i) c × MaybeOk (after_header vis i) a × PartOk (after_header vis i) s
    NodeOk vis (Return e) = BackOk vis e
    NodeOk vis Break = Unit {0}
    NodeOk vis Continue = Unit {0}
    NodeOk vis Empty = Unit {0}

    -- a part of a statement
    pub PartOk : List ℕ → Row_of-TStmt 1 → Type 0
    PartOk vis (more_of-TStmt q c rest) = NodeOk vis c

    -- the statements of a block, in order: what one declares is visible in those after it
    pub RowOk : {m : _} → List ℕ → Row_of-TStmt m → Type 0
    RowOk vis end_of-TStmt = Unit {0}
    RowOk vis (more_of-TStmt q c rest) = NodeOk vis c × RowOk (after_node vis c) rest

    -- the part after an `else`, if there is one
    pub OtherOk : List ℕ → Held-TStmtNode-If-2 → Type 0
    OtherOk vis None' = Unit {0}
    OtherOk vis (Some' _ s) = PartOk vis s

  -- a function's own body
  abbrev pub ListOk : List ℕ → List TStmt → Type 0
  ListOk vis [] = Unit {0}
  ListOk vis (s ∷ ss) = NodeOk vis s.node × ListOk (after_node vis s.node) ss

-- a parameter's slot, of this type, which is a leaf
pub record ParamOk (slots : List SlotType) (n : ℕ) (t : CType) : Type 0 where
  pub type : SlotType
  pub there : slice_get slots n ≡ Some type
  pub is : type.ty ≡ t
  pub leaf : IsLeaf t

-- a parameter's slot from number n on, of these types, which are leaves
abbrev pub ParamsOk : List SlotType → ℕ → List CType → Type 0
ParamsOk slots n [] = Unit {0}
ParamsOk slots n (t ∷ ts) = ParamOk slots n t × ParamsOk slots (suc n) ts

-- a result that a function without `return` has a value of
abbrev pub IsResult : CType → Type 0
IsResult (Int k o) = Unit {0}
IsResult (Pointer' f u t) = Unit {0}
IsResult Nothing = Unit {0}
IsResult _ = ⊥

-- a function that keeps to its heading
pub record FunctionOk (lss : List (List CType)) (hs : List Heading) (h : Heading) (f : TypedFunction) : Type 0 where
  pub result : f.result ≡ h.result
  pub returns : IsResult h.result
  pub params : ParamsOk f.slots 0 h.params
  pub body : ListOk lss hs f.slots h.result (after_params [] 0 h.params) f.body

-- each heading has a function that keeps to it
abbrev pub ProgramOk : List (List CType) → List Heading → List TypedFunction → Type 0
ProgramOk lss hs fs =
    (n : ℕ) (h : Heading) → slice_get hs n ≡ Some h → (f : TypedFunction) × (slice_get fs n ≡ Some f) × FunctionOk lss hs h f
