-- When a typed tree keeps the rules of hidden scopes and frozen places, a case for each form.
use Rattle.std.specs.Prelude.{ℕ, ◌≡◌, List, [], ◌∷◌, true, false, Option, Some, None, slice_get}
use Rattle.oc_cells.specs.declared.types.CType.{CType, Pointer', Nothing}
use Rattle.oc_cells.specs.declared.types.SlotType.{SlotType}
use Rattle.oc_cells.specs.declared.types.StructType.{StructType}
use Rattle.oc_typed.specs.declared.typed.TExpr.{TExpr}
use Rattle.oc_typed.specs.declared.typed.TExprNode.{TExprNode, Number, NullPointer, Read', AddressOf', Decay', Unary', Binary', PointerStep', PointerSame', Logic', Choose', Assign', Update', Convert', Call', Builtin', Row_of-TExpr, end_of-TExpr, more_of-TExpr}
use Rattle.oc_typed.specs.declared.typed.TPlaceNode.{TPlaceNode, Slot, Deref', Index', Field', Row_of-TPlace, more_of-TPlace}
use Rattle.oc_typed.specs.declared.typed.Builtin.{Builtin}
use Rattle.oc_typed.specs.declared.typed.Builtin.TheVariants.{Reveal, Free}
use Rattle.oc_typed.specs.declared.typed.TDeclared.{TDeclared}
use Rattle.oc_typed.specs.declared.typed.TForInit.{TForInit}
use Rattle.oc_typed.specs.declared.typed.TForInit.TheVariants.{Nothing as NoInit, Declare as InitDeclare, Express as InitExpress}
use Rattle.oc_typed.specs.declared.typed.TStmt.{TStmt}
use Rattle.oc_typed.specs.declared.typed.TStmtNode.{TStmtNode, Declare, Express, Block', If', OblivIf', Always', While', For', Return, Break, Continue, Empty, Row_of-TStmt, end_of-TStmt, more_of-TStmt, Held-TStmtNode-If-2, None', Some'}
use Rattle.oc_typed.specs.declared.typed.TypedFunction.{TypedFunction}
use Rattle.oc_typed.specs.Static.{types_of}
use Rattle.oc_typed.specs.Visible.{after_node, after_header, after_params}
use Rattle.oc_typing.specs.Tree.{TypedTree}
use Rattle.oc_typing.specs.Typed.{Context, context, param_types}
use Rattle.scope_rules.specs.Frozen.{Facts, of_body, of_part, of_always, in_loop, from_frozen, loses, loses_one, is_kept, is_marked, leaves_part}

-- the types of a function's parameters, if it is there
abbrev pub params_of : Option TypedFunction → List CType
params_of None = []
params_of (Some f) = param_types f

-- a pointer's type without its own mark
abbrev pub unfrozen : CType → CType
unfrozen (Pointer' f u t) = Pointer' false u t
unfrozen t = t

-- the first of some types as an unfrozen pointer
abbrev pub first_unfrozen : List CType → List CType
first_unfrozen [] = []
first_unfrozen (t ∷ ts) = unfrozen t ∷ []

-- what arguments of the language's own calls come to: the first one of a reveal and that of `free` to an unfrozen pointer
abbrev pub comings : Builtin → List CType → List CType
comings (Reveal k) ts = first_unfrozen ts
comings Free ts = first_unfrozen ts
comings _ ts = []

-- the type of a variable that is there
abbrev pub slot_type : Option SlotType → CType
slot_type None = Nothing
slot_type (Some s) = s.ty

abbrev mutual
  -- an expression of this type keeps the rules: no value loses its freezing, no public data is written to a frozen place, and
  -- only marked functions are called in a hidden scope
  pub ExprInScope : Context → Facts → CType → TExprNode → Type 0
  ExprInScope g w t (Number n) = Unit {0}
  ExprInScope g w t NullPointer = Unit {0}
  ExprInScope g w t (Read' q u c) = PlaceInScope g w c
  ExprInScope g w t (AddressOf' q u c) = PlaceInScope g w c
  ExprInScope g w t (Decay' q u c) = PlaceInScope g w c
  ExprInScope g w t (Unary' op _ e) = OneInScope g w e
  ExprInScope g w t (Binary' op _ l _ r) = OneInScope g w l × OneInScope g w r
  ExprInScope g w t (PointerStep' _ l _ r back first) = OneInScope g w l × OneInScope g w r
  ExprInScope g w t (PointerSame' _ l _ r negated) = OneInScope g w l × OneInScope g w r
  ExprInScope g w t (Logic' all _ l _ r) = OneInScope g w l × OneInScope g w r
  ExprInScope g w t (Choose' _ c _ l _ r) = OneInScope g w c × OneInScope g w l × OneInScope g w r
  ExprInScope g w t (Assign' q u c _ e) =
      PlaceInScope g w c × OneInScope g w e × (loses_one g w e u ≡ false) × (is_kept g w u c ≡ false)
  ExprInScope g w t (Update' op q u c _ e old) = PlaceInScope g w c × OneInScope g w e × (is_kept g w u c ≡ false)
  ExprInScope g w t (Convert' _ e) = OneInScope g w e × (loses_one g w e t ≡ false)
  ExprInScope g w t (Call' f _ es) =
      AllInScope g w (params_of (slice_get g.functions f)) es × (w.hidden ≡ true → is_marked (slice_get g.functions f) ≡ true)
  ExprInScope g w t (Builtin' which _ es) = AllInScope g w (comings which (types_of es)) es × (w.hidden ≡ false)

  -- a place keeps the rules
  pub PlaceInScope : Context → Facts → TPlaceNode → Type 0
  PlaceInScope g w (Slot n) = Unit {0}
  PlaceInScope g w (Deref' _ e) = OneInScope g w e
  PlaceInScope g w (Index' _ l _ r) = OneInScope g w l × OneInScope g w r
  PlaceInScope g w (Field' _ b n) = BaseInScope g w b

  -- a row's only place does
  pub BaseInScope : Context → Facts → Row_of-TPlace 1 → Type 0
  BaseInScope g w (more_of-TPlace q u c rest) = PlaceInScope g w c

  -- a row's only expression does
  pub OneInScope : Context → Facts → Row_of-TExpr 1 → Type 0
  OneInScope g w (more_of-TExpr q u c rest) = ExprInScope g w u c

  -- the expressions of a row do, and the first ones lose no freezing where they come to these types
  pub AllInScope : {m : _} → Context → Facts → List CType → Row_of-TExpr m → Type 0
  AllInScope g w ts end_of-TExpr = Unit {0}
  AllInScope g w [] (more_of-TExpr q u c rest) = ExprInScope g w u c × AllInScope g w [] rest
  AllInScope g w (t ∷ ts) (more_of-TExpr q u c rest) =
      ExprInScope g w u c × (loses g (from_frozen g w c) u t ≡ false) × AllInScope g w ts rest

-- an expression, if it is there, keeps the rules
abbrev pub MaybeInScope : Context → Facts → Option TExpr → Type 0
MaybeInScope g w None = Unit {0}
MaybeInScope g w (Some e) = ExprInScope g w e.ty e.node

-- an expression, if it is there, keeps the rules and loses no freezing where it comes to a type
abbrev pub ComesInScope : Context → Facts → CType → Option TExpr → Type 0
ComesInScope g w t None = Unit {0}
ComesInScope g w t (Some e) = ExprInScope g w e.ty e.node × (loses g (from_frozen g w e.node) e.ty t ≡ false)

-- the initialisers of declared variables do
abbrev pub DeclaresInScope : Context → Facts → List TDeclared → Type 0
DeclaresInScope g w [] = Unit {0}
DeclaresInScope g w (d ∷ ds) = ComesInScope g w (slot_type (slice_get g.slots d.slot)) d.init × DeclaresInScope g w ds

-- what the header of a `for` begins with keeps the rules
abbrev pub HeaderInScope : Context → Facts → TForInit → Type 0
HeaderInScope g w NoInit = Unit {0}
HeaderInScope g w (InitDeclare ds) = DeclaresInScope g w ds
HeaderInScope g w (InitExpress e) = ExprInScope g w e.ty e.node

abbrev mutual
  -- a statement keeps the rules where these slots are visible: no jump leaves an innermost part
  pub StmtInScope : Context → Facts → List ℕ → TStmtNode → Type 0
  StmtInScope g w vis (Declare ds) = DeclaresInScope g w ds
  StmtInScope g w vis (Express e) = ExprInScope g w e.ty e.node
  StmtInScope g w vis (Block' _ ss) = RowsInScope g w vis ss
  StmtInScope g w vis (If' c _ s n) = ExprInScope g w c.ty c.node × PartInScope g w vis s × OtherInScope g w vis n
  StmtInScope g w vis (OblivIf' c _ s n) =
      ExprInScope g w c.ty c.node × PartInScope g (of_part vis) vis s × OtherInScope g (of_part vis) vis n
  StmtInScope g w vis (Always' n _ s) = PartInScope g of_always (n ∷ vis) s
  StmtInScope g w vis (While' c _ s) = ExprInScope g w c.ty c.node × PartInScope g (in_loop w) vis s
  StmtInScope g w vis (For' i c a _ s) =
      HeaderInScope g w i × MaybeInScope g w c × MaybeInScope g w a × PartInScope g (in_loop w) (after_header vis i) s
  StmtInScope g w vis (Return e) = ComesInScope g w g.result e × (w.parted ≡ false)
  StmtInScope g w vis Break = leaves_part w ≡ false
  StmtInScope g w vis Continue = leaves_part w ≡ false
  StmtInScope g w vis Empty = Unit {0}

  -- a part of a statement does
  pub PartInScope : Context → Facts → List ℕ → Row_of-TStmt 1 → Type 0
  PartInScope g w vis (more_of-TStmt q c rest) = StmtInScope g w vis c

  -- the statements of a block do
  pub RowsInScope : {m : _} → Context → Facts → List ℕ → Row_of-TStmt m → Type 0
  RowsInScope g w vis end_of-TStmt = Unit {0}
  RowsInScope g w vis (more_of-TStmt q c rest) = StmtInScope g w vis c × RowsInScope g w (after_node vis c) rest

  -- the part after an `else`, if it is there, does
  pub OtherInScope : Context → Facts → List ℕ → Held-TStmtNode-If-2 → Type 0
  OtherInScope g w vis None' = Unit {0}
  OtherInScope g w vis (Some' _ s) = PartInScope g w vis s

-- the statements of a function's body do
abbrev pub StmtsInScope : Context → Facts → List ℕ → List TStmt → Type 0
StmtsInScope g w vis [] = Unit {0}
StmtsInScope g w vis (s ∷ ss) = StmtInScope g w vis s.node × StmtsInScope g w (after_node vis s.node) ss

-- a function keeps the rules, in whose body its parameters are visible
abbrev pub FunctionInScope : List StructType → List TypedFunction → TypedFunction → Type 0
FunctionInScope structs fs f =
    StmtsInScope (context structs fs f) (of_body f.obliv) (after_params [] 0 (param_types f)) f.body

-- a typed program keeps the rules of hidden scopes and frozen places: each of its functions does
abbrev pub InScope : TypedTree → Type 0
InScope t = (n : ℕ) (f : TypedFunction) → slice_get t.functions n ≡ Some f → FunctionInScope t.structs t.functions f
