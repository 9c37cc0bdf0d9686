-- The order in which the rules of scopes count along a typed tree, and the first that is broken.
use Rattle.std.specs.Prelude.{ℕ, List, [], ◌∷◌, ◌++◌, Bool, ◌||◌, not, if◌then◌else◌, Option, Some, None, slice_get}
use Rattle.oc_source.specs.declared.spot.Spot.{Spot}
use Rattle.oc_cells.specs.declared.types.CType.{CType}
use Rattle.oc_cells.specs.declared.types.StructType.{StructType}
use Rattle.oc_typed.specs.declared.typed.TExpr.{TExpr}
use Rattle.oc_typed.specs.declared.typed.TExprNode.{TExprNode, Number, NullPointer, Read', AddressOf', Decay', Unary', Binary', PointerStep', PointerSame', Logic', Choose', Assign', Update', Convert', Call', Builtin', Row_of-TExpr, end_of-TExpr, more_of-TExpr}
use Rattle.oc_typed.specs.declared.typed.TPlaceNode.{TPlaceNode, Slot, Deref', Index', Field', Row_of-TPlace, more_of-TPlace}
use Rattle.oc_typed.specs.declared.typed.TDeclared.{TDeclared}
use Rattle.oc_typed.specs.declared.typed.TForInit.{TForInit}
use Rattle.oc_typed.specs.declared.typed.TForInit.TheVariants.{Nothing as NoInit, Declare as InitDeclare, Express as InitExpress}
use Rattle.oc_typed.specs.declared.typed.TStmt.{TStmt}
use Rattle.oc_typed.specs.declared.typed.TStmtNode.{TStmtNode, Declare, Express, Block', If', OblivIf', Always', While', For', Return, Break, Continue, Empty, Row_of-TStmt, end_of-TStmt, more_of-TStmt, Held-TStmtNode-If-2, None', Some'}
use Rattle.oc_typed.specs.declared.typed.TypedFunction.{TypedFunction}
use Rattle.oc_typed.specs.Static.{types_of, spot_of}
use Rattle.oc_typed.specs.Visible.{after_node, after_header, after_params}
use Rattle.oc_typing.specs.Tree.{TypedTree}
use Rattle.oc_typing.specs.Typed.{Context, context, param_types}
use Rattle.scope_rules.specs.declared.rules.ScopeRule.{ScopeRule}
use Rattle.scope_rules.specs.declared.rules.ScopeRule.TheVariants.{F1, F2, F3, F4, F5}
use Rattle.scope_rules.specs.declared.rules.ScopeFault.{ScopeFault}
use Rattle.scope_rules.specs.Frozen.{Facts, of_body, of_part, of_always, in_loop, from_frozen, loses, loses_one, is_kept, is_marked, leaves_part}
use Rattle.scope_rules.specs.InScope.{params_of, comings, slot_type}

-- a visit: the rule that counts at a spot, and whether it is kept there
pub record Visit : Type 0 where
  pub rule : ScopeRule
  pub spot : Spot
  pub kept : Bool

-- the only visit of a rule at a spot
abbrev pub visit : ScopeRule → Spot → Bool → List Visit
visit rule p kept = record { rule = rule; spot = p; kept = kept } ∷ []

-- the rule on writes of public data to frozen places, in a hidden scope or not
abbrev pub writing : Facts → ScopeRule
writing w = if w.hidden then F1 else F5

-- parts in the order in which they are evaluated: the second one first, or not
abbrev pub in_order : Bool → List Visit → List Visit → List Visit
in_order second_first ls rs = if second_first then rs ++ ls else ls ++ rs

abbrev mutual
  -- the visits of an expression at a spot: its parts in the order of evaluation, and then its own; a value that is converted
  -- or comes to a place is visited after its parts, and a write after its value
  pub visits : Context → Facts → Spot → CType → TExprNode → List Visit
  visits g w p t (Number n) = []
  visits g w p t NullPointer = []
  visits g w p t (Read' q u c) = visits_place g w c
  visits g w p t (AddressOf' q u c) = visits_place g w c
  visits g w p t (Decay' q u c) = visits_place g w c
  visits g w p t (Unary' op _ e) = visits_one g w e
  visits g w p t (Binary' op _ l _ r) = visits_one g w l ++ visits_one g w r
  visits g w p t (PointerStep' _ l _ r back first) = in_order first (visits_one g w l) (visits_one g w r)
  visits g w p t (PointerSame' _ l _ r negated) = visits_one g w l ++ visits_one g w r
  visits g w p t (Logic' all _ l _ r) = visits_one g w l ++ visits_one g w r
  visits g w p t (Choose' _ c _ l _ r) = visits_one g w c ++ visits_one g w l ++ visits_one g w r
  visits g w p t (Assign' q u c _ e) =
      visits_place g w c ++ visits_one g w e ++ visit F2 (spot_of e) (not (loses_one g w e u))
      ++ visit (writing w) q (not (is_kept g w u c))
  visits g w p t (Update' op q u c _ e old) = visits_place g w c ++ visits_one g w e ++ visit (writing w) q (not (is_kept g w u c))
  visits g w p t (Convert' _ e) = visits_one g w e ++ visit F2 (spot_of e) (not (loses_one g w e t))
  visits g w p t (Call' f _ es) =
      visits_all g w (params_of (slice_get g.functions f)) es ++ visit F3 p (not w.hidden || is_marked (slice_get g.functions f))
  visits g w p t (Builtin' which _ es) = visits_all g w (comings which (types_of es)) es ++ visit F3 p (not w.hidden)

  -- those of a place, which are those of its parts
  pub visits_place : Context → Facts → TPlaceNode → List Visit
  visits_place g w (Slot n) = []
  visits_place g w (Deref' _ e) = visits_one g w e
  visits_place g w (Index' _ l _ r) = visits_one g w l ++ visits_one g w r
  visits_place g w (Field' _ b n) = visits_base g w b

  -- those of a row's only place
  pub visits_base : Context → Facts → Row_of-TPlace 1 → List Visit
  visits_base g w (more_of-TPlace q u c rest) = visits_place g w c

  -- those of a row's only expression
  pub visits_one : Context → Facts → Row_of-TExpr 1 → List Visit
  visits_one g w (more_of-TExpr q u c rest) = visits g w q u c

  -- those of arguments in order, of which the first ones come to these types, each after its own parts
  pub visits_all : {m : _} → Context → Facts → List CType → Row_of-TExpr m → List Visit
  visits_all g w ts end_of-TExpr = []
  visits_all g w [] (more_of-TExpr q u c rest) = visits g w q u c ++ visits_all g w [] rest
  visits_all g w (t ∷ ts) (more_of-TExpr q u c rest) =
      visits g w q u c ++ visit F2 q (not (loses g (from_frozen g w c) u t)) ++ visits_all g w ts rest

-- those of an expression, if it is there
abbrev pub visits_maybe : Context → Facts → Option TExpr → List Visit
visits_maybe g w None = []
visits_maybe g w (Some e) = visits g w e.spot e.ty e.node

-- those of an expression that comes to a type, if it is there
abbrev pub visits_coming : Context → Facts → CType → Option TExpr → List Visit
visits_coming g w t None = []
visits_coming g w t (Some e) = visits g w e.spot e.ty e.node ++ visit F2 e.spot (not (loses g (from_frozen g w e.node) e.ty t))

-- those of declared variables, in order
abbrev pub visits_declares : Context → Facts → List TDeclared → List Visit
visits_declares g w [] = []
visits_declares g w (d ∷ ds) = visits_coming g w (slot_type (slice_get g.slots d.slot)) d.init ++ visits_declares g w ds

-- those of what the header of a `for` begins with
abbrev pub visits_header : Context → Facts → TForInit → List Visit
visits_header g w NoInit = []
visits_header g w (InitDeclare ds) = visits_declares g w ds
visits_header g w (InitExpress e) = visits g w e.spot e.ty e.node

abbrev mutual
  -- those of a statement at a spot where these slots are visible, in the order of the text; a `for` has its header first
  pub visits_stmt : Context → Facts → List ℕ → Spot → TStmtNode → List Visit
  visits_stmt g w vis p (Declare ds) = visits_declares g w ds
  visits_stmt g w vis p (Express e) = visits g w e.spot e.ty e.node
  visits_stmt g w vis p (Block' _ ss) = visits_rows g w vis ss
  visits_stmt g w vis p (If' c _ s n) = visits g w c.spot c.ty c.node ++ visits_part g w vis s ++ visits_other g w vis n
  visits_stmt g w vis p (OblivIf' c _ s n) =
      visits g w c.spot c.ty c.node ++ visits_part g (of_part vis) vis s ++ visits_other g (of_part vis) vis n
  visits_stmt g w vis p (Always' n _ s) = visits_part g of_always (n ∷ vis) s
  visits_stmt g w vis p (While' c _ s) = visits g w c.spot c.ty c.node ++ visits_part g (in_loop w) vis s
  visits_stmt g w vis p (For' i c a _ s) =
      visits_header g w i ++ visits_maybe g w c ++ visits_maybe g w a ++ visits_part g (in_loop w) (after_header vis i) s
  visits_stmt g w vis p (Return e) = visits_coming g w g.result e ++ visit F4 p (not w.parted)
  visits_stmt g w vis p Break = visit F4 p (not (leaves_part w))
  visits_stmt g w vis p Continue = visit F4 p (not (leaves_part w))
  visits_stmt g w vis p Empty = []

  -- those of a part of a statement
  pub visits_part : Context → Facts → List ℕ → Row_of-TStmt 1 → List Visit
  visits_part g w vis (more_of-TStmt q c rest) = visits_stmt g w vis q c

  -- those of the statements of a block
  pub visits_rows : {m : _} → Context → Facts → List ℕ → Row_of-TStmt m → List Visit
  visits_rows g w vis end_of-TStmt = []
  visits_rows g w vis (more_of-TStmt q c rest) = visits_stmt g w vis q c ++ visits_rows g w (after_node vis c) rest

  -- those of the part after an `else`, if it is there
  pub visits_other : Context → Facts → List ℕ → Held-TStmtNode-If-2 → List Visit
  visits_other g w vis None' = []
  visits_other g w vis (Some' _ s) = visits_part g w vis s

-- those of the statements of a function's body
abbrev pub visits_stmts : Context → Facts → List ℕ → List TStmt → List Visit
visits_stmts g w vis [] = []
visits_stmts g w vis (s ∷ ss) = visits_stmt g w vis s.spot s.node ++ visits_stmts g w (after_node vis s.node) ss

-- those of a function, in whose body its parameters are visible
abbrev pub visits_function : List StructType → List TypedFunction → TypedFunction → List Visit
visits_function structs fs f =
    visits_stmts (context structs fs f) (of_body f.obliv) (after_params [] 0 (param_types f)) f.body

-- those of some functions, one after the other
abbrev pub visits_functions : List StructType → List TypedFunction → List TypedFunction → List Visit
visits_functions structs fs [] = []
visits_functions structs fs (f ∷ rest) = visits_function structs fs f ++ visits_functions structs fs rest

-- the first of some visits at which a rule is broken
abbrev pub first_broken : List Visit → Option ScopeFault
first_broken [] = None
first_broken (v ∷ vs) = if v.kept then first_broken vs else Some (record { rule = v.rule; spot = v.spot })

-- the first rule of scopes that a typed program breaks, and where, if it breaks one
unfoldable pub first_fault : TypedTree → Option ScopeFault
first_fault t = first_broken (visits_functions t.structs t.functions t.functions)
