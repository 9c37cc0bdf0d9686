-- When a typed tree is well typed: a test of the tree alone.
use Rattle.std.specs.Prelude.{ℕ, suc, ℤ, pos, negsuc, List, [], ◌∷◌, ◌++◌, length, map, take, nat_eq, nat_le, Bool, true, false, ◌&&◌, ◌||◌, not, Option, Some, None, slice_get, codes}
use Rattle.oc_values.specs.declared.integers.IntKind.{IntKind}
use Rattle.oc_values.specs.declared.integers.IntKind.TheVariants.{Bool as KBool, I32}
use Rattle.oc_cells.specs.declared.types.CType.{CType, Int, Pointer', Array', Row_of-CType, more_of-CType, end_of-CType}
use Rattle.oc_cells.specs.declared.types.SlotType.{SlotType}
use Rattle.oc_cells.specs.declared.types.StructType.{StructType}
use Rattle.oc_cells.specs.Types.{same, is_pointer, target, public_structs}
use Rattle.oc_cells.specs.Layout.{struct_cells}
use Rattle.oc_typed.specs.declared.typed.TExpr.{TExpr}
use Rattle.oc_typed.specs.declared.typed.TExprNode.{TExprNode, Number, NullPointer, Read', AddressOf', Decay', Unary', Binary', PointerStep', PointerSame', Logic', Choose', Assign', Update', Convert', Call', Builtin', Row_of-TExpr, end_of-TExpr, more_of-TExpr}
use Rattle.oc_typed.specs.declared.typed.TPlaceNode.{TPlaceNode, Slot, Deref', Index', Field', Row_of-TPlace, more_of-TPlace}
use Rattle.oc_typed.specs.declared.typed.Builtin.{Builtin}
use Rattle.oc_typed.specs.declared.typed.Builtin.TheVariants.{Private, Feed}
use Rattle.oc_typed.specs.declared.typed.TDeclared.{TDeclared}
use Rattle.oc_typed.specs.declared.typed.TForInit.{TForInit}
use Rattle.oc_typed.specs.declared.typed.TForInit.TheVariants.{Nothing as NoInit, Declare as InitDeclare, Express as InitExpress}
use Rattle.oc_typed.specs.declared.typed.TStmt.{TStmt}
use Rattle.oc_typed.specs.declared.typed.TStmtNode.{TStmtNode, Declare, Express, Block', If', OblivIf', Always', While', For', Return, Break, Continue, Empty, Row_of-TStmt, end_of-TStmt, more_of-TStmt, Held-TStmtNode-If-2, None', Some'}
use Rattle.oc_typed.specs.declared.typed.TypedFunction.{TypedFunction}
use Rattle.oc_typed.specs.Static.{type_of, types_of}
use Rattle.oc_typed.specs.Visible.{is_among, after_node, after_header, after_params}
use Rattle.oc_typing.specs.Rules.{all, is_type, is_nothing, is_null, is_public, is_common, is_leaf, is_held, number, address, decay, unary, binary, step, alike_pointers, logic, update, converts, same_all, builtin, same_name, differ, struct_names, are_structs, field}

-- what a function's nodes stand in: the structs, the functions, its slots and its result
pub record Context : Type 0 where
  pub structs : List StructType
  -- the cells of each struct, and whether it holds public data
  pub sizes : List ℕ
  pub public : List Bool
  pub functions : List TypedFunction
  pub slots : List SlotType
  pub result : CType

-- the types of slots
abbrev pub slot_types : List SlotType → List CType
slot_types ss = map (λ s. s.ty) ss

-- the types of a function's parameters
abbrev pub param_types : TypedFunction → List CType
param_types f = slot_types (take f.params f.slots)

-- a variable that is visible and has this type
abbrev pub has_type : CType → Option SlotType → Bool
has_type t None = false
has_type t (Some s) = same true s.ty t

-- a call of a function, which is there, with these types of its arguments
abbrev pub call : CType → List CType → Option TypedFunction → Bool
call t ts None = false
call t ts (Some f) = same true f.result t && same_all (param_types f) ts

-- what is fed: an `ocPrivate`, or a public value that is converted to the kind
abbrev pub is_fed : IntKind → CType → TExprNode → Bool
is_fed k u (Builtin' Private _ es) = is_public u
is_fed k u (Convert' _ e) = same true u (Int k true) && is_public (type_of e)
is_fed k u _ = false

-- whether an integer is 1
abbrev pub is_one : ℤ → Bool
is_one (pos n) = nat_eq n 1
is_one (negsuc n) = false

-- whether a row's only expression is the number 1
abbrev pub is_number_one : Row_of-TExpr 1 → Bool
is_number_one (more_of-TExpr q u (Number n) rest) = is_one n
is_number_one _ = false

-- whether a row's only expression is the number 1, as it stands or converted: what `++` and `--` add and subtract
abbrev pub is_unit : Row_of-TExpr 1 → Bool
is_unit (more_of-TExpr q u (Convert' _ e) rest) = is_number_one e
is_unit e = is_number_one e

-- whether a row has no further expression
abbrev pub ends : {m : _} → Row_of-TExpr m → Bool
ends end_of-TExpr = true
ends (more_of-TExpr q u c rest) = false

-- whether a row is what a feed of this kind takes
abbrev pub are_fed : {m : _} → IntKind → Row_of-TExpr m → Bool
are_fed k (more_of-TExpr q u c rest) = is_fed k u c && ends rest
are_fed k end_of-TExpr = false

-- whether a call is a feed
abbrev pub is_feed : Builtin → Bool
is_feed (Feed k party) = true
is_feed _ = false

-- whether a call is an `ocPrivate`
abbrev pub is_private : Builtin → Bool
is_private Private = true
is_private _ = false

-- whether these are the arguments of a feed
abbrev pub fed_by : {m : _} → Builtin → Row_of-TExpr m → Bool
fed_by (Feed k party) es = are_fed k es
fed_by _ es = false

-- the type of a node: one of a value, that of `NULL`, or that of no value
abbrev pub is_of_node : Context → CType → Bool
is_of_node g t = is_nothing t || is_null t || is_type g.sizes g.public t

abbrev mutual
  -- a node of this type, where these slots are visible: an `ocPrivate` stands only as the argument of a feed, and an update
  -- whose value is the old one is by the number 1
  pub expr : Context → List ℕ → Bool → CType → TExprNode → Bool
  expr g vis fed t (Number n) = number t n
  expr g vis fed t NullPointer = is_null t
  expr g vis fed t (Read' q u c) = same true t u && is_held u && is_type g.sizes g.public u && place g vis u c
  expr g vis fed t (AddressOf' q u c) = address t u && is_type g.sizes g.public u && place g vis u c
  expr g vis fed t (Decay' q u c) = decay t u && is_type g.sizes g.public u && place g vis u c
  expr g vis fed t (Unary' op _ e) = unary op t (type_of e) && one g vis e
  expr g vis fed t (Binary' op _ l _ r) = binary op t (type_of l) (type_of r) && one g vis l && one g vis r
  expr g vis fed t (PointerStep' _ l _ r back first) = step t (type_of l) (type_of r) && not (back && first) && one g vis l && one g vis r
  expr g vis fed t (PointerSame' _ l _ r negated) =
      same true t (Int I32 false) && alike_pointers (type_of l) (type_of r) && one g vis l && one g vis r
  expr g vis fed t (Logic' all _ l _ r) = logic t (type_of l) (type_of r) && one g vis l && one g vis r
  expr g vis fed t (Choose' _ c _ l _ r) =
      is_public (type_of c) && is_common t && same true (type_of l) t && same true (type_of r) t
      && one g vis c && one g vis l && one g vis r
  expr g vis fed t (Assign' q u c _ e) =
      same true t u && same true (type_of e) u && is_held u && is_type g.sizes g.public u && place g vis u c && one g vis e
  expr g vis fed t (Update' op q u c _ e old) =
      same true t u && update op u (type_of e) && is_type g.sizes g.public u && place g vis u c && one g vis e
      && (not old || is_unit e)
  expr g vis fed t (Convert' _ e) = converts (type_of e) t && one g vis e
  expr g vis fed t (Call' f _ es) = call t (types_of es) (slice_get g.functions f) && exprs g vis false es
  expr g vis fed t (Builtin' which _ es) =
      (fed || not (is_private which)) && builtin g.sizes t (fed_by which es) which (types_of es) && exprs g vis (is_feed which) es

  -- a place of this type
  pub place : Context → List ℕ → CType → TPlaceNode → Bool
  place g vis t (Slot n) = is_among vis n && has_type t (slice_get g.slots n)
  place g vis t (Deref' _ e) = is_pointer (type_of e) && same true (target (type_of e)) t && one g vis e
  place g vis t (Index' _ l _ r) =
      is_pointer (type_of l) && same true (target (type_of l)) t && is_public (type_of r) && one g vis l && one g vis r
  place g vis t (Field' _ b n) = place_one g vis n t b

  -- a place with a field of this type at this offset
  pub place_one : Context → List ℕ → ℕ → CType → Row_of-TPlace 1 → Bool
  place_one g vis n t (more_of-TPlace q u c rest) = field g.structs u n t && is_type g.sizes g.public u && place g vis u c

  -- a row's only expression, in which no `ocPrivate` stands by itself
  pub one : Context → List ℕ → Row_of-TExpr 1 → Bool
  one g vis (more_of-TExpr q u c rest) = is_of_node g u && expr g vis false u c

  -- the expressions of a row
  pub exprs : {m : _} → Context → List ℕ → Bool → Row_of-TExpr m → Bool
  exprs g vis fed end_of-TExpr = true
  exprs g vis fed (more_of-TExpr q u c rest) = is_of_node g u && expr g vis fed u c && exprs g vis fed rest

-- an expression by itself
abbrev pub alone : Context → List ℕ → TExpr → Bool
alone g vis e = is_of_node g e.ty && expr g vis false e.ty e.node

-- one that has a value: a call without a value stands only as a statement of its own
abbrev pub valued : Context → List ℕ → TExpr → Bool
valued g vis e = not (is_nothing e.ty) && alone g vis e

-- a public condition
abbrev pub condition : Context → List ℕ → TExpr → Bool
condition g vis e = is_public e.ty && alone g vis e

-- an initialiser of a variable
abbrev pub initial : Context → List ℕ → Option SlotType → Option TExpr → Bool
initial g vis None e = false
initial g vis (Some s) None = true
initial g vis (Some s) (Some e) = same true e.ty s.ty && is_held s.ty && alone g vis e

-- variables that are declared one after the other: the name of each is visible in its own initialiser
abbrev pub declares : Context → List ℕ → List TDeclared → Bool
declares g vis [] = true
declares g vis (d ∷ ds) = initial g (d.slot ∷ vis) (slice_get g.slots d.slot) d.init && declares g (d.slot ∷ vis) ds

-- what the header of a `for` begins with
abbrev pub header : Context → List ℕ → TForInit → Bool
header g vis NoInit = true
header g vis (InitDeclare ds) = declares g vis ds
header g vis (InitExpress e) = valued g vis e

-- what passes this test, if it is there
abbrev pub maybe : (TExpr → Bool) → Option TExpr → Bool
maybe f None = true
maybe f (Some e) = f e

-- what a `return` gives back
abbrev pub back : Context → List ℕ → Option TExpr → Bool
back g vis None = is_nothing g.result
back g vis (Some e) = not (is_nothing g.result) && same true e.ty g.result && alone g vis e

abbrev mutual
  -- a statement, inside of a loop or not
  pub stmt : Context → Bool → List ℕ → TStmtNode → Bool
  stmt g loop vis (Declare ds) = declares g vis ds
  stmt g loop vis (Express e) = alone g vis e
  stmt g loop vis (Block' _ ss) = rows g loop vis ss
  stmt g loop vis (If' c _ s n) = condition g vis c && part g loop vis s && other g loop vis n
  stmt g loop vis (OblivIf' c _ s n) = same true c.ty (Int KBool true) && alone g vis c && part g loop vis s && other g loop vis n
  stmt g loop vis (Always' n _ s) = has_type (Int KBool true) (slice_get g.slots n) && part g loop (n ∷ vis) s
  stmt g loop vis (While' c _ s) = condition g vis c && part g true vis s
  stmt g loop vis (For' i c a _ s) =
      header g vis i && maybe (condition g (after_header vis i)) c && maybe (valued g (after_header vis i)) a
      && part g true (after_header vis i) s
  stmt g loop vis (Return e) = back g vis e
  stmt g loop vis Break = loop
  stmt g loop vis Continue = loop
  stmt g loop vis Empty = true

  -- a part of a statement
  pub part : Context → Bool → List ℕ → Row_of-TStmt 1 → Bool
  part g loop vis (more_of-TStmt q c rest) = stmt g loop vis c

  -- the statements of a block, in order
  pub rows : {m : _} → Context → Bool → List ℕ → Row_of-TStmt m → Bool
  rows g loop vis end_of-TStmt = true
  rows g loop vis (more_of-TStmt q c rest) = stmt g loop vis c && rows g loop (after_node vis c) rest

  -- the part after an `else`, if there is one
  pub other : Context → Bool → List ℕ → Held-TStmtNode-If-2 → Bool
  other g loop vis None' = true
  other g loop vis (Some' _ s) = part g loop vis s

-- a function's own body
abbrev pub stmts : Context → List ℕ → List TStmt → Bool
stmts g vis [] = true
stmts g vis (s ∷ ss) = stmt g false vis s.node && stmts g (after_node vis s.node) ss

-- The slots that declarations make, in the order of the text.

-- the slots of variables that are declared
abbrev pub slots_of : List TDeclared → List ℕ
slots_of [] = []
slots_of (d ∷ ds) = d.slot ∷ slots_of ds

-- those of what the header of a `for` begins with
abbrev pub slots_of_header : TForInit → List ℕ
slots_of_header (InitDeclare ds) = slots_of ds
slots_of_header _ = []

abbrev mutual
  -- the slots that a statement and all its parts declare, in the order of the text
  pub slots_in : TStmtNode → List ℕ
  slots_in (Declare ds) = slots_of ds
  slots_in (Express e) = []
  slots_in (Block' _ ss) = slots_in_rows ss
  slots_in (If' c _ s n) = slots_in_part s ++ slots_in_other n
  slots_in (OblivIf' c _ s n) = slots_in_part s ++ slots_in_other n
  slots_in (Always' n _ s) = n ∷ slots_in_part s
  slots_in (While' c _ s) = slots_in_part s
  slots_in (For' i c a _ s) = slots_of_header i ++ slots_in_part s
  slots_in (Return e) = []
  slots_in Break = []
  slots_in Continue = []
  slots_in Empty = []

  -- those of a part
  pub slots_in_part : Row_of-TStmt 1 → List ℕ
  slots_in_part (more_of-TStmt q c rest) = slots_in c

  -- those of the statements of a block
  pub slots_in_rows : {m : _} → Row_of-TStmt m → List ℕ
  slots_in_rows end_of-TStmt = []
  slots_in_rows (more_of-TStmt q c rest) = slots_in c ++ slots_in_rows rest

  -- those of the part after an `else`
  pub slots_in_other : Held-TStmtNode-If-2 → List ℕ
  slots_in_other None' = []
  slots_in_other (Some' _ s) = slots_in_part s

-- those of a function's body
abbrev pub slots_in_all : List TStmt → List ℕ
slots_in_all [] = []
slots_in_all (s ∷ ss) = slots_in s.node ++ slots_in_all ss

-- whether these are the numbers from the first on up to the last, without it
abbrev pub count_up : ℕ → List ℕ → ℕ → Bool
count_up n [] m = nat_eq n m
count_up n (i ∷ is) m = nat_eq i n && count_up (suc n) is m

abbrev mutual
  -- whether a type is a pointer or an array of them
  pub is_starred : CType → Bool
  is_starred (Pointer' f u t) = true
  is_starred (Array' n u t) = is_starred_row t
  is_starred _ = false

  -- the same of a row's only type
  pub is_starred_row : {m : _} → Row_of-CType m → Bool
  is_starred_row (more_of-CType t ts) = is_starred t
  is_starred_row end_of-CType = false

-- a variable's type, and a mark only where it is no pointer's
abbrev pub is_slot : List ℕ → List Bool → SlotType → Bool
is_slot sizes public s = is_type sizes public s.ty && not (s.frozen && is_starred s.ty)

-- a result: none, or a leaf
abbrev pub is_result : List ℕ → List Bool → CType → Bool
is_result sizes public t = is_nothing t || (is_leaf t && is_type sizes public t)

-- what a function's nodes stand in
abbrev pub context : List StructType → List TypedFunction → TypedFunction → Context
context structs fs f =
    record {
      structs = structs;
      sizes = struct_cells structs;
      public = public_structs structs;
      functions = fs;
      slots = f.slots;
      result = f.result;
    }

-- a function: its slots, its heading and its body; the slots after the parameters are numbered in the order of the text
abbrev pub function : List StructType → List TypedFunction → TypedFunction → Bool
function structs fs f =
    all (is_slot (struct_cells structs) (public_structs structs)) f.slots
    && is_result (struct_cells structs) (public_structs structs) f.result
    && nat_le f.params (length f.slots) && all is_leaf (param_types f) && count_up f.params (slots_in_all f.body) (length f.slots)
    && stmts (context structs fs f) (after_params [] 0 (param_types f)) f.body

-- the function that a run starts with: `oc_main`, without parameters, result and mark
abbrev pub is_entry : Option TypedFunction → Bool
is_entry None = false
is_entry (Some f) = same_name f.name (codes "oc_main") && is_nothing f.result && nat_eq f.params 0 && not f.obliv

-- the names of functions
abbrev pub function_names : List TypedFunction → List (List ℕ)
function_names [] = []
function_names (f ∷ fs) = f.name ∷ function_names fs

-- whether a tree is well typed: its structs, its functions, and the one that it starts with
abbrev pub is_typed : List StructType → List TypedFunction → ℕ → Bool
is_typed structs fs entry =
    are_structs (struct_cells structs) (public_structs structs) [] [] structs && differ (struct_names structs)
    && all (function structs fs) fs && differ (function_names fs) && is_entry (slice_get fs entry)
