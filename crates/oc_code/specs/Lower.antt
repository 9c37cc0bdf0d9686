-- The lowered code of a tree.
use Rattle.std.specs.Prelude.{ℕ, zero, suc, ◌+◌, pos, nat_eq, List, [], ◌∷◌, ◌++◌, length, min, Option, Some, None, slice_get, if◌then◌else◌, Bool, true, false, not, ◌&&◌}
use Rattle.oc_values.specs.declared.integers.IntKind.{IntKind}
use Rattle.oc_values.specs.declared.integers.IntKind.TheVariants.{Bool as KBool, I32}
use Rattle.oc_values.specs.declared.integers.BinaryOp.{BinaryOp}
use Rattle.oc_values.specs.declared.integers.BinaryOp.TheVariants.{And, Or}
use Rattle.oc_values.specs.Kinds.{same_kind, is_minus}
use Rattle.oc_cells.specs.declared.types.CType.{CType, Int as CInt, Pointer' as CPointer', Struct, Nothing as CNothing}
use Rattle.oc_cells.specs.declared.types.SlotType.{SlotType}
use Rattle.oc_cells.specs.declared.types.StructType.{StructType}
use Rattle.oc_cells.specs.Types.{kind_of, is_hidden, is_integer, is_pointer, is_struct, target}
use Rattle.oc_cells.specs.Layout.{size_of, struct_leaves}
use Rattle.oc_source.specs.declared.spot.Spot.{Spot}
use Rattle.oc_typed.specs.declared.typed.TExpr.{TExpr}
use Rattle.oc_typed.specs.declared.typed.TExprNode.{TExprNode, Number, NullPointer, Read', AddressOf', Decay', Unary', Binary', PointerStep', PointerSame', Logic', Choose', Assign', Update', Convert', Call', Builtin', Row_of-TExpr, end_of-TExpr, more_of-TExpr}
use Rattle.oc_typed.specs.declared.typed.TPlaceNode.{TPlaceNode, Slot, Deref', Index', Field', Row_of-TPlace, more_of-TPlace}
use Rattle.oc_typed.specs.declared.typed.PrintPiece.{PrintPiece}
use Rattle.oc_typed.specs.declared.typed.Builtin.{Builtin}
use Rattle.oc_typed.specs.declared.typed.Builtin.TheVariants.{Private, Feed as FeedCall, Reveal as RevealCall, Give as GiveCall, PrivateCount, PublicCount as PublicCountCall, PublicWord as PublicWordCall, Print as PrintCall, Calloc, Malloc, Free as FreeCall}
use Rattle.oc_typed.specs.declared.typed.TDeclared.{TDeclared}
use Rattle.oc_typed.specs.declared.typed.TForInit.{TForInit}
use Rattle.oc_typed.specs.declared.typed.TForInit.TheVariants.{Nothing as NoInit, Declare as InitDeclare, Express as InitExpress}
use Rattle.oc_typed.specs.declared.typed.TStmt.{TStmt}
use Rattle.oc_typed.specs.declared.typed.TStmtNode.{TStmtNode, Declare, Express, Block', If', OblivIf', Always' as AlwaysStmt', While', For', Return, Break, Continue, Empty, Row_of-TStmt, end_of-TStmt, more_of-TStmt, Held-TStmtNode-If-2, None', Some'}
use Rattle.oc_typed.specs.declared.typed.TypedFunction.{TypedFunction}
use Rattle.oc_typed.specs.Static.{same_spot, spot_of, type_of, working_kind}
use Rattle.oc_walk.specs.declared.run.Source.{Source}
use Rattle.oc_walk.specs.declared.run.Source.TheVariants.{Word, Public}
use Rattle.oc_walk.specs.Builtins.{source_of}
use Rattle.oc_walk.specs.Walk.{nowhere}
use Rattle.oc_code.specs.Machine.{asked}
use Rattle.oc_code.specs.declared.code.Instr.{Instr}
use Rattle.oc_code.specs.declared.code.Instr.TheVariants.{Push, Null as PushNull, Var, FieldAt, Move, Check, Load, Store, Init, Copy, Op, One, Same, Turn, Dup, Swap, Discard, Jump, JumpZero, Step, Enter, Leave, Invoke, Back, BackValue, When, Otherwise, EndWhen, Always, EndAlways, Feed, Reveal, Give, Count, PublicCount, PublicWord, Make, Free, Print}
use Rattle.oc_code.specs.declared.code.Line.{Line}
use Rattle.oc_code.specs.declared.code.CodeFunction.{CodeFunction}

-- the line of this instruction at this spot
abbrev pub line : Spot → Instr → Line
line p i = record { spot = p; instr = i }

-- how many expressions a row has
abbrev pub count : {m : _} → Row_of-TExpr m → ℕ
count end_of-TExpr = 0
count (more_of-TExpr q u c rest) = suc (count rest)

-- how many nodes hold a part of a node that d hold; all that reach too far count alike
abbrev pub below : ℕ → ℕ
below d = min (d + 1) 1000

-- a test at pc, what follows where it holds, and where it doesn't
abbrev pub if_code : Spot → ℕ → List Line → List Line → List Line → List Line
if_code p pc t a b =
    t ++ (line p (JumpZero (pc + length t + 1 + length a + 1)) ∷ (a ++ (line p (Jump (pc + length t + 1 + length a + 1 + length b)) ∷ b)))

-- what ends a walk at a node with another number of arguments than it has
abbrev pub wrong_code : Spot → List Line
wrong_code p = line p (Make CNothing) ∷ []

-- the code of a call without arguments
abbrev pub if_none : Spot → ℕ → List Line → List Line
if_none p zero c = c
if_none p (suc n) c = wrong_code p

-- the code of a call with one argument
abbrev pub if_one : Spot → ℕ → List Line → List Line
if_one p zero c = wrong_code p
if_one p (suc zero) c = c
if_one p (suc (suc n)) c = wrong_code p

-- the code of a call with two arguments
abbrev pub if_two : Spot → ℕ → List Line → List Line
if_two p zero c = wrong_code p
if_two p (suc zero) c = wrong_code p
if_two p (suc (suc zero)) c = c
if_two p (suc (suc (suc n))) c = wrong_code p

-- the first code where there is no argument, the second where there is one
abbrev pub if_some : Spot → ℕ → List Line → List Line → List Line
if_some p zero c d = c
if_some p (suc zero) c d = d
if_some p (suc (suc n)) c d = wrong_code p

-- the value of a place; a struct's address stands for it
abbrev pub read_code : Bool → Spot → CType → List Line
read_code true q u = []
read_code false q u = line q (Load u) ∷ []

-- a step of a pointer, which stands under the amount where it is to be swapped
abbrev pub step_code : Bool → Spot → ℕ → Bool → List Line
step_code true p size back = line p Swap ∷ (line p (Move size back) ∷ [])
step_code false p size back = line p (Move size back) ∷ []

-- a kind turned, where it is another
abbrev pub turn_code : Bool → Spot → IntKind → IntKind → List Line
turn_code true p k l = []
turn_code false p k l = line p (Turn k l false) ∷ []

-- a write at the spot of the place, or the copy of a struct at that of the value
abbrev pub assign_code : Spot → Spot → CType → List Line
assign_code q r (Struct n) = line r (Copy n) ∷ []
assign_code q r u = line q (Store u) ∷ []

-- a conversion to another type: an integer is turned, and lifted where the type is hidden
abbrev pub convert_code : Bool → Spot → CType → CType → List Line
convert_code true p t u = line p (Turn (kind_of t) (kind_of u) (is_hidden u && not (is_hidden t))) ∷ []
convert_code false p t u = []

-- the value of a place that is updated, turned to the kind at which the update is computed
abbrev pub ready_code : Bool → Spot → BinaryOp → CType → CType → List Line
ready_code true p op u t = []
ready_code false p op u t = turn_code (same_kind (kind_of u) (working_kind op u t)) p (kind_of u) (working_kind op u t)

-- the step or the operation of an update, turned back to the kind of the place
abbrev pub renew_code : Bool → List (List CType) → Spot → BinaryOp → CType → CType → List Line
renew_code true lss p op u t = line p (Move (size_of lss (target u)) (is_minus op)) ∷ []
renew_code false lss p op u t =
    line p (Op op (working_kind op u t) (is_hidden u))
    ∷ turn_code (same_kind (working_kind op u t) (kind_of u)) p (working_kind op u t) (kind_of u)

-- the operator of a hidden `&&` or `||`
abbrev pub logic_op : Bool → BinaryOp
logic_op true = And
logic_op false = Or

-- `&&` of two public operands, and `||`
abbrev pub logic_code : Bool → Spot → ℕ → List Line → List Line → List Line
logic_code true p pc l r = if_code p pc l (r ++ line p (Turn KBool I32 false) ∷ []) (line p (Push I32 (pos 0)) ∷ [])
logic_code false p pc l r = if_code p pc l (line p (Push I32 (pos 1)) ∷ []) (r ++ line p (Turn KBool I32 false) ∷ [])

-- where the right operand of such a `&&` or `||` stands
abbrev pub right_at : Bool → ℕ → List Line → ℕ
right_at true pc l = pc + length l + 1
right_at false pc l = pc + length l + 1 + 1 + 1

-- a feed: of a private word, or of a public value, which needs no instruction
abbrev pub feed_code : Source → IntKind → ℕ → List Line
feed_code (Word q) k party = line q (Feed k party) ∷ []
feed_code Public k party = []

-- a print, where there are as many arguments as its format takes
abbrev pub print_code : Bool → Spot → List PrintPiece → List Line
print_code true p ps = line p (Print ps) ∷ []
print_code false p ps = wrong_code p

-- a call of the language's own on so many arguments
abbrev pub perform_code : Spot → CType → Source → Builtin → ℕ → List Line
perform_code p t s Private n = if_one p n []
perform_code p t s (FeedCall k party) n = if_one p n (feed_code s k party)
perform_code p t s (RevealCall k) n = if_two p n (line p (Reveal k) ∷ (line p (Store (CInt k false)) ∷ []))
perform_code p t s (GiveCall k party) n = if_one p n (line p (Give k party) ∷ [])
perform_code p t s (PrivateCount party) n = if_none p n (line p (Count party) ∷ [])
perform_code p t s PublicCountCall n = if_none p n (line p PublicCount ∷ [])
perform_code p t s PublicWordCall n = if_one p n (line p PublicWord ∷ [])
perform_code p t s (PrintCall ps) n = print_code (nat_eq n (asked ps)) p ps
perform_code p t s Calloc n = if_one p n (line p (Make (target t)) ∷ [])
perform_code p t s Malloc n = if_some p n (line p (Push I32 (pos 1)) ∷ (line p (Make (target t)) ∷ [])) (line p (Make (target t)) ∷ [])
perform_code p t s FreeCall n = if_one p n (line p Free ∷ [])

abbrev mutual
  -- the code of an expression from the place pc on, which leaves its value; d is how many nodes of the function hold it
  pub expr_code : List (List CType) → ℕ → ℕ → Spot → CType → TExprNode → List Line
  expr_code lss d pc p t (Number n) = line p (Push (kind_of t) n) ∷ []
  expr_code lss d pc p t NullPointer = line p PushNull ∷ []
  expr_code lss d pc p t (Read' q u c) = place_code lss (below d) pc q u c ++ read_code (is_struct u) q u
  expr_code lss d pc p t (AddressOf' q u c) = place_code lss (below d) pc q u c
  expr_code lss d pc p t (Decay' q u c) = place_code lss (below d) pc q u c
  expr_code lss d pc p t (Unary' op _ e) = one_code lss (below d) pc e ++ line p (One op (kind_of (type_of e)) (is_hidden t)) ∷ []
  expr_code lss d pc p t (Binary' op _ l _ r) =
      let a = one_code lss (below d) pc l in
      a ++ (one_code lss (below d) (pc + length a) r ++ line p (Op op (kind_of (type_of l)) (is_hidden t)) ∷ [])
  expr_code lss d pc p t (PointerStep' _ l _ r back false) =
      let a = one_code lss (below d) pc l in
      a ++ (one_code lss (below d) (pc + length a) r ++ line p (Move (size_of lss (target t)) back) ∷ [])
  expr_code lss d pc p t (PointerStep' _ l _ r back true) =
      let a = one_code lss (below d) pc r in
      a ++ (one_code lss (below d) (pc + length a) l ++ (line p Swap ∷ (line p (Move (size_of lss (target t)) back) ∷ [])))
  expr_code lss d pc p t (PointerSame' _ l _ r negated) =
      let a = one_code lss (below d) pc l in
      a ++ (one_code lss (below d) (pc + length a) r ++ line p (Same negated) ∷ [])
  expr_code lss d pc p t (Logic' all _ l _ r) =
      let a = one_code lss (below d) pc l in
      if is_hidden t
      then a ++ (one_code lss (below d) (pc + length a) r ++ line p (Op (logic_op all) KBool true) ∷ [])
      else logic_code all p pc a (one_code lss (below d) (right_at all pc a) r)
  expr_code lss d pc p t (Choose' _ c _ l _ r) =
      let t = one_code lss (below d) pc c in
      let a = one_code lss (below d) (pc + length t + 1) l in
      if_code p pc t a (one_code lss (below d) (pc + length t + 1 + length a + 1) r)
  expr_code lss d pc p t (Assign' q u c _ e) =
      let a = place_code lss (below d) pc q u c in
      a ++ (one_code lss (below d) (pc + length a) e ++ assign_code q (spot_of e) u)
  expr_code lss d pc p t (Update' op q u c _ e false) =
      let a = place_code lss (below d) pc q u c in
      a ++ (line p Dup ∷ (one_code lss (below d) (pc + length a + 1) e ++ (line p Swap ∷ (line q (Load u)
      ∷ (ready_code (is_pointer u) p op u (type_of e) ++ (line p Swap ∷ (renew_code (is_pointer u) lss p op u (type_of e)
      ++ line q (Store u) ∷ [])))))))
  expr_code lss d pc p t (Update' op q u c _ e true) =
      let a = place_code lss (below d) pc q u c in
      let b = ready_code (is_pointer u) p op u (type_of e) in
      a ++ (line p Dup ∷ (line q (Load u) ∷ (line p Swap ∷ (line p Dup ∷ (line q (Load u)
      ∷ (b ++ (one_code lss (below d) (pc + length a + 1 + 1 + 1 + 1 + 1 + length b) e
      ++ (renew_code (is_pointer u) lss p op u (type_of e) ++ (line q (Store u) ∷ (line p Discard ∷ []))))))))))
  expr_code lss d pc p t (Convert' _ e) =
      one_code lss (if same_spot p (spot_of e) then d else below d) pc e ++ convert_code (is_integer t) p (type_of e) t
  expr_code lss d pc p t (Call' f _ es) = exprs_code lss (below d) pc es ++ line p (Invoke f (count es) (d + 1)) ∷ []
  expr_code lss d pc p t (Builtin' which _ es) = exprs_code lss (below d) pc es ++ perform_code p t (source_of es) which (count es)

  -- the code of a place, which leaves its address
  pub place_code : List (List CType) → ℕ → ℕ → Spot → CType → TPlaceNode → List Line
  place_code lss d pc p t (Slot n) = line p (Var n) ∷ []
  place_code lss d pc p t (Deref' _ e) = one_code lss (below d) pc e ++ line p Check ∷ []
  place_code lss d pc p t (Index' _ l _ r) =
      let a = one_code lss (below d) pc l in
      a ++ (one_code lss (below d) (pc + length a) r ++ line p (Move (size_of lss t) false) ∷ [])
  place_code lss d pc p t (Field' _ b n) = place_one_code lss (below d) pc b ++ line p (FieldAt n) ∷ []

  -- the code of a row's only place
  pub place_one_code : List (List CType) → ℕ → ℕ → Row_of-TPlace 1 → List Line
  place_one_code lss d pc (more_of-TPlace q u c rest) = place_code lss d pc q u c

  -- the code of a row's only expression
  pub one_code : List (List CType) → ℕ → ℕ → Row_of-TExpr 1 → List Line
  one_code lss d pc (more_of-TExpr q u c rest) = expr_code lss d pc q u c

  -- the code of the expressions of a row, in order
  pub exprs_code : {m : _} → List (List CType) → ℕ → ℕ → Row_of-TExpr m → List Line
  exprs_code lss d pc end_of-TExpr = []
  exprs_code lss d pc (more_of-TExpr q u c rest) =
      let a = expr_code lss d pc q u c in
      a ++ exprs_code lss d (pc + length a) rest

-- a list of arguments
abbrev pub all_code : List (List CType) → ℕ → ℕ → List TExpr → List Line
all_code lss d pc [] = []
all_code lss d pc (e ∷ es) =
    let a = expr_code lss d pc e.spot e.ty e.node in
    a ++ all_code lss d (pc + length a) es

-- a choice between two expressions
abbrev pub choose_code : List (List CType) → ℕ → ℕ → Spot → TExpr → TExpr → TExpr → List Line
choose_code lss d pc p c l r =
    let t = expr_code lss d pc c.spot c.ty c.node in
    let a = expr_code lss d (pc + length t + 1) l.spot l.ty l.node in
    if_code p pc t a (expr_code lss d (pc + length t + 1 + length a + 1) r.spot r.ty r.node)

-- what the statements of a function share: the leaves of the structs, and the function's slots
pub record Coding : Type 0 where
  pub structs : List (List CType)
  pub slots : List SlotType

-- an expression of a statement
abbrev pub whole_code : Coding → ℕ → ℕ → TExpr → List Line
whole_code k d pc e = expr_code k.structs d pc e.spot e.ty e.node

-- the slots that a statement leaves entered, the newest first, on those before
abbrev pub named : List TDeclared → List ℕ → List ℕ
named [] xs = xs
named (d ∷ ds) xs = named ds (d.slot ∷ xs)

-- the slots that a statement leaves entered, the newest first
abbrev pub declared : TStmtNode → List ℕ
declared (Declare ds) = named ds []
declared c = []

-- those of what the header of a `for` begins with
abbrev pub header_slots : TForInit → List ℕ
header_slots (InitDeclare ds) = named ds []
header_slots i = []

-- these slots are left, in order
abbrev pub leave_code : Spot → List ℕ → List Line
leave_code p [] = []
leave_code p (n ∷ ns) = line p (Leave n) ∷ leave_code p ns

-- an initialiser, where the slot has this type
abbrev pub init_code : Coding → ℕ → ℕ → Spot → ℕ → CType → Option TExpr → List Line
init_code k d pc p n u None = []
init_code k d pc p n u (Some e) = line p (Var n) ∷ (whole_code k d (pc + 1) e ++ line e.spot (Init u) ∷ [])

-- the initialiser of a declared variable, whose slot is there
abbrev pub start_code : Coding → ℕ → ℕ → TDeclared → Option SlotType → List Line
start_code k d pc n None = []
start_code k d pc n (Some t) = init_code k d pc n.spot n.slot t.ty n.init

-- a declared variable: its slot is entered, and then its initialiser counts
abbrev pub declare_code : Coding → ℕ → ℕ → TDeclared → List Line
declare_code k d pc n = line n.spot (Enter n.slot) ∷ start_code k d (pc + 1) n (slice_get k.slots n.slot)

-- the variables of a declaration, in order
abbrev pub declares_code : Coding → ℕ → ℕ → List TDeclared → List Line
declares_code k d pc [] = []
declares_code k d pc (n ∷ ns) =
    let a = declare_code k d pc n in
    a ++ declares_code k d (pc + length a) ns

-- an expression whose value is dropped
abbrev pub express_code : Coding → ℕ → ℕ → Spot → TExpr → List Line
express_code k d pc p e = whole_code k d pc e ++ line p Discard ∷ []

-- what the header of a `for` begins with
abbrev pub header_code : Coding → ℕ → ℕ → Spot → TForInit → List Line
header_code k d pc p NoInit = []
header_code k d pc p (InitDeclare ds) = declares_code k d pc ds
header_code k d pc p (InitExpress e) = express_code k d pc p e

-- the advance of a `for`, if it has one
abbrev pub advance_code : Coding → ℕ → ℕ → Spot → Option TExpr → List Line
advance_code k d pc p None = []
advance_code k d pc p (Some e) = express_code k d pc p e

-- a test that goes to n where it doesn't hold
abbrev pub test_code : Coding → ℕ → ℕ → ℕ → TExpr → List Line
test_code k d pc n e = whole_code k d pc e ++ line e.spot (JumpZero n) ∷ []

-- the test of a `for`, if it has one
abbrev pub test_or_code : Coding → ℕ → ℕ → ℕ → Option TExpr → List Line
test_or_code k d pc n None = []
test_or_code k d pc n (Some e) = test_code k d pc n e

-- a `return`, with its value if it has one
abbrev pub back_code : Coding → ℕ → ℕ → Spot → Option TExpr → List Line
back_code k d pc p None = line p Back ∷ []
back_code k d pc p (Some e) = whole_code k d pc e ++ line p BackValue ∷ []

-- an `obliv if`: its condition and its two parts
abbrev pub when_code : Spot → List Line → List Line → List Line → List Line
when_code p t a b = t ++ (line p When ∷ (a ++ (line p Otherwise ∷ (b ++ line p EndWhen ∷ []))))

-- a loop: its exit stands at pc + 1, the way to its advance at pc + 2, the body from the step at pc + 3, then the advance a and the test t
abbrev pub loop_code : Spot → ℕ → List Line → List Line → List Line → List Line
loop_code p pc b a t =
    line p (Jump (pc + 1 + 1 + 1 + 1 + length b + length a))
    ∷ (line p (Jump (pc + 1 + 1 + 1 + 1 + length b + length a + length t + 1)) ∷ (line p (Jump (pc + 1 + 1 + 1 + 1 + length b))
    ∷ (line p Step ∷ (b ++ (a ++ (t ++ line p (Jump (pc + 1 + 1 + 1)) ∷ []))))))

abbrev mutual
  -- the code of a statement from the place pc on; x is that of a `break` there, and y that of a `continue`
  pub node_code : Coding → ℕ → List Line → List Line → ℕ → Spot → TStmtNode → List Line
  node_code k d x y pc p (Declare ds) = declares_code k d pc ds
  node_code k d x y pc p (Express e) = express_code k d pc p e
  node_code k d x y pc p (Block' _ ss) = stmts_code k d x y p [] pc ss
  node_code k d x y pc p (If' c _ s n) =
      let t = whole_code k d pc c in
      let a = part_code k d x y (pc + length t + 1) s in
      if_code c.spot pc t a (other_code k d x y (pc + length t + 1 + length a + 1) n)
  node_code k d x y pc p (OblivIf' c _ s n) =
      let t = whole_code k d pc c in
      let a = part_code k d (line p EndWhen ∷ x) (line p EndWhen ∷ y) (pc + length t + 1) s in
      when_code c.spot t a (other_code k d (line p EndWhen ∷ x) (line p EndWhen ∷ y) (pc + length t + 1 + length a + 1) n)
  node_code k d x y pc p (AlwaysStmt' n _ s) =
      line p (Always n) ∷ (part_code k d (line p EndAlways ∷ x) (line p EndAlways ∷ y) (pc + 1) s ++ line p EndAlways ∷ [])
  node_code k d x y pc p (While' c _ s) =
      let b = part_code k d (line p (Jump (pc + 1)) ∷ []) (line p (Jump (pc + 1 + 1)) ∷ []) (pc + 1 + 1 + 1 + 1) s in
      loop_code p pc b [] (test_code k d (pc + 1 + 1 + 1 + 1 + length b + 0) (pc + 1) c)
  node_code k d x y pc p (For' i c a _ s) =
      let o = header_code k d pc p i in
      let top = pc + length o in
      let b = part_code k d (line p (Jump (top + 1)) ∷ []) (line p (Jump (top + 1 + 1)) ∷ []) (top + 1 + 1 + 1 + 1) s in
      let v = advance_code k d (top + 1 + 1 + 1 + 1 + length b) p a in
      o ++ (loop_code p top b v (test_or_code k d (top + 1 + 1 + 1 + 1 + length b + length v) (top + 1) c) ++ leave_code p (header_slots i))
  node_code k d x y pc p (Return e) = back_code k d pc p e
  node_code k d x y pc p Break = x
  node_code k d x y pc p Continue = y
  node_code k d x y pc p Empty = []

  -- a part of a statement, with its step
  pub part_code : Coding → ℕ → List Line → List Line → ℕ → Row_of-TStmt 1 → List Line
  part_code k d x y pc (more_of-TStmt q c rest) = line q Step ∷ (node_code k (below d) x y (pc + 1) q c ++ leave_code q (declared c))

  -- the statements of a block, in which these slots were entered so far, and which leaves them at its end
  pub stmts_code : {m : _} → Coding → ℕ → List Line → List Line → Spot → List ℕ → ℕ → Row_of-TStmt m → List Line
  stmts_code k d x y p mine pc end_of-TStmt = leave_code p mine
  stmts_code k d x y p mine pc (more_of-TStmt q c rest) =
      let a = line q Step ∷ node_code k (below d) (leave_code p mine ++ x) (leave_code p mine ++ y) (pc + 1) q c in
      a ++ stmts_code k d x y p (declared c ++ mine) (pc + length a) rest

  -- the part after an `else`, if there is one
  pub other_code : Coding → ℕ → List Line → List Line → ℕ → Held-TStmtNode-If-2 → List Line
  other_code k d x y pc None' = []
  other_code k d x y pc (Some' _ s) = part_code k d x y pc s

-- the end of a call that gives the zero value of its result
abbrev pub end_code : CType → List Line
end_code (CInt k false) = line nowhere (Push k (pos 0)) ∷ (line nowhere BackValue ∷ [])
end_code (CInt k true) = line nowhere (Push k (pos 0)) ∷ (line nowhere (Turn k k true) ∷ (line nowhere BackValue ∷ []))
end_code (CPointer' f u t) = line nowhere PushNull ∷ (line nowhere BackValue ∷ [])
end_code u = line nowhere Back ∷ []

-- a function's own body, at pc
abbrev pub listed_code : Coding → CType → ℕ → List TStmt → List Line
listed_code k t pc [] = end_code t
listed_code k t pc (s ∷ ss) =
    let a = line s.spot Step ∷ node_code k 1 (end_code t) (end_code t) (pc + 1) s.spot s.node in
    a ++ listed_code k t (pc + length a) ss

-- the code of a function
abbrev pub function_code : List (List CType) → TypedFunction → CodeFunction
function_code lss f =
    record {
      name = f.name;
      slots = f.slots;
      params = f.params;
      obliv = f.obliv;
      code = listed_code (record { structs = lss; slots = f.slots }) f.result 0 f.body;
    }

-- the code of functions, in order
abbrev pub functions_code : List (List CType) → List TypedFunction → List CodeFunction
functions_code lss [] = []
functions_code lss (f ∷ fs) = function_code lss f ∷ functions_code lss fs

-- the code of a program's functions
abbrev pub lowered : List StructType → List TypedFunction → List CodeFunction
lowered structs fs = functions_code (struct_leaves structs) fs
