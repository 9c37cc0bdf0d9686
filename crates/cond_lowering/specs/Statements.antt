-- The code of a statement and of its parts, as pieces.
use Rattle.std.specs.Prelude.{ℕ, ◌+◌, List, [], ◌∷◌, ◌++◌, length, Option, Some, None, true, false}
use Rattle.oc_cells.specs.declared.types.CType.{CType}
use Rattle.oc_cells.specs.declared.types.SlotType.{SlotType}
use Rattle.oc_source.specs.declared.spot.Spot.{Spot}
use Rattle.oc_typed.specs.declared.typed.TExpr.{TExpr}
use Rattle.oc_typed.specs.declared.typed.TDeclared.{TDeclared}
use Rattle.oc_typed.specs.declared.typed.TForInit.{TForInit}
use Rattle.oc_typed.specs.declared.typed.TStmt.{TStmt}
use Rattle.oc_code.specs.declared.code.Instr.TheVariants.{Step, When, Otherwise, EndWhen, Always, EndAlways, Jump, JumpZero}
use Rattle.oc_code.specs.declared.code.Line.{Line}
use Rattle.oc_code.specs.Lower.{Coding, line, below, init_code, start_code, node_code, end_code, declared, declare_code, declares_code, express_code, header_code, header_slots, advance_code, test_or_code, back_code, leave_code, loop_code, listed_code}
use Rattle.cond_lowering.specs.declared.ways.Exit.{Exit}
use Rattle.cond_lowering.specs.declared.ways.ExitKind.TheVariants.{Part, Lift, Loop}
use Rattle.cond_lowering.specs.Pieces.{Piece, none, one, fixed, seq, choice}
use Rattle.cond_lowering.specs.Forms.{code_of}
use Rattle.cond_lowering.specs.Ways.{way, entered}

-- what the statements of a function share
abbrev pub coding : List (List CType) → List SlotType → Coding
coding lss ts = record { structs = lss; slots = ts }

-- an initialiser, where the slot has this type
abbrev pub init_of : Coding → ℕ → Spot → ℕ → CType → Option TExpr → Piece
init_of k d p s u e n = init_code k d n p s u e

-- the initialiser of a declared variable, whose slot is there
abbrev pub start_of : Coding → ℕ → TDeclared → Option SlotType → Piece
start_of k d v t n = start_code k d n v t

-- a declared variable
abbrev pub declare_of : Coding → ℕ → TDeclared → Piece
declare_of k d v n = declare_code k d n v

-- declared variables in order
abbrev pub declares_of : Coding → ℕ → List TDeclared → Piece
declares_of k d ds n = declares_code k d n ds

-- an expression whose value is dropped
abbrev pub express_of : Coding → ℕ → Spot → TExpr → Piece
express_of k d p e n = express_code k d n p e

-- what the header of a `for` begins with
abbrev pub header_of : Coding → ℕ → Spot → TForInit → Piece
header_of k d p i n = header_code k d n p i

-- the advance of a `for`, if it has one
abbrev pub advance_of : Coding → ℕ → Spot → Option TExpr → Piece
advance_of k d p a n = advance_code k d n p a

-- a test that goes to a place where it doesn't hold
abbrev pub test_of : Coding → ℕ → ℕ → TExpr → Piece
test_of k d to e = seq (code_of k.structs d e) (one e.spot (JumpZero to))

-- the test of a `for`, if it has one
abbrev pub test_or_of : Coding → ℕ → ℕ → Option TExpr → Piece
test_or_of k d to e n = test_or_code k d n to e

-- a `return`
abbrev pub back_of : Coding → ℕ → Spot → Option TExpr → Piece
back_of k d p e n = back_code k d n p e

-- a loop, of its body, its advance and its test
abbrev pub loop_of : Spot → Piece → Piece → Piece → Piece
loop_of p b a t n =
    let bl = b (n + 1 + 1 + 1 + 1) in
    let al = a (n + 1 + 1 + 1 + 1 + length bl) in
    loop_code p n bl al (t (n + 1 + 1 + 1 + 1 + length bl + length al))

-- a statement of a function that gives this type, with these ways out
abbrev pub stmt_of : Coding → CType → ℕ → List Exit → TStmt → Piece
stmt_of k t d es s n = node_code k d (way false es (end_code t)) (way true es (end_code t)) n s.spot s.node

-- a statement with its step
abbrev pub turn_of : Coding → CType → ℕ → List Exit → TStmt → Piece
turn_of k t d es s = seq (one s.spot Step) (stmt_of k t (below d) es s)

-- a part of a statement
abbrev pub part_of : Coding → CType → ℕ → List Exit → TStmt → Piece
part_of k t d es s = seq (turn_of k t d es s) (fixed (leave_code s.spot (declared s.node)))

-- the part after an `else`, if there is one
abbrev pub other_of : Coding → CType → ℕ → List Exit → Option TStmt → Piece
other_of k t d es None = none
other_of k t d es (Some s) = part_of k t d es s

-- an `if`
abbrev pub if_of : Coding → CType → ℕ → List Exit → TExpr → TStmt → Option TStmt → Piece
if_of k t d es c s o = choice c.spot (code_of k.structs d c) (part_of k t d es s) (other_of k t d es o)

-- both parts of an `obliv if`, with their ways out
abbrev pub parts_of : Coding → CType → ℕ → List Exit → TExpr → TStmt → Option TStmt → Piece
parts_of k t d es c s o = seq (part_of k t d es s) (seq (one c.spot Otherwise) (seq (other_of k t d es o) (one c.spot EndWhen)))

-- an `obliv if`
abbrev pub when_of : Coding → CType → ℕ → List Exit → Spot → TExpr → TStmt → Option TStmt → Piece
when_of k t d es p c s o =
    seq (code_of k.structs d c) (seq (one c.spot When) (parts_of k t d (es ++ record { spot = p; kind = Part } ∷ []) c s o))

-- a `~obliv` block
abbrev pub always_of : Coding → CType → ℕ → List Exit → Spot → ℕ → TStmt → Piece
always_of k t d es p n s =
    seq (one p (Always n)) (seq (part_of k t d (es ++ record { spot = p; kind = Lift } ∷ []) s) (one p EndAlways))

-- the body of a loop whose code begins at a place
abbrev pub body_of : Coding → CType → ℕ → List Exit → Spot → ℕ → TStmt → Piece
body_of k t d es p top s = part_of k t d (es ++ record { spot = p; kind = Loop (top + 1) (top + 1 + 1) } ∷ []) s

-- a `while`
abbrev pub while_of : Coding → CType → ℕ → List Exit → Spot → TExpr → TStmt → Piece
while_of k t d es p c s n = loop_of p (body_of k t d es p n s) none (test_of k d (n + 1) c) n

-- the loop of a `for`
abbrev pub round_of : Coding → CType → ℕ → List Exit → Spot → Option TExpr → Option TExpr → TStmt → Piece
round_of k t d es p c a s n = loop_of p (body_of k t d es p n s) (advance_of k d p a) (test_or_of k d (n + 1) c) n

-- a `for`
abbrev pub for_of : Coding → CType → ℕ → List Exit → Spot → TForInit → Option TExpr → Option TExpr → TStmt → Piece
for_of k t d es p i c a s = seq (header_of k d p i) (seq (round_of k t d es p c a s) (fixed (leave_code p (header_slots i))))

-- the statements of a block, in which these slots were entered so far
abbrev pub stmts_of : Coding → CType → ℕ → List Exit → Spot → List ℕ → List TStmt → Piece
stmts_of k t d es p mine [] = fixed (leave_code p mine)
stmts_of k t d es p mine (s ∷ ss) = seq (turn_of k t d (es ++ entered p mine) s) (stmts_of k t d es p (declared s.node ++ mine) ss)

-- a function's own body
abbrev pub listed_of : Coding → CType → List TStmt → Piece
listed_of k t ss n = listed_code k t n ss

-- the head of a loop, before it is known where its jumps lead
abbrev pub head_of : Spot → List Line
head_of p = line p (Jump 0) ∷ (line p (Jump 0) ∷ (line p (Jump 0) ∷ (line p Step ∷ [])))
