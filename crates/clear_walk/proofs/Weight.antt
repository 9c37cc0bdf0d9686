-- How deep a tree is, counted so that each function of the walk goes down at each call, and how far a run may still go down.
use Rattle.std.specs.Prelude.{ℕ, ◌+◌, ◌*◌, max, map, List, [], ◌∷◌, Option, Some, None}
use Rattle.oc_typed.specs.declared.typed.TExpr.{TExpr, fold-TExpr}
use Rattle.oc_typed.specs.declared.typed.TExprNode.{TExprNode-F}
use Rattle.oc_typed.specs.declared.typed.TPlace.{TPlace, fold-TPlace}
use Rattle.oc_typed.specs.declared.typed.TPlaceNode.{TPlaceNode-F}
use Rattle.oc_typed.specs.declared.typed.TDeclared.{TDeclared}
use Rattle.oc_typed.specs.declared.typed.TForInit.{TForInit}
use Rattle.oc_typed.specs.declared.typed.TForInit.TheVariants as init
use Rattle.oc_typed.specs.declared.typed.TStmt.{TStmt, fold-TStmt}
use Rattle.oc_typed.specs.declared.typed.TStmtNode.{TStmtNode-F}
use Rattle.oc_typed.specs.declared.typed.TypedFunction.{TypedFunction}
use Rattle.clear_walk.specs.declared.around.Frame.{Frame}
use Rattle.clear_walk.specs.declared.around.At.{At}

abbrev pub greatest : List ℕ → ℕ
greatest [] = 0
greatest (n ∷ ns) = max n (greatest ns)

abbrev pub given : Option ℕ → ℕ
given None = 0
given (Some n) = n

abbrev pub parts_of_expr : TExprNode-F ℕ ℕ ℕ ℕ → ℕ
parts_of_expr (TExprNode-F.Number n) = 0
parts_of_expr TExprNode-F.NullPointer = 0
parts_of_expr (TExprNode-F.Read q) = q + 1
parts_of_expr (TExprNode-F.AddressOf q) = q + 1
parts_of_expr (TExprNode-F.Decay q) = q + 1
parts_of_expr (TExprNode-F.Unary op n) = n + 1
parts_of_expr (TExprNode-F.Binary op l r) = max l r + 2
parts_of_expr (TExprNode-F.PointerStep l r back first) = max l r + 2
parts_of_expr (TExprNode-F.PointerSame l r negated) = max l r + 2
parts_of_expr (TExprNode-F.Logic all l r) = max l r + 2
parts_of_expr (TExprNode-F.Choose c l r) = max c (max l r) + 1
parts_of_expr (TExprNode-F.Assign q r) = max q r + 2
parts_of_expr (TExprNode-F.Update op q r old) = max q r + 3
parts_of_expr (TExprNode-F.Convert n) = n + 1
parts_of_expr (TExprNode-F.Call f ns) = greatest ns + 2
parts_of_expr (TExprNode-F.Builtin which ns) = greatest ns + 2

abbrev pub parts_of_place : TPlaceNode-F ℕ ℕ ℕ ℕ → ℕ
parts_of_place (TPlaceNode-F.Slot n) = 0
parts_of_place (TPlaceNode-F.Deref n) = n + 1
parts_of_place (TPlaceNode-F.Index l r) = max l r + 2
parts_of_place (TPlaceNode-F.Field q n) = q + 1

abbrev pub expr_weight : TExpr → ℕ
expr_weight = fold-TExpr ℕ ℕ ℕ ℕ (λ n. parts_of_expr n + 1) (λ n. parts_of_place n + 1) (λ e. e.node) (λ q. q.node)

abbrev pub place_weight : TPlace → ℕ
place_weight = fold-TPlace ℕ ℕ ℕ ℕ (λ n. parts_of_expr n + 1) (λ n. parts_of_place n + 1) (λ e. e.node) (λ q. q.node)

abbrev pub exprs_weight : List TExpr → ℕ
exprs_weight es = greatest (map expr_weight es)

abbrev pub maybe_weight : Option TExpr → ℕ
maybe_weight None = 0
maybe_weight (Some e) = expr_weight e

abbrev pub declared_weight : TDeclared → ℕ
declared_weight d = maybe_weight d.init + 2

abbrev pub declares_weight : List TDeclared → ℕ
declares_weight ds = greatest (map declared_weight ds)

abbrev pub header_weight : TForInit → ℕ
header_weight init.Nothing = 0
header_weight (init.Declare ds) = declares_weight ds + 2
header_weight (init.Express e) = expr_weight e + 2

-- of a loop by its condition, its advance and its body
abbrev pub loop_weight : ℕ → ℕ → ℕ → ℕ
loop_weight c a n = max c (max a n)

abbrev pub parts_of_stmt : TStmtNode-F ℕ ℕ → ℕ
parts_of_stmt (TStmtNode-F.Declare ds) = declares_weight ds + 2
parts_of_stmt (TStmtNode-F.Express e) = expr_weight e + 1
parts_of_stmt (TStmtNode-F.Block ns) = greatest ns + 3
parts_of_stmt (TStmtNode-F.If c n m) = max (expr_weight c) (max n (given m)) + 4
parts_of_stmt (TStmtNode-F.OblivIf c n m) = max (expr_weight c) (max n (given m)) + 5
parts_of_stmt (TStmtNode-F.Always slot n) = n + 4
parts_of_stmt (TStmtNode-F.While c n) = loop_weight (expr_weight c) 0 n + 4
parts_of_stmt (TStmtNode-F.For i c a n) = max (header_weight i) (loop_weight (maybe_weight c) (maybe_weight a) n) + 6
parts_of_stmt (TStmtNode-F.Return e) = maybe_weight e + 1
parts_of_stmt TStmtNode-F.Break = 0
parts_of_stmt TStmtNode-F.Continue = 0
parts_of_stmt TStmtNode-F.Empty = 0

abbrev pub stmt_weight : TStmt → ℕ
stmt_weight = fold-TStmt ℕ ℕ (λ n. parts_of_stmt n + 1) (λ s. s.node)

abbrev pub stmts_weight : List TStmt → ℕ
stmts_weight ss = greatest (map stmt_weight ss)

abbrev pub part_weight : Option TStmt → ℕ
part_weight None = 0
part_weight (Some s) = stmt_weight s

-- of a function, which is more than that of its statements
abbrev pub body_weight : TypedFunction → ℕ
body_weight f = stmts_weight f.body + 3

abbrev pub heaviest : List TypedFunction → ℕ
heaviest fs = greatest (map body_weight fs)

-- how far a run may go down from here: through so many calls, and then so far
abbrev pub far : Frame → At → ℕ → ℕ
far f at n = at.room * (heaviest f.functions.now + 1) + n
