-- How deep an expression is, counted so that each function goes down at each call.
use Rattle.std.proofs.Common.{◌≡◌, ◌≤◌, ◌<◌, ℕ, zero, suc, ◌+◌, List, [], ◌∷◌, arith, subst, sym, length}
use Rattle.std.specs.Prelude.{max, map, get_or, Option, Some, None}
use Rattle.oc_typed.specs.declared.typed.TExpr.{TExpr, fold-TExpr}
use Rattle.oc_typed.specs.declared.typed.TExprNode.{TExprNode-F}
use Rattle.oc_typed.specs.declared.typed.TPlace.{TPlace, fold-TPlace}
use Rattle.oc_typed.specs.declared.typed.TPlaceNode.{TPlaceNode-F}
use Rattle.oc_typed.specs.declared.typed.TStmt.{TStmt, fold-TStmt}
use Rattle.oc_typed.specs.declared.typed.TStmtNode.{TStmtNode-F}

abbrev pub greatest : List ℕ → ℕ
greatest [] = 0
greatest (n ∷ ns) = max n (greatest ns)

abbrev pub parts_of_expr : TExprNode-F ℕ ℕ ℕ ℕ → ℕ
parts_of_expr (TExprNode-F.Number n) = 0
parts_of_expr TExprNode-F.NullPointer = 0
parts_of_expr (TExprNode-F.Read q) = q + 8
parts_of_expr (TExprNode-F.AddressOf q) = q + 8
parts_of_expr (TExprNode-F.Decay q) = q + 8
parts_of_expr (TExprNode-F.Unary op n) = n + 8
parts_of_expr (TExprNode-F.Binary op l r) = max l r + 8
parts_of_expr (TExprNode-F.PointerStep l r back first) = max l r + 8
parts_of_expr (TExprNode-F.PointerSame l r negated) = max l r + 8
parts_of_expr (TExprNode-F.Logic all l r) = max l r + 8
parts_of_expr (TExprNode-F.Choose c l r) = max c (max l r) + 8
parts_of_expr (TExprNode-F.Assign q r) = max q r + 8
parts_of_expr (TExprNode-F.Update op q r old) = max q r + 8
parts_of_expr (TExprNode-F.Convert n) = n + 8
parts_of_expr (TExprNode-F.Call f ns) = greatest ns + 8
parts_of_expr (TExprNode-F.Builtin which ns) = greatest ns + 8

abbrev pub parts_of_place : TPlaceNode-F ℕ ℕ ℕ ℕ → ℕ
parts_of_place (TPlaceNode-F.Slot n) = 0
parts_of_place (TPlaceNode-F.Deref n) = n + 8
parts_of_place (TPlaceNode-F.Index l r) = max l r + 8
parts_of_place (TPlaceNode-F.Field q n) = q + 8

abbrev pub expr_weight : TExpr → ℕ
expr_weight = fold-TExpr ℕ ℕ ℕ ℕ (λ n. parts_of_expr n + 1) (λ n. parts_of_place n + 1) (λ e. e.node) (λ q. q.node)

abbrev pub place_weight : TPlace → ℕ
place_weight = fold-TPlace ℕ ℕ ℕ ℕ (λ n. parts_of_expr n + 1) (λ n. parts_of_place n + 1) (λ e. e.node) (λ q. q.node)

abbrev pub exprs_weight : List TExpr → ℕ
exprs_weight es = greatest (map expr_weight es)

-- what a list holds weighs at most as much as the list
pub item_weight : (xs : List TExpr) (i : ℕ) (x : TExpr) → i < length xs → x ≡ get_or xs i x → expr_weight x ≤ exprs_weight xs
item_weight [] i x p h = omega arith
item_weight (y ∷ ys) zero x p h = subst (λ z. expr_weight z ≤ max (expr_weight y) (exprs_weight ys)) (sym h) (omega arith)
item_weight (y ∷ ys) (suc i) x p h = let r = item_weight ys i x (omega arith) h in omega (arith, r)

abbrev pub given : Option ℕ → ℕ
given None = 0
given (Some n) = n

abbrev pub parts_of_stmt : TStmtNode-F ℕ ℕ → ℕ
parts_of_stmt (TStmtNode-F.Declare ds) = 0
parts_of_stmt (TStmtNode-F.Express e) = 0
parts_of_stmt (TStmtNode-F.Block ns) = greatest ns + 8
parts_of_stmt (TStmtNode-F.If c n m) = max n (given m) + 8
parts_of_stmt (TStmtNode-F.OblivIf c n m) = max n (given m) + 8
parts_of_stmt (TStmtNode-F.Always slot n) = n + 8
parts_of_stmt (TStmtNode-F.While c n) = n + 8
parts_of_stmt (TStmtNode-F.For i c a n) = n + 8
parts_of_stmt (TStmtNode-F.Return e) = 0
parts_of_stmt TStmtNode-F.Break = 0
parts_of_stmt TStmtNode-F.Continue = 0
parts_of_stmt TStmtNode-F.Empty = 0

abbrev pub stmt_weight : TStmt → ℕ
stmt_weight = fold-TStmt ℕ ℕ (λ n. parts_of_stmt n + 1) (λ s. s.node)

abbrev pub stmts_weight : List TStmt → ℕ
stmts_weight ss = greatest (map stmt_weight ss)

abbrev pub maybe_weight : Option TStmt → ℕ
maybe_weight None = 0
maybe_weight (Some s) = stmt_weight s

pub stmt_item : (xs : List TStmt) (i : ℕ) (x : TStmt) → i < length xs → x ≡ get_or xs i x → stmt_weight x ≤ stmts_weight xs
stmt_item [] i x p h = omega arith
stmt_item (y ∷ ys) zero x p h = subst (λ z. stmt_weight z ≤ max (stmt_weight y) (stmts_weight ys)) (sym h) (omega arith)
stmt_item (y ∷ ys) (suc i) x p h = let r = stmt_item ys i x (omega arith) h in omega (arith, r)
