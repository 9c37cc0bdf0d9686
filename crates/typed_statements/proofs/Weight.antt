-- How deep statements are, counted so that each function goes down at each call.
use Rattle.std.proofs.Common.{◌≡◌, ◌≤◌, ◌<◌, ℕ, zero, suc, ◌+◌, List, [], ◌∷◌, arith, subst, sym, length}
use Rattle.std.specs.Prelude.{max, map, get_or, Option, Some, None}
use Rattle.oc_source.specs.declared.parsed.Stmt.{Stmt, fold-Stmt}
use Rattle.oc_source.specs.declared.parsed.StmtNode.{StmtNode-F}

abbrev pub greatest : List ℕ → ℕ
greatest [] = 0
greatest (n ∷ ns) = max n (greatest ns)

abbrev pub given : Option ℕ → ℕ
given None = 0
given (Some n) = n

abbrev pub parts_of : StmtNode-F ℕ ℕ → ℕ
parts_of (StmtNode-F.Declare ds) = 0
parts_of (StmtNode-F.Express e) = 0
parts_of (StmtNode-F.Block ns) = greatest ns + 5
parts_of (StmtNode-F.If c n m) = max n (given m) + 5
parts_of (StmtNode-F.OblivIf c n m) = max n (given m) + 5
parts_of (StmtNode-F.Always x n) = n + 5
parts_of (StmtNode-F.While c n) = n + 5
parts_of (StmtNode-F.For i c a n) = n + 5
parts_of (StmtNode-F.Return e) = 0
parts_of StmtNode-F.Break = 0
parts_of StmtNode-F.Continue = 0
parts_of StmtNode-F.Empty = 0

abbrev pub stmt_weight : Stmt → ℕ
stmt_weight = fold-Stmt ℕ ℕ (λ n. parts_of n + 1) (λ s. s.node)

abbrev pub stmts_weight : List Stmt → ℕ
stmts_weight ss = greatest (map stmt_weight ss)

abbrev pub part_weight : Option Stmt → ℕ
part_weight None = 0
part_weight (Some s) = stmt_weight s

-- what a list holds weighs at most as much as the list
pub item_weight : (xs : List Stmt) (i : ℕ) (x : Stmt) → i < length xs → x ≡ get_or xs i x → stmt_weight x ≤ stmts_weight xs
item_weight [] i x p h = omega arith
item_weight (y ∷ ys) zero x p h = subst (λ z. stmt_weight z ≤ max (stmt_weight y) (stmts_weight ys)) (sym h) (omega arith)
item_weight (y ∷ ys) (suc i) x p h = let r = item_weight ys i x (omega arith) h in omega (arith, r)
