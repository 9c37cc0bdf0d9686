-- How far a reading of an expression may go down, counted so that each function of the cycle goes down at each call.
use Rattle.std.specs.Prelude.{ℕ, ◌+◌, max, List, map}
use Rattle.oc_source.specs.declared.parsed.Expr.{Expr, fold-Expr}
use Rattle.oc_source.specs.declared.parsed.ExprNode.{ExprNode-F}
use Rattle.oc_source.specs.Depth.{greatest}

-- of the parts of an expression
abbrev pub parts_of_expr : ExprNode-F ℕ ℕ → ℕ
parts_of_expr (ExprNode-F.Number n) = 0
parts_of_expr ExprNode-F.NullPointer = 0
parts_of_expr (ExprNode-F.Text bytes) = 0
parts_of_expr (ExprNode-F.Named name) = 0
parts_of_expr (ExprNode-F.SizeOf ty) = 0
parts_of_expr (ExprNode-F.Unary op n) = n + 2
parts_of_expr (ExprNode-F.Bump up first n) = n + 2
parts_of_expr (ExprNode-F.Binary op l r) = max l r + 4
parts_of_expr (ExprNode-F.Logic all l r) = max l r + 2
parts_of_expr (ExprNode-F.Choose c y n) = max c (max y n) + 2
parts_of_expr (ExprNode-F.Assign op l r) = max l r + 2
parts_of_expr (ExprNode-F.Index l r) = max l r + 2
parts_of_expr (ExprNode-F.Field n name) = n + 2
parts_of_expr (ExprNode-F.Arrow n name) = n + 2
parts_of_expr (ExprNode-F.Cast to n) = n + 2
parts_of_expr (ExprNode-F.Call name ns) = greatest ns + 8

-- of an expression
abbrev pub weight : Expr → ℕ
weight = fold-Expr ℕ ℕ (λ node. parts_of_expr node + 1) (λ v. v.node)

-- of expressions in a row
abbrev pub list_weight : List Expr → ℕ
list_weight es = greatest (map weight es)
