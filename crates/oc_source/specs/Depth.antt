-- Depth: how many nodes of a tree lie one under another. Stars and lengths in brackets count as nodes.
use Rattle.std.specs.Prelude.{ℕ, ◌+◌, max, List, [], ◌∷◌, map, length}
use Rattle.std.specs.Option.{option_map_or}
use Rattle.oc_source.specs.declared.parsed.TypeName.{TypeName}
use Rattle.oc_source.specs.declared.parsed.FieldDef.{FieldDef}
use Rattle.oc_source.specs.declared.parsed.Declared.{Declared}
use Rattle.oc_source.specs.declared.parsed.Expr.{Expr, fold-Expr}
use Rattle.oc_source.specs.declared.parsed.ExprNode.{ExprNode-F}
use Rattle.oc_source.specs.declared.parsed.ForInit.{ForInit}
use Rattle.oc_source.specs.declared.parsed.ForInit.TheVariants as init
use Rattle.oc_source.specs.declared.parsed.Stmt.{Stmt, fold-Stmt}
use Rattle.oc_source.specs.declared.parsed.StmtNode.{StmtNode-F}
use Rattle.oc_source.specs.declared.parsed.StructDef.{StructDef}
use Rattle.oc_source.specs.declared.parsed.Param.{Param}
use Rattle.oc_source.specs.declared.parsed.Function.{Function}
use Rattle.oc_source.specs.declared.parsed.Program.{Program}

-- the greatest of some depths, 0 where there are none
abbrev pub greatest : List ℕ → ℕ
greatest [] = 0
greatest (n ∷ ns) = max n (greatest ns)

-- of a written type: its stars
abbrev pub type_depth : TypeName → ℕ
type_depth t = t.stars

-- of a declared name: its stars and its lengths in brackets
abbrev pub field_depth : FieldDef → ℕ
field_depth f = f.stars + length f.dims

-- the depths of the parts of an expression, from those of the expressions in it
abbrev pub parts_of_expr : ExprNode-F ℕ ℕ → List ℕ
parts_of_expr (ExprNode-F.Unary op n) = n ∷ []
parts_of_expr (ExprNode-F.Bump up first n) = n ∷ []
parts_of_expr (ExprNode-F.Binary op l r) = l ∷ r ∷ []
parts_of_expr (ExprNode-F.Logic all l r) = l ∷ r ∷ []
parts_of_expr (ExprNode-F.Choose c y n) = c ∷ y ∷ n ∷ []
parts_of_expr (ExprNode-F.Assign op l r) = l ∷ r ∷ []
parts_of_expr (ExprNode-F.Index l r) = l ∷ r ∷ []
parts_of_expr (ExprNode-F.Field n name) = n ∷ []
parts_of_expr (ExprNode-F.Arrow n name) = n ∷ []
parts_of_expr (ExprNode-F.Call name ns) = ns
parts_of_expr (ExprNode-F.Cast to n) = type_depth to ∷ n ∷ []
parts_of_expr (ExprNode-F.SizeOf ty) = type_depth ty ∷ []
parts_of_expr (ExprNode-F.Number n) = []
parts_of_expr ExprNode-F.NullPointer = []
parts_of_expr (ExprNode-F.Text bytes) = []
parts_of_expr (ExprNode-F.Named name) = []

-- of an expression: one more than the greatest depth of its parts
abbrev pub expr_depth : Expr → ℕ
expr_depth = fold-Expr ℕ ℕ (λ node. greatest (parts_of_expr node) + 1) (λ v. v.node)

-- of a declared name with its initialiser
abbrev pub declared_depth : Declared → ℕ
declared_depth d = max (field_depth d.field) (option_map_or expr_depth d.init 0)

-- of what the header of a `for` begins with
abbrev pub init_depth : ForInit → ℕ
init_depth init.Nothing = 0
init_depth (init.Declare ds) = greatest (map declared_depth ds)
init_depth (init.Express v) = expr_depth v

-- the depths of the parts of a statement, from those of the statements in it
abbrev pub parts_of_stmt : StmtNode-F ℕ ℕ → List ℕ
parts_of_stmt (StmtNode-F.Declare ds) = map declared_depth ds
parts_of_stmt (StmtNode-F.Express v) = expr_depth v ∷ []
parts_of_stmt (StmtNode-F.Block ns) = ns
parts_of_stmt (StmtNode-F.If c y n) = expr_depth c ∷ y ∷ option_map_or (λ d. d) n 0 ∷ []
parts_of_stmt (StmtNode-F.OblivIf c y n) = expr_depth c ∷ y ∷ option_map_or (λ d. d) n 0 ∷ []
parts_of_stmt (StmtNode-F.Always name b) = b ∷ []
parts_of_stmt (StmtNode-F.While c b) = expr_depth c ∷ b ∷ []
parts_of_stmt (StmtNode-F.For i c a b) = init_depth i ∷ option_map_or expr_depth c 0 ∷ option_map_or expr_depth a 0 ∷ b ∷ []
parts_of_stmt (StmtNode-F.Return v) = option_map_or expr_depth v 0 ∷ []
parts_of_stmt StmtNode-F.Break = []
parts_of_stmt StmtNode-F.Continue = []
parts_of_stmt StmtNode-F.Empty = []

-- of a statement: one more than the greatest depth of its parts
abbrev pub stmt_depth : Stmt → ℕ
stmt_depth = fold-Stmt ℕ ℕ (λ node. greatest (parts_of_stmt node) + 1) (λ v. v.node)

-- of statements one after another
abbrev pub stmts_depth : List Stmt → ℕ
stmts_depth vs = greatest (map stmt_depth vs)

-- of a struct: the greatest of its fields
abbrev pub struct_depth : StructDef → ℕ
struct_depth d = greatest (map field_depth d.fields)

-- of a parameter: one more than its stars
abbrev pub param_depth : Param → ℕ
param_depth p = p.stars + 1

-- of a function: the greatest of its result, its parameters and its body
abbrev pub function_depth : Function → ℕ
function_depth f =
    max (option_map_or type_depth f.result 0) (max (greatest (map param_depth f.params)) (option_map_or stmts_depth f.body 0))

-- of a program: the greatest of its structs and its functions
abbrev pub depth : Program → ℕ
depth p = max (greatest (map struct_depth p.structs)) (greatest (map function_depth p.functions))
