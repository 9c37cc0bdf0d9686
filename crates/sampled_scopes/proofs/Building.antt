-- Parts of sources of one line, each with the column at which it begins, and what the rules of scopes say of them.
use Rattle.std.proofs.Common.{ℕ, ◌≡◌, List, Option, Some, None, Bool, true, false, refl, Ok, Err}
use Rattle.oc_values.specs.declared.integers.IntKind.{IntKind}
use Rattle.oc_values.specs.declared.integers.IntKind.TheVariants.{I32}
use Rattle.oc_source.specs.declared.spot.Spot.{Spot}
use Rattle.oc_source.specs.declared.parsed.BaseKind.TheVariants as base
use Rattle.oc_source.specs.declared.parsed.BaseName.{BaseName}
use Rattle.oc_source.specs.declared.parsed.TypeName.{TypeName}
use Rattle.oc_source.specs.declared.parsed.FieldDef.{FieldDef}
use Rattle.oc_source.specs.declared.parsed.StructDef.{StructDef}
use Rattle.oc_source.specs.declared.parsed.ParamArray.{ParamArray}
use Rattle.oc_source.specs.declared.parsed.Param.{Param}
use Rattle.oc_source.specs.declared.parsed.Expr.{Expr, roll-Expr}
use Rattle.oc_source.specs.declared.parsed.ExprNode.{ExprNode, Number, Row_of-Expr, end_of-Expr, more_of-Expr}
use Rattle.oc_source.specs.declared.parsed.Declared.{Declared}
use Rattle.oc_source.specs.declared.parsed.Stmt.{Stmt, roll-Stmt}
use Rattle.oc_source.specs.declared.parsed.StmtNode.{StmtNode, Row_of-Stmt, end_of-Stmt, more_of-Stmt}
use Rattle.oc_source.specs.declared.parsed.Function.{Function}
use Rattle.oc_source.specs.declared.parsed.Program.{Program}
use Rattle.oc_typing.specs.Tree.{TypedTree}
use Rattle.type_rules.specs.Judging.{Judged}
use Rattle.type_rules.specs.ProgramRules.{typed_program}
use Rattle.scope_rules.specs.declared.rules.ScopeRule.{ScopeRule}
use Rattle.scope_rules.specs.declared.rules.ScopeFault.{ScopeFault}
use Rattle.scope_rules.specs.FirstFault.{first_fault}

-- a column of the first line
abbrev pub at : ℕ → Spot
at n = record { line = 1; column = n }

-- an expression, and one that is a part of another
abbrev pub expr : ℕ → ExprNode → Expr
expr n e = roll-Expr (record { spot = at n; node = e })

abbrev pub one : ℕ → ExprNode → Row_of-Expr 1
one n e = more_of-Expr (at n) e end_of-Expr

-- the numbers 0, 1, 2, 3 and 9
abbrev pub n0 : ExprNode
n0 = Number (record { kind = I32; value = 0; of_kind = refl })

abbrev pub n1 : ExprNode
n1 = Number (record { kind = I32; value = 1; of_kind = refl })

abbrev pub n2 : ExprNode
n2 = Number (record { kind = I32; value = 2; of_kind = refl })

abbrev pub n3 : ExprNode
n3 = Number (record { kind = I32; value = 3; of_kind = refl })

abbrev pub n9 : ExprNode
n9 = Number (record { kind = I32; value = 9; of_kind = refl })

-- a statement, and one that is a part of another
abbrev pub stmt : ℕ → StmtNode → Stmt
stmt n s = roll-Stmt (record { spot = at n; node = s })

abbrev pub part : ℕ → StmtNode → Row_of-Stmt 1
part n s = more_of-Stmt (at n) s end_of-Stmt

-- what a written type begins with: public and hidden integers, frozen or not, and structs
abbrev pub plain : ℕ → IntKind → BaseName
plain n k = record { spot = at n; frozen = false; obliv = false; kind = base.Int k }

abbrev pub hidden_base : ℕ → IntKind → BaseName
hidden_base n k = record { spot = at n; frozen = false; obliv = true; kind = base.Int k }

abbrev pub frozen : ℕ → IntKind → BaseName
frozen n k = record { spot = at n; frozen = true; obliv = false; kind = base.Int k }

abbrev pub frozen_hidden : ℕ → IntKind → BaseName
frozen_hidden n k = record { spot = at n; frozen = true; obliv = true; kind = base.Int k }

abbrev pub struct_base : ℕ → Bool → List ℕ → BaseName
struct_base n frozen x = record { spot = at n; frozen = frozen; obliv = false; kind = base.Struct x }

-- a declared name, with its stars and lengths
abbrev pub field : ℕ → List ℕ → BaseName → ℕ → List ℕ → FieldDef
field n x b stars dims = record { spot = at n; name = x; base = b; stars = stars; dims = dims }

-- the same with an initialiser, if there is one
abbrev pub declared : FieldDef → Option Expr → Declared
declared f e = record { field = f; init = e }

-- a struct, a parameter, a function and a source
abbrev pub struct : ℕ → List ℕ → List FieldDef → StructDef
struct n x fs = record { spot = at n; name = x; fields = fs }

abbrev pub param : ℕ → List ℕ → BaseName → ℕ → ParamArray → Param
param n x b stars a = record { spot = at n; name = x; base = b; stars = stars; array = a }

abbrev pub function : ℕ → List ℕ → Option TypeName → List Param → Bool → Option (List Stmt) → Function
function n x r ps o body = record { spot = at n; name = x; result = r; params = ps; obliv = o; body = body }

abbrev pub source : List StructDef → List Function → ℕ → Program
source ds fs n = record { structs = ds; functions = fs; end = at n }

-- a source with a typed tree whose first fault in scopes is this one, if it has one
abbrev pub Shows : Judged TypedTree → Option ScopeFault → Type 0
Shows (Ok t) fault = first_fault t ≡ fault
Shows (Err f) fault = ⊥

-- a source with a typed tree that keeps the rules of scopes
abbrev pub Keeps : Program → Type 0
Keeps p = Shows (typed_program p) None

-- a source whose first fault is this rule at this column
abbrev pub Breaks : Program → ScopeRule → ℕ → Type 0
Breaks p rule n = Shows (typed_program p) (Some (record { rule = rule; spot = at n }))
