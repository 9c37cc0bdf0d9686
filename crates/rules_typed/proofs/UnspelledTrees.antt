-- Trees that no source spells, which the rules judge as they judge all others, computed.
use Rattle.std.proofs.Common.{◌≡◌, refl, List, [], ◌∷◌, Option, Some, None, true, false, Ok, Err}
use Rattle.std.specs.Prelude.{codes}
use Rattle.oc_values.specs.declared.integers.IntKind.TheVariants.{I32}
use Rattle.oc_values.specs.declared.integers.BinaryOp.TheVariants.{LessEq}
use Rattle.oc_cells.specs.declared.types.CType.TheBlock.{hidden-the_row-CType-0}
use denote.Hole.Carrier.{hidden}
use Rattle.oc_source.specs.declared.spot.Spot.{Spot}
use Rattle.oc_source.specs.declared.parsed.ExprNode.{ExprNode, Number, Named, Assign', end_of-Expr, more_of-Expr}
use Rattle.oc_source.specs.declared.parsed.Stmt.{Stmt}
use Rattle.oc_source.specs.declared.parsed.StmtNode.{StmtNode, Declare, Express, If', Always', Empty, end_of-Stmt, more_of-Stmt, None'}
use Rattle.oc_source.specs.declared.parsed.StructDef.{StructDef}
use Rattle.oc_source.specs.declared.parsed.Program.{Program}
use Rattle.oc_source.specs.Parsed.{expr, stmt, int_base, field, declared}
use Rattle.oc_typed.specs.declared.typed.TExprNode.TheBlock.{hidden-the_row-TExpr-0, hidden-the_row-TExpr-1, hidden-the_row-TPlace-2}
use Rattle.oc_typed.specs.declared.typed.TStmtNode.TheBlock.{hidden-the_row-TStmt-0, hidden-the_row-TStmt-1}
use Rattle.oc_typing.specs.Tree.{TypedTree, is_well_typed}
use Rattle.type_rules.specs.declared.judging.TypeRule.TheVariants.{T1, T3, T11}
use Rattle.type_rules.specs.declared.judging.Refusal.{Refusal}
use Rattle.type_rules.specs.Judging.{Judged, next}
use Rattle.type_rules.specs.Rules.{typed_value, typed_alone}
use Rattle.type_rules.specs.ProgramRules.{typed_program}

-- the rules give a typed tree, and the test takes it
abbrev Fits : Judged TypedTree → Type 0
Fits (Ok t) = is_well_typed t ≡ true
Fits (Err f) = ⊥

-- the refusal, where there is one
abbrev refused : Judged TypedTree → Option Refusal
refused (Ok t) = None
refused (Err f) = Some f

abbrev here : Spot
here = record { line = 1; column = 1 }

-- another spot
abbrev there : Spot
there = record { line = 2; column = 5 }

-- a program with these structs and this body of `oc_main`
abbrev program : List StructDef → List Stmt → Program
program ds ss =
    record {
      structs = ds;
      functions = record { spot = here; name = codes "oc_main"; result = None; params = []; obliv = false; body = Some ss } ∷ [];
      end = here;
    }

-- `int x;`
abbrev declare_x : StmtNode
declare_x = Declare (declared (field here (codes "x") (int_base here false false I32) 0 []) None ∷ [])

-- the number 1
abbrev one : ExprNode
one = Number (record { kind = I32; value = 1; of_kind = refl })

-- a struct without fields has no cell
no_fields : refused (typed_program (program (record { spot = there; name = codes "S"; fields = [] } ∷ []) [])) ≡ Some (record { rule = T11; spot = there })
unfolding next typed_program typed_value typed_alone hidden-the_row-CType-0 hidden
no_fields = refl

-- a declaration as a part of an `if`, whose name is used after it: it ended with the part
declared_part : refused (typed_program (program [] (stmt here (If' (expr here one) tt (more_of-Stmt here declare_x end_of-Stmt) None') ∷ stmt here (Express (expr there (Named (codes "x")))) ∷ []))) ≡ Some (record { rule = T1; spot = there })
unfolding next typed_program typed_value typed_alone hidden-the_row-TExpr-0 hidden-the_row-TExpr-1 hidden-the_row-TPlace-2 hidden-the_row-TStmt-0 hidden-the_row-TStmt-1 hidden-the_row-CType-0 hidden
declared_part = refl

-- a `~obliv` over a statement that is no block
no_block : Fits (typed_program (program [] (stmt here (Always' (codes "m") tt (more_of-Stmt here Empty end_of-Stmt)) ∷ [])))
unfolding next typed_program typed_value typed_alone hidden-the_row-TExpr-0 hidden-the_row-TExpr-1 hidden-the_row-TPlace-2 hidden-the_row-TStmt-0 hidden-the_row-TStmt-1 hidden-the_row-CType-0 hidden
no_block = refl

-- a compound assignment by a comparison
compares : refused (typed_program (program [] (stmt here declare_x ∷ stmt here (Express (expr there (Assign' (Some LessEq) tt (more_of-Expr here (Named (codes "x")) end_of-Expr) tt (more_of-Expr here one end_of-Expr)))) ∷ []))) ≡ Some (record { rule = T3; spot = there })
unfolding next typed_program typed_value typed_alone hidden-the_row-TExpr-0 hidden-the_row-TExpr-1 hidden-the_row-TPlace-2 hidden-the_row-TStmt-0 hidden-the_row-TStmt-1 hidden-the_row-CType-0 hidden
compares = refl
