-- Blocks that are walked whatever the conditions around are.
use Rattle.std.proofs.Common.{refl, [], ◌∷◌, Some, None, true, false}
use Rattle.std.specs.Prelude.{codes}
use Rattle.oc_values.specs.declared.integers.IntKind.TheVariants.{Bool as KBool, I32}
use Rattle.oc_cells.specs.declared.types.CType.TheBlock.{hidden-the_row-CType-0}
use denote.Hole.Carrier.{hidden}
use Rattle.oc_source.specs.declared.parsed.ParamArray.TheVariants as array
use Rattle.oc_source.specs.declared.parsed.UnaryOp.TheVariants.{Address}
use Rattle.oc_source.specs.declared.parsed.ExprNode.{Text, Named, Unary', Assign', Call', end_of-Expr, more_of-Expr}
use Rattle.oc_source.specs.declared.parsed.StmtNode.{Declare, Express, Block', OblivIf', Always', end_of-Stmt, more_of-Stmt, None'}
use Rattle.oc_source.specs.declared.parsed.Program.{Program}
use Rattle.oc_typed.specs.declared.typed.TExprNode.TheBlock.{hidden-the_row-TExpr-0, hidden-the_row-TExpr-1, hidden-the_row-TPlace-2}
use Rattle.oc_typed.specs.declared.typed.TStmtNode.TheBlock.{hidden-the_row-TStmt-0, hidden-the_row-TStmt-1}
use Rattle.type_rules.specs.Judging.{next}
use Rattle.type_rules.specs.Rules.{typed_value, typed_alone}
use Rattle.type_rules.specs.ProgramRules.{typed_program}
use Rattle.scope_rules.specs.declared.rules.ScopeRule.TheVariants.{F1, F3, F5}
use Rattle.scope_rules.specs.FirstFault.{first_fault}
use Rattle.sampled_scopes.proofs.Building.{at, expr, one, n0, n1, n2, stmt, part, plain, hidden_base, frozen, field, declared, param, function, source, Keeps, Breaks}

-- void oc_main(void) { int n; obliv bool c; obliv if (c) { ~obliv(m) { n = 1; printf("%d\n", n); int *p = &n; } } }
abbrev source0 : Program
source0 = source [] ((function 6 (codes "oc_main") None [] false (Some ((stmt 22 (Declare ((declared (field 26 (codes "n") (plain 22 I32) 0 []) None) ∷ []))) ∷ (stmt 29 (Declare ((declared (field 40 (codes "c") (hidden_base 29 KBool) 0 []) None) ∷ []))) ∷ (stmt 43 (OblivIf' (expr 53 (Named (codes "c"))) tt (part 56 (Block' (tt ∷ []) (more_of-Stmt (at 58) (Always' (codes "m") tt (part 68 (Block' (tt ∷ tt ∷ tt ∷ []) (more_of-Stmt (at 70) (Express (expr 70 (Assign' None tt (one 70 (Named (codes "n"))) tt (one 74 n1)))) (more_of-Stmt (at 77) (Express (expr 77 (Call' (codes "printf") (tt ∷ tt ∷ []) (more_of-Expr (at 84) (Text (37 ∷ 100 ∷ 10 ∷ [])) (more_of-Expr (at 92) (Named (codes "n")) end_of-Expr))))) (more_of-Stmt (at 96) (Declare ((declared (field 101 (codes "p") (plain 96 I32) 1 []) (Some (expr 105 (Unary' Address tt (one 106 (Named (codes "n"))))))) ∷ [])) end_of-Stmt)))))) end_of-Stmt))) None')) ∷ []))) ∷ []) 114

kept0 : Keeps source0
unfolding next typed_program typed_value typed_alone first_fault hidden-the_row-TExpr-0 hidden-the_row-TExpr-1 hidden-the_row-TPlace-2 hidden-the_row-TStmt-0 hidden-the_row-TStmt-1 hidden-the_row-CType-0 hidden
kept0 = refl

-- void oc_main(void) { int n; obliv bool c; obliv if (c) { ~obliv(m) { n = 1; } n = 2; } }
abbrev source1 : Program
source1 = source [] ((function 6 (codes "oc_main") None [] false (Some ((stmt 22 (Declare ((declared (field 26 (codes "n") (plain 22 I32) 0 []) None) ∷ []))) ∷ (stmt 29 (Declare ((declared (field 40 (codes "c") (hidden_base 29 KBool) 0 []) None) ∷ []))) ∷ (stmt 43 (OblivIf' (expr 53 (Named (codes "c"))) tt (part 56 (Block' (tt ∷ tt ∷ []) (more_of-Stmt (at 58) (Always' (codes "m") tt (part 68 (Block' (tt ∷ []) (more_of-Stmt (at 70) (Express (expr 70 (Assign' None tt (one 70 (Named (codes "n"))) tt (one 74 n1)))) end_of-Stmt)))) (more_of-Stmt (at 79) (Express (expr 79 (Assign' None tt (one 79 (Named (codes "n"))) tt (one 83 n2)))) end_of-Stmt)))) None')) ∷ []))) ∷ []) 89

broken1 : Breaks source1 F1 79
unfolding next typed_program typed_value typed_alone first_fault hidden-the_row-TExpr-0 hidden-the_row-TExpr-1 hidden-the_row-TPlace-2 hidden-the_row-TStmt-0 hidden-the_row-TStmt-1 hidden-the_row-CType-0 hidden
broken1 = refl

-- void oc_main(void) { int n; obliv bool c; ~obliv(m) { obliv if (c) n = 1; } }
abbrev source2 : Program
source2 = source [] ((function 6 (codes "oc_main") None [] false (Some ((stmt 22 (Declare ((declared (field 26 (codes "n") (plain 22 I32) 0 []) None) ∷ []))) ∷ (stmt 29 (Declare ((declared (field 40 (codes "c") (hidden_base 29 KBool) 0 []) None) ∷ []))) ∷ (stmt 43 (Always' (codes "m") tt (part 53 (Block' (tt ∷ []) (more_of-Stmt (at 55) (OblivIf' (expr 65 (Named (codes "c"))) tt (part 68 (Express (expr 68 (Assign' None tt (one 68 (Named (codes "n"))) tt (one 72 n1))))) None') end_of-Stmt))))) ∷ []))) ∷ []) 78

broken2 : Breaks source2 F1 68
unfolding next typed_program typed_value typed_alone first_fault hidden-the_row-TExpr-0 hidden-the_row-TExpr-1 hidden-the_row-TPlace-2 hidden-the_row-TStmt-0 hidden-the_row-TStmt-1 hidden-the_row-CType-0 hidden
broken2 = refl

-- void oc_main(void) { frozen int n; obliv bool c; obliv if (c) { ~obliv(m) { n = 1; } } }
abbrev source3 : Program
source3 = source [] ((function 6 (codes "oc_main") None [] false (Some ((stmt 22 (Declare ((declared (field 33 (codes "n") (frozen 22 I32) 0 []) None) ∷ []))) ∷ (stmt 36 (Declare ((declared (field 47 (codes "c") (hidden_base 36 KBool) 0 []) None) ∷ []))) ∷ (stmt 50 (OblivIf' (expr 60 (Named (codes "c"))) tt (part 63 (Block' (tt ∷ []) (more_of-Stmt (at 65) (Always' (codes "m") tt (part 75 (Block' (tt ∷ []) (more_of-Stmt (at 77) (Express (expr 77 (Assign' None tt (one 77 (Named (codes "n"))) tt (one 81 n1)))) end_of-Stmt)))) end_of-Stmt))) None')) ∷ []))) ∷ []) 89

broken3 : Breaks source3 F5 77
unfolding next typed_program typed_value typed_alone first_fault hidden-the_row-TExpr-0 hidden-the_row-TExpr-1 hidden-the_row-TPlace-2 hidden-the_row-TStmt-0 hidden-the_row-TStmt-1 hidden-the_row-CType-0 hidden
broken3 = refl

-- void oc_main(void) { ~obliv(m) { m = true; obliv if (m) m = false; } }
abbrev source4 : Program
source4 = source [] ((function 6 (codes "oc_main") None [] false (Some ((stmt 22 (Always' (codes "m") tt (part 32 (Block' (tt ∷ tt ∷ []) (more_of-Stmt (at 34) (Express (expr 34 (Assign' None tt (one 34 (Named (codes "m"))) tt (one 38 n1)))) (more_of-Stmt (at 44) (OblivIf' (expr 54 (Named (codes "m"))) tt (part 57 (Express (expr 57 (Assign' None tt (one 57 (Named (codes "m"))) tt (one 61 n0))))) None') end_of-Stmt)))))) ∷ []))) ∷ []) 71

kept4 : Keeps source4
unfolding next typed_program typed_value typed_alone first_fault hidden-the_row-TExpr-0 hidden-the_row-TExpr-1 hidden-the_row-TPlace-2 hidden-the_row-TStmt-0 hidden-the_row-TStmt-1 hidden-the_row-CType-0 hidden
kept4 = refl

-- void f(int n) obliv { ~obliv(m) { printf("%d\n", n); } } void oc_main(void) { }
abbrev source5 : Program
source5 = source [] ((function 6 (codes "f") None ((param 12 (codes "n") (plain 8 I32) 0 array.Plain) ∷ []) true (Some ((stmt 23 (Always' (codes "m") tt (part 33 (Block' (tt ∷ []) (more_of-Stmt (at 35) (Express (expr 35 (Call' (codes "printf") (tt ∷ tt ∷ []) (more_of-Expr (at 42) (Text (37 ∷ 100 ∷ 10 ∷ [])) (more_of-Expr (at 50) (Named (codes "n")) end_of-Expr))))) end_of-Stmt))))) ∷ []))) ∷ (function 63 (codes "oc_main") None [] false (Some [])) ∷ []) 80

kept5 : Keeps source5
unfolding next typed_program typed_value typed_alone first_fault hidden-the_row-TExpr-0 hidden-the_row-TExpr-1 hidden-the_row-TPlace-2 hidden-the_row-TStmt-0 hidden-the_row-TStmt-1 hidden-the_row-CType-0 hidden
kept5 = refl

-- void f(int n) obliv { ~obliv(m) { obliv if (m) printf("%d\n", n); } } void oc_main(void) { }
abbrev source6 : Program
source6 = source [] ((function 6 (codes "f") None ((param 12 (codes "n") (plain 8 I32) 0 array.Plain) ∷ []) true (Some ((stmt 23 (Always' (codes "m") tt (part 33 (Block' (tt ∷ []) (more_of-Stmt (at 35) (OblivIf' (expr 45 (Named (codes "m"))) tt (part 48 (Express (expr 48 (Call' (codes "printf") (tt ∷ tt ∷ []) (more_of-Expr (at 55) (Text (37 ∷ 100 ∷ 10 ∷ [])) (more_of-Expr (at 63) (Named (codes "n")) end_of-Expr)))))) None') end_of-Stmt))))) ∷ []))) ∷ (function 76 (codes "oc_main") None [] false (Some [])) ∷ []) 93

broken6 : Breaks source6 F3 48
unfolding next typed_program typed_value typed_alone first_fault hidden-the_row-TExpr-0 hidden-the_row-TExpr-1 hidden-the_row-TPlace-2 hidden-the_row-TStmt-0 hidden-the_row-TStmt-1 hidden-the_row-CType-0 hidden
broken6 = refl
