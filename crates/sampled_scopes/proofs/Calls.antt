-- Calls in hidden scopes.
use Rattle.std.proofs.Common.{refl, [], ◌∷◌, Some, None, true, false}
use Rattle.std.specs.Prelude.{codes}
use Rattle.oc_values.specs.declared.integers.IntKind.TheVariants.{Bool as KBool, I32}
use Rattle.oc_cells.specs.declared.types.CType.TheBlock.{hidden-the_row-CType-0}
use denote.Hole.Carrier.{hidden}
use Rattle.oc_source.specs.declared.parsed.ParamArray.TheVariants as array
use Rattle.oc_source.specs.declared.parsed.ExprNode.{Text, Named, Assign', Call', SizeOf, end_of-Expr, more_of-Expr}
use Rattle.oc_source.specs.declared.parsed.StmtNode.{Declare, Express, Block', OblivIf', Return, end_of-Stmt, more_of-Stmt, None'}
use Rattle.oc_source.specs.declared.parsed.Program.{Program}
use Rattle.oc_typed.specs.declared.typed.TExprNode.TheBlock.{hidden-the_row-TExpr-0, hidden-the_row-TExpr-1, hidden-the_row-TPlace-2}
use Rattle.oc_typed.specs.declared.typed.TStmtNode.TheBlock.{hidden-the_row-TStmt-0, hidden-the_row-TStmt-1}
use Rattle.type_rules.specs.Judging.{next}
use Rattle.type_rules.specs.Rules.{typed_value, typed_alone}
use Rattle.type_rules.specs.ProgramRules.{typed_program}
use Rattle.scope_rules.specs.declared.rules.ScopeRule.TheVariants.{F1, F3}
use Rattle.scope_rules.specs.FirstFault.{first_fault}
use Rattle.sampled_scopes.proofs.Building.{at, expr, one, n0, n1, stmt, part, plain, hidden_base, field, declared, param, function, source, Keeps, Breaks}

-- void oc_main(void) { obliv bool c; obliv if (c) printf("%d\n", 1); }
abbrev source0 : Program
source0 = source [] ((function 6 (codes "oc_main") None [] false (Some ((stmt 22 (Declare ((declared (field 33 (codes "c") (hidden_base 22 KBool) 0 []) None) ∷ []))) ∷ (stmt 36 (OblivIf' (expr 46 (Named (codes "c"))) tt (part 49 (Express (expr 49 (Call' (codes "printf") (tt ∷ tt ∷ []) (more_of-Expr (at 56) (Text (37 ∷ 100 ∷ 10 ∷ [])) (more_of-Expr (at 64) n1 end_of-Expr)))))) None')) ∷ []))) ∷ []) 69

broken0 : Breaks source0 F3 49
unfolding next typed_program typed_value typed_alone first_fault hidden-the_row-TExpr-0 hidden-the_row-TExpr-1 hidden-the_row-TPlace-2 hidden-the_row-TStmt-0 hidden-the_row-TStmt-1 hidden-the_row-CType-0 hidden
broken0 = refl

-- int f(void) { return 1; } void oc_main(void) { obliv bool c; obliv if (c) { int n = f(); } }
abbrev source1 : Program
source1 = source [] ((function 5 (codes "f") (Some (record { base = (plain 1 I32); stars = 0 })) [] false (Some ((stmt 15 (Return (Some (expr 22 n1)))) ∷ []))) ∷ (function 32 (codes "oc_main") None [] false (Some ((stmt 48 (Declare ((declared (field 59 (codes "c") (hidden_base 48 KBool) 0 []) None) ∷ []))) ∷ (stmt 62 (OblivIf' (expr 72 (Named (codes "c"))) tt (part 75 (Block' (tt ∷ []) (more_of-Stmt (at 77) (Declare ((declared (field 81 (codes "n") (plain 77 I32) 0 []) (Some (expr 85 (Call' (codes "f") ([]) end_of-Expr)))) ∷ [])) end_of-Stmt))) None')) ∷ []))) ∷ []) 93

broken1 : Breaks source1 F3 85
unfolding next typed_program typed_value typed_alone first_fault hidden-the_row-TExpr-0 hidden-the_row-TExpr-1 hidden-the_row-TPlace-2 hidden-the_row-TStmt-0 hidden-the_row-TStmt-1 hidden-the_row-CType-0 hidden
broken1 = refl

-- int f(void) obliv { return 1; } void oc_main(void) { obliv bool c; obliv if (c) { int n = f(); } }
abbrev source2 : Program
source2 = source [] ((function 5 (codes "f") (Some (record { base = (plain 1 I32); stars = 0 })) [] true (Some ((stmt 21 (Return (Some (expr 28 n1)))) ∷ []))) ∷ (function 38 (codes "oc_main") None [] false (Some ((stmt 54 (Declare ((declared (field 65 (codes "c") (hidden_base 54 KBool) 0 []) None) ∷ []))) ∷ (stmt 68 (OblivIf' (expr 78 (Named (codes "c"))) tt (part 81 (Block' (tt ∷ []) (more_of-Stmt (at 83) (Declare ((declared (field 87 (codes "n") (plain 83 I32) 0 []) (Some (expr 91 (Call' (codes "f") ([]) end_of-Expr)))) ∷ [])) end_of-Stmt))) None')) ∷ []))) ∷ []) 99

kept2 : Keeps source2
unfolding next typed_program typed_value typed_alone first_fault hidden-the_row-TExpr-0 hidden-the_row-TExpr-1 hidden-the_row-TPlace-2 hidden-the_row-TStmt-0 hidden-the_row-TStmt-1 hidden-the_row-CType-0 hidden
kept2 = refl

-- void oc_main(void) { obliv bool c; obliv if (c) { obliv int n = feedOblivInt(ocPrivate(0), 1); } }
abbrev source3 : Program
source3 = source [] ((function 6 (codes "oc_main") None [] false (Some ((stmt 22 (Declare ((declared (field 33 (codes "c") (hidden_base 22 KBool) 0 []) None) ∷ []))) ∷ (stmt 36 (OblivIf' (expr 46 (Named (codes "c"))) tt (part 49 (Block' (tt ∷ []) (more_of-Stmt (at 51) (Declare ((declared (field 61 (codes "n") (hidden_base 51 I32) 0 []) (Some (expr 65 (Call' (codes "feedOblivInt") (tt ∷ tt ∷ []) (more_of-Expr (at 78) (Call' (codes "ocPrivate") (tt ∷ []) (more_of-Expr (at 88) n0 end_of-Expr)) (more_of-Expr (at 92) n1 end_of-Expr)))))) ∷ [])) end_of-Stmt))) None')) ∷ []))) ∷ []) 99

broken3 : Breaks source3 F3 78
unfolding next typed_program typed_value typed_alone first_fault hidden-the_row-TExpr-0 hidden-the_row-TExpr-1 hidden-the_row-TPlace-2 hidden-the_row-TStmt-0 hidden-the_row-TStmt-1 hidden-the_row-CType-0 hidden
broken3 = refl

-- void oc_main(void) { obliv bool c; obliv if (c) { int *p = malloc(sizeof(int)); } }
abbrev source4 : Program
source4 = source [] ((function 6 (codes "oc_main") None [] false (Some ((stmt 22 (Declare ((declared (field 33 (codes "c") (hidden_base 22 KBool) 0 []) None) ∷ []))) ∷ (stmt 36 (OblivIf' (expr 46 (Named (codes "c"))) tt (part 49 (Block' (tt ∷ []) (more_of-Stmt (at 51) (Declare ((declared (field 56 (codes "p") (plain 51 I32) 1 []) (Some (expr 60 (Call' (codes "malloc") (tt ∷ []) (more_of-Expr (at 67) (SizeOf (record { base = (plain 74 I32); stars = 0 })) end_of-Expr))))) ∷ [])) end_of-Stmt))) None')) ∷ []))) ∷ []) 84

broken4 : Breaks source4 F3 60
unfolding next typed_program typed_value typed_alone first_fault hidden-the_row-TExpr-0 hidden-the_row-TExpr-1 hidden-the_row-TPlace-2 hidden-the_row-TStmt-0 hidden-the_row-TStmt-1 hidden-the_row-CType-0 hidden
broken4 = refl

-- void f(void) obliv { ocPublicCount(); } void oc_main(void) { }
abbrev source5 : Program
source5 = source [] ((function 6 (codes "f") None [] true (Some ((stmt 22 (Express (expr 22 (Call' (codes "ocPublicCount") ([]) end_of-Expr)))) ∷ []))) ∷ (function 46 (codes "oc_main") None [] false (Some [])) ∷ []) 63

broken5 : Breaks source5 F3 22
unfolding next typed_program typed_value typed_alone first_fault hidden-the_row-TExpr-0 hidden-the_row-TExpr-1 hidden-the_row-TPlace-2 hidden-the_row-TStmt-0 hidden-the_row-TStmt-1 hidden-the_row-CType-0 hidden
broken5 = refl

-- void f(void) { ocPublicCount(); } void oc_main(void) { }
abbrev source6 : Program
source6 = source [] ((function 6 (codes "f") None [] false (Some ((stmt 16 (Express (expr 16 (Call' (codes "ocPublicCount") ([]) end_of-Expr)))) ∷ []))) ∷ (function 40 (codes "oc_main") None [] false (Some [])) ∷ []) 57

kept6 : Keeps source6
unfolding next typed_program typed_value typed_alone first_fault hidden-the_row-TExpr-0 hidden-the_row-TExpr-1 hidden-the_row-TPlace-2 hidden-the_row-TStmt-0 hidden-the_row-TStmt-1 hidden-the_row-CType-0 hidden
kept6 = refl

-- void f(int n) { } void oc_main(void) { int n; obliv bool c; obliv if (c) f(n = 1); }
abbrev source7 : Program
source7 = source [] ((function 6 (codes "f") None ((param 12 (codes "n") (plain 8 I32) 0 array.Plain) ∷ []) false (Some [])) ∷ (function 24 (codes "oc_main") None [] false (Some ((stmt 40 (Declare ((declared (field 44 (codes "n") (plain 40 I32) 0 []) None) ∷ []))) ∷ (stmt 47 (Declare ((declared (field 58 (codes "c") (hidden_base 47 KBool) 0 []) None) ∷ []))) ∷ (stmt 61 (OblivIf' (expr 71 (Named (codes "c"))) tt (part 74 (Express (expr 74 (Call' (codes "f") (tt ∷ []) (more_of-Expr (at 76) (Assign' None tt (one 76 (Named (codes "n"))) tt (one 80 n1)) end_of-Expr))))) None')) ∷ []))) ∷ []) 85

broken7 : Breaks source7 F1 76
unfolding next typed_program typed_value typed_alone first_fault hidden-the_row-TExpr-0 hidden-the_row-TExpr-1 hidden-the_row-TPlace-2 hidden-the_row-TStmt-0 hidden-the_row-TStmt-1 hidden-the_row-CType-0 hidden
broken7 = refl

-- void f(int n) { } void oc_main(void) { int n; obliv bool c; obliv if (c) { f(n); n = 1; } }
abbrev source8 : Program
source8 = source [] ((function 6 (codes "f") None ((param 12 (codes "n") (plain 8 I32) 0 array.Plain) ∷ []) false (Some [])) ∷ (function 24 (codes "oc_main") None [] false (Some ((stmt 40 (Declare ((declared (field 44 (codes "n") (plain 40 I32) 0 []) None) ∷ []))) ∷ (stmt 47 (Declare ((declared (field 58 (codes "c") (hidden_base 47 KBool) 0 []) None) ∷ []))) ∷ (stmt 61 (OblivIf' (expr 71 (Named (codes "c"))) tt (part 74 (Block' (tt ∷ tt ∷ []) (more_of-Stmt (at 76) (Express (expr 76 (Call' (codes "f") (tt ∷ []) (more_of-Expr (at 78) (Named (codes "n")) end_of-Expr)))) (more_of-Stmt (at 82) (Express (expr 82 (Assign' None tt (one 82 (Named (codes "n"))) tt (one 86 n1)))) end_of-Stmt)))) None')) ∷ []))) ∷ []) 92

broken8 : Breaks source8 F3 76
unfolding next typed_program typed_value typed_alone first_fault hidden-the_row-TExpr-0 hidden-the_row-TExpr-1 hidden-the_row-TPlace-2 hidden-the_row-TStmt-0 hidden-the_row-TStmt-1 hidden-the_row-CType-0 hidden
broken8 = refl

-- void oc_main(void) { obliv bool c; obliv if (c) { int *p; free(p); } }
abbrev source9 : Program
source9 = source [] ((function 6 (codes "oc_main") None [] false (Some ((stmt 22 (Declare ((declared (field 33 (codes "c") (hidden_base 22 KBool) 0 []) None) ∷ []))) ∷ (stmt 36 (OblivIf' (expr 46 (Named (codes "c"))) tt (part 49 (Block' (tt ∷ tt ∷ []) (more_of-Stmt (at 51) (Declare ((declared (field 56 (codes "p") (plain 51 I32) 1 []) None) ∷ [])) (more_of-Stmt (at 59) (Express (expr 59 (Call' (codes "free") (tt ∷ []) (more_of-Expr (at 64) (Named (codes "p")) end_of-Expr)))) end_of-Stmt)))) None')) ∷ []))) ∷ []) 71

broken9 : Breaks source9 F3 59
unfolding next typed_program typed_value typed_alone first_fault hidden-the_row-TExpr-0 hidden-the_row-TExpr-1 hidden-the_row-TPlace-2 hidden-the_row-TStmt-0 hidden-the_row-TStmt-1 hidden-the_row-CType-0 hidden
broken9 = refl

-- void g(void); void f(void) obliv { g(); } void g(void) { } void oc_main(void) { int n; obliv bool c; obliv if (c) n = 1; }
abbrev source10 : Program
source10 = source [] ((function 6 (codes "g") None [] false None) ∷ (function 20 (codes "f") None [] true (Some ((stmt 36 (Express (expr 36 (Call' (codes "g") ([]) end_of-Expr)))) ∷ []))) ∷ (function 48 (codes "g") None [] false (Some [])) ∷ (function 65 (codes "oc_main") None [] false (Some ((stmt 81 (Declare ((declared (field 85 (codes "n") (plain 81 I32) 0 []) None) ∷ []))) ∷ (stmt 88 (Declare ((declared (field 99 (codes "c") (hidden_base 88 KBool) 0 []) None) ∷ []))) ∷ (stmt 102 (OblivIf' (expr 112 (Named (codes "c"))) tt (part 115 (Express (expr 115 (Assign' None tt (one 115 (Named (codes "n"))) tt (one 119 n1))))) None')) ∷ []))) ∷ []) 123

broken10 : Breaks source10 F3 36
unfolding next typed_program typed_value typed_alone first_fault hidden-the_row-TExpr-0 hidden-the_row-TExpr-1 hidden-the_row-TPlace-2 hidden-the_row-TStmt-0 hidden-the_row-TStmt-1 hidden-the_row-CType-0 hidden
broken10 = refl
