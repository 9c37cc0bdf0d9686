-- Writes of public data to frozen places, in hidden scopes and in others.
use Rattle.std.proofs.Common.{refl, [], ◌∷◌, Some, None, true, false}
use Rattle.std.specs.Prelude.{codes}
use Rattle.oc_values.specs.declared.integers.IntKind.TheVariants.{Bool as KBool, I32}
use Rattle.oc_values.specs.declared.integers.BinaryOp.TheVariants.{Add, Sub, Less}
use Rattle.oc_cells.specs.declared.types.CType.TheBlock.{hidden-the_row-CType-0}
use denote.Hole.Carrier.{hidden}
use Rattle.oc_source.specs.declared.parsed.ParamArray.TheVariants as array
use Rattle.oc_source.specs.declared.parsed.ExprNode.{Named, Bump', Binary', Assign'}
use Rattle.oc_source.specs.declared.parsed.StmtNode.{Declare, Express, Block', OblivIf', For', Empty, end_of-Stmt, more_of-Stmt, None', Some'}
use Rattle.oc_source.specs.declared.parsed.ForInit.TheVariants as begin
use Rattle.oc_source.specs.declared.parsed.Program.{Program}
use Rattle.oc_typed.specs.declared.typed.TExprNode.TheBlock.{hidden-the_row-TExpr-0, hidden-the_row-TExpr-1, hidden-the_row-TPlace-2}
use Rattle.oc_typed.specs.declared.typed.TStmtNode.TheBlock.{hidden-the_row-TStmt-0, hidden-the_row-TStmt-1}
use Rattle.type_rules.specs.Judging.{next}
use Rattle.type_rules.specs.Rules.{typed_value, typed_alone}
use Rattle.type_rules.specs.ProgramRules.{typed_program}
use Rattle.scope_rules.specs.declared.rules.ScopeRule.TheVariants.{F1, F5}
use Rattle.scope_rules.specs.FirstFault.{first_fault}
use Rattle.sampled_scopes.proofs.Building.{at, expr, one, n0, n1, n9, stmt, part, plain, hidden_base, frozen, frozen_hidden, field, declared, param, function, source, Keeps, Breaks}

-- void oc_main(void) { int outer; obliv bool c; obliv if (c) { int in; outer = 1; } }
abbrev source0 : Program
source0 = source [] ((function 6 (codes "oc_main") None [] false (Some ((stmt 22 (Declare ((declared (field 26 (codes "outer") (plain 22 I32) 0 []) None) ∷ []))) ∷ (stmt 33 (Declare ((declared (field 44 (codes "c") (hidden_base 33 KBool) 0 []) None) ∷ []))) ∷ (stmt 47 (OblivIf' (expr 57 (Named (codes "c"))) tt (part 60 (Block' (tt ∷ tt ∷ []) (more_of-Stmt (at 62) (Declare ((declared (field 66 (codes "in") (plain 62 I32) 0 []) None) ∷ [])) (more_of-Stmt (at 70) (Express (expr 70 (Assign' None tt (one 70 (Named (codes "outer"))) tt (one 78 n1)))) end_of-Stmt)))) None')) ∷ []))) ∷ []) 84

broken0 : Breaks source0 F1 70
unfolding next typed_program typed_value typed_alone first_fault hidden-the_row-TExpr-0 hidden-the_row-TExpr-1 hidden-the_row-TPlace-2 hidden-the_row-TStmt-0 hidden-the_row-TStmt-1 hidden-the_row-CType-0 hidden
broken0 = refl

-- void oc_main(void) { int outer; obliv bool c; obliv if (c) { int in; in = 1; } }
abbrev source1 : Program
source1 = source [] ((function 6 (codes "oc_main") None [] false (Some ((stmt 22 (Declare ((declared (field 26 (codes "outer") (plain 22 I32) 0 []) None) ∷ []))) ∷ (stmt 33 (Declare ((declared (field 44 (codes "c") (hidden_base 33 KBool) 0 []) None) ∷ []))) ∷ (stmt 47 (OblivIf' (expr 57 (Named (codes "c"))) tt (part 60 (Block' (tt ∷ tt ∷ []) (more_of-Stmt (at 62) (Declare ((declared (field 66 (codes "in") (plain 62 I32) 0 []) None) ∷ [])) (more_of-Stmt (at 70) (Express (expr 70 (Assign' None tt (one 70 (Named (codes "in"))) tt (one 75 n1)))) end_of-Stmt)))) None')) ∷ []))) ∷ []) 81

kept1 : Keeps source1
unfolding next typed_program typed_value typed_alone first_fault hidden-the_row-TExpr-0 hidden-the_row-TExpr-1 hidden-the_row-TPlace-2 hidden-the_row-TStmt-0 hidden-the_row-TStmt-1 hidden-the_row-CType-0 hidden
kept1 = refl

-- void oc_main(void) { obliv int outer; obliv bool c; obliv if (c) outer = 1; }
abbrev source2 : Program
source2 = source [] ((function 6 (codes "oc_main") None [] false (Some ((stmt 22 (Declare ((declared (field 32 (codes "outer") (hidden_base 22 I32) 0 []) None) ∷ []))) ∷ (stmt 39 (Declare ((declared (field 50 (codes "c") (hidden_base 39 KBool) 0 []) None) ∷ []))) ∷ (stmt 53 (OblivIf' (expr 63 (Named (codes "c"))) tt (part 66 (Express (expr 66 (Assign' None tt (one 66 (Named (codes "outer"))) tt (one 74 n1))))) None')) ∷ []))) ∷ []) 78

kept2 : Keeps source2
unfolding next typed_program typed_value typed_alone first_fault hidden-the_row-TExpr-0 hidden-the_row-TExpr-1 hidden-the_row-TPlace-2 hidden-the_row-TStmt-0 hidden-the_row-TStmt-1 hidden-the_row-CType-0 hidden
kept2 = refl

-- void oc_main(void) { int outer; obliv bool c; obliv if (c) ; else { outer += 1; } }
abbrev source3 : Program
source3 = source [] ((function 6 (codes "oc_main") None [] false (Some ((stmt 22 (Declare ((declared (field 26 (codes "outer") (plain 22 I32) 0 []) None) ∷ []))) ∷ (stmt 33 (Declare ((declared (field 44 (codes "c") (hidden_base 33 KBool) 0 []) None) ∷ []))) ∷ (stmt 47 (OblivIf' (expr 57 (Named (codes "c"))) tt (part 60 Empty) (Some' tt (part 67 (Block' (tt ∷ []) (more_of-Stmt (at 69) (Express (expr 69 (Assign' (Some Add) tt (one 69 (Named (codes "outer"))) tt (one 78 n1)))) end_of-Stmt)))))) ∷ []))) ∷ []) 84

broken3 : Breaks source3 F1 69
unfolding next typed_program typed_value typed_alone first_fault hidden-the_row-TExpr-0 hidden-the_row-TExpr-1 hidden-the_row-TPlace-2 hidden-the_row-TStmt-0 hidden-the_row-TStmt-1 hidden-the_row-CType-0 hidden
broken3 = refl

-- void oc_main(void) { int outer; obliv bool c; obliv if (c) { outer++; } }
abbrev source4 : Program
source4 = source [] ((function 6 (codes "oc_main") None [] false (Some ((stmt 22 (Declare ((declared (field 26 (codes "outer") (plain 22 I32) 0 []) None) ∷ []))) ∷ (stmt 33 (Declare ((declared (field 44 (codes "c") (hidden_base 33 KBool) 0 []) None) ∷ []))) ∷ (stmt 47 (OblivIf' (expr 57 (Named (codes "c"))) tt (part 60 (Block' (tt ∷ []) (more_of-Stmt (at 62) (Express (expr 62 (Bump' true false tt (one 62 (Named (codes "outer")))))) end_of-Stmt))) None')) ∷ []))) ∷ []) 74

broken4 : Breaks source4 F1 62
unfolding next typed_program typed_value typed_alone first_fault hidden-the_row-TExpr-0 hidden-the_row-TExpr-1 hidden-the_row-TPlace-2 hidden-the_row-TStmt-0 hidden-the_row-TStmt-1 hidden-the_row-CType-0 hidden
broken4 = refl

-- void oc_main(void) { int outer; obliv bool c; obliv if (c) { int q = outer; q -= outer; } }
abbrev source5 : Program
source5 = source [] ((function 6 (codes "oc_main") None [] false (Some ((stmt 22 (Declare ((declared (field 26 (codes "outer") (plain 22 I32) 0 []) None) ∷ []))) ∷ (stmt 33 (Declare ((declared (field 44 (codes "c") (hidden_base 33 KBool) 0 []) None) ∷ []))) ∷ (stmt 47 (OblivIf' (expr 57 (Named (codes "c"))) tt (part 60 (Block' (tt ∷ tt ∷ []) (more_of-Stmt (at 62) (Declare ((declared (field 66 (codes "q") (plain 62 I32) 0 []) (Some (expr 70 (Named (codes "outer"))))) ∷ [])) (more_of-Stmt (at 77) (Express (expr 77 (Assign' (Some Sub) tt (one 77 (Named (codes "q"))) tt (one 82 (Named (codes "outer")))))) end_of-Stmt)))) None')) ∷ []))) ∷ []) 92

kept5 : Keeps source5
unfolding next typed_program typed_value typed_alone first_fault hidden-the_row-TExpr-0 hidden-the_row-TExpr-1 hidden-the_row-TPlace-2 hidden-the_row-TStmt-0 hidden-the_row-TStmt-1 hidden-the_row-CType-0 hidden
kept5 = refl

-- void oc_main(void) { obliv bool c; obliv if (c) { int n; obliv if (c) n = 1; } }
abbrev source6 : Program
source6 = source [] ((function 6 (codes "oc_main") None [] false (Some ((stmt 22 (Declare ((declared (field 33 (codes "c") (hidden_base 22 KBool) 0 []) None) ∷ []))) ∷ (stmt 36 (OblivIf' (expr 46 (Named (codes "c"))) tt (part 49 (Block' (tt ∷ tt ∷ []) (more_of-Stmt (at 51) (Declare ((declared (field 55 (codes "n") (plain 51 I32) 0 []) None) ∷ [])) (more_of-Stmt (at 58) (OblivIf' (expr 68 (Named (codes "c"))) tt (part 71 (Express (expr 71 (Assign' None tt (one 71 (Named (codes "n"))) tt (one 75 n1))))) None') end_of-Stmt)))) None')) ∷ []))) ∷ []) 81

broken6 : Breaks source6 F1 71
unfolding next typed_program typed_value typed_alone first_fault hidden-the_row-TExpr-0 hidden-the_row-TExpr-1 hidden-the_row-TPlace-2 hidden-the_row-TStmt-0 hidden-the_row-TStmt-1 hidden-the_row-CType-0 hidden
broken6 = refl

-- void oc_main(void) { obliv bool c; obliv if (c) { obliv if (c) { int n; n = 1; } } }
abbrev source7 : Program
source7 = source [] ((function 6 (codes "oc_main") None [] false (Some ((stmt 22 (Declare ((declared (field 33 (codes "c") (hidden_base 22 KBool) 0 []) None) ∷ []))) ∷ (stmt 36 (OblivIf' (expr 46 (Named (codes "c"))) tt (part 49 (Block' (tt ∷ []) (more_of-Stmt (at 51) (OblivIf' (expr 61 (Named (codes "c"))) tt (part 64 (Block' (tt ∷ tt ∷ []) (more_of-Stmt (at 66) (Declare ((declared (field 70 (codes "n") (plain 66 I32) 0 []) None) ∷ [])) (more_of-Stmt (at 73) (Express (expr 73 (Assign' None tt (one 73 (Named (codes "n"))) tt (one 77 n1)))) end_of-Stmt)))) None') end_of-Stmt))) None')) ∷ []))) ∷ []) 85

kept7 : Keeps source7
unfolding next typed_program typed_value typed_alone first_fault hidden-the_row-TExpr-0 hidden-the_row-TExpr-1 hidden-the_row-TPlace-2 hidden-the_row-TStmt-0 hidden-the_row-TStmt-1 hidden-the_row-CType-0 hidden
kept7 = refl

-- void oc_main(void) { obliv bool c; for (int i = 0; i < 9; ) obliv if (c) i = 1; }
abbrev source8 : Program
source8 = source [] ((function 6 (codes "oc_main") None [] false (Some ((stmt 22 (Declare ((declared (field 33 (codes "c") (hidden_base 22 KBool) 0 []) None) ∷ []))) ∷ (stmt 36 (For' (begin.Declare ((declared (field 45 (codes "i") (plain 41 I32) 0 []) (Some (expr 49 n0))) ∷ [])) (Some (expr 52 (Binary' Less tt (one 52 (Named (codes "i"))) tt (one 56 n9)))) None tt (part 61 (OblivIf' (expr 71 (Named (codes "c"))) tt (part 74 (Express (expr 74 (Assign' None tt (one 74 (Named (codes "i"))) tt (one 78 n1))))) None')))) ∷ []))) ∷ []) 82

broken8 : Breaks source8 F1 74
unfolding next typed_program typed_value typed_alone first_fault hidden-the_row-TExpr-0 hidden-the_row-TExpr-1 hidden-the_row-TPlace-2 hidden-the_row-TStmt-0 hidden-the_row-TStmt-1 hidden-the_row-CType-0 hidden
broken8 = refl

-- void oc_main(void) { obliv bool c; obliv if (c) for (int i = 0; i < 9; i++) ; }
abbrev source9 : Program
source9 = source [] ((function 6 (codes "oc_main") None [] false (Some ((stmt 22 (Declare ((declared (field 33 (codes "c") (hidden_base 22 KBool) 0 []) None) ∷ []))) ∷ (stmt 36 (OblivIf' (expr 46 (Named (codes "c"))) tt (part 49 (For' (begin.Declare ((declared (field 58 (codes "i") (plain 54 I32) 0 []) (Some (expr 62 n0))) ∷ [])) (Some (expr 65 (Binary' Less tt (one 65 (Named (codes "i"))) tt (one 69 n9)))) (Some (expr 72 (Bump' true false tt (one 72 (Named (codes "i")))))) tt (part 77 Empty))) None')) ∷ []))) ∷ []) 80

kept9 : Keeps source9
unfolding next typed_program typed_value typed_alone first_fault hidden-the_row-TExpr-0 hidden-the_row-TExpr-1 hidden-the_row-TPlace-2 hidden-the_row-TStmt-0 hidden-the_row-TStmt-1 hidden-the_row-CType-0 hidden
kept9 = refl

-- void f(int n) obliv { n = 1; } void oc_main(void) { }
abbrev source10 : Program
source10 = source [] ((function 6 (codes "f") None ((param 12 (codes "n") (plain 8 I32) 0 array.Plain) ∷ []) true (Some ((stmt 23 (Express (expr 23 (Assign' None tt (one 23 (Named (codes "n"))) tt (one 27 n1))))) ∷ []))) ∷ (function 37 (codes "oc_main") None [] false (Some [])) ∷ []) 54

kept10 : Keeps source10
unfolding next typed_program typed_value typed_alone first_fault hidden-the_row-TExpr-0 hidden-the_row-TExpr-1 hidden-the_row-TPlace-2 hidden-the_row-TStmt-0 hidden-the_row-TStmt-1 hidden-the_row-CType-0 hidden
kept10 = refl

-- void f(int n) obliv { obliv bool c; obliv if (c) n = 1; } void oc_main(void) { }
abbrev source11 : Program
source11 = source [] ((function 6 (codes "f") None ((param 12 (codes "n") (plain 8 I32) 0 array.Plain) ∷ []) true (Some ((stmt 23 (Declare ((declared (field 34 (codes "c") (hidden_base 23 KBool) 0 []) None) ∷ []))) ∷ (stmt 37 (OblivIf' (expr 47 (Named (codes "c"))) tt (part 50 (Express (expr 50 (Assign' None tt (one 50 (Named (codes "n"))) tt (one 54 n1))))) None')) ∷ []))) ∷ (function 64 (codes "oc_main") None [] false (Some [])) ∷ []) 81

broken11 : Breaks source11 F1 50
unfolding next typed_program typed_value typed_alone first_fault hidden-the_row-TExpr-0 hidden-the_row-TExpr-1 hidden-the_row-TPlace-2 hidden-the_row-TStmt-0 hidden-the_row-TStmt-1 hidden-the_row-CType-0 hidden
broken11 = refl

-- void oc_main(void) { frozen int a; a = 1; }
abbrev source12 : Program
source12 = source [] ((function 6 (codes "oc_main") None [] false (Some ((stmt 22 (Declare ((declared (field 33 (codes "a") (frozen 22 I32) 0 []) None) ∷ []))) ∷ (stmt 36 (Express (expr 36 (Assign' None tt (one 36 (Named (codes "a"))) tt (one 40 n1))))) ∷ []))) ∷ []) 44

broken12 : Breaks source12 F5 36
unfolding next typed_program typed_value typed_alone first_fault hidden-the_row-TExpr-0 hidden-the_row-TExpr-1 hidden-the_row-TPlace-2 hidden-the_row-TStmt-0 hidden-the_row-TStmt-1 hidden-the_row-CType-0 hidden
broken12 = refl

-- void oc_main(void) { frozen int a = 1; }
abbrev source13 : Program
source13 = source [] ((function 6 (codes "oc_main") None [] false (Some ((stmt 22 (Declare ((declared (field 33 (codes "a") (frozen 22 I32) 0 []) (Some (expr 37 n1))) ∷ []))) ∷ []))) ∷ []) 41

kept13 : Keeps source13
unfolding next typed_program typed_value typed_alone first_fault hidden-the_row-TExpr-0 hidden-the_row-TExpr-1 hidden-the_row-TPlace-2 hidden-the_row-TStmt-0 hidden-the_row-TStmt-1 hidden-the_row-CType-0 hidden
kept13 = refl

-- void oc_main(void) { frozen obliv int a; a = 1; }
abbrev source14 : Program
source14 = source [] ((function 6 (codes "oc_main") None [] false (Some ((stmt 22 (Declare ((declared (field 39 (codes "a") (frozen_hidden 22 I32) 0 []) None) ∷ []))) ∷ (stmt 42 (Express (expr 42 (Assign' None tt (one 42 (Named (codes "a"))) tt (one 46 n1))))) ∷ []))) ∷ []) 50

kept14 : Keeps source14
unfolding next typed_program typed_value typed_alone first_fault hidden-the_row-TExpr-0 hidden-the_row-TExpr-1 hidden-the_row-TPlace-2 hidden-the_row-TStmt-0 hidden-the_row-TStmt-1 hidden-the_row-CType-0 hidden
kept14 = refl

-- void f(frozen int a) { a = 1; } void oc_main(void) { }
abbrev source15 : Program
source15 = source [] ((function 6 (codes "f") None ((param 19 (codes "a") (frozen 8 I32) 0 array.Plain) ∷ []) false (Some ((stmt 24 (Express (expr 24 (Assign' None tt (one 24 (Named (codes "a"))) tt (one 28 n1))))) ∷ []))) ∷ (function 38 (codes "oc_main") None [] false (Some [])) ∷ []) 55

broken15 : Breaks source15 F5 24
unfolding next typed_program typed_value typed_alone first_fault hidden-the_row-TExpr-0 hidden-the_row-TExpr-1 hidden-the_row-TPlace-2 hidden-the_row-TStmt-0 hidden-the_row-TStmt-1 hidden-the_row-CType-0 hidden
broken15 = refl

-- void oc_main(void) { obliv bool c; obliv if (c) { frozen int a; a = 1; } }
abbrev source16 : Program
source16 = source [] ((function 6 (codes "oc_main") None [] false (Some ((stmt 22 (Declare ((declared (field 33 (codes "c") (hidden_base 22 KBool) 0 []) None) ∷ []))) ∷ (stmt 36 (OblivIf' (expr 46 (Named (codes "c"))) tt (part 49 (Block' (tt ∷ tt ∷ []) (more_of-Stmt (at 51) (Declare ((declared (field 62 (codes "a") (frozen 51 I32) 0 []) None) ∷ [])) (more_of-Stmt (at 65) (Express (expr 65 (Assign' None tt (one 65 (Named (codes "a"))) tt (one 69 n1)))) end_of-Stmt)))) None')) ∷ []))) ∷ []) 75

broken16 : Breaks source16 F1 65
unfolding next typed_program typed_value typed_alone first_fault hidden-the_row-TExpr-0 hidden-the_row-TExpr-1 hidden-the_row-TPlace-2 hidden-the_row-TStmt-0 hidden-the_row-TStmt-1 hidden-the_row-CType-0 hidden
broken16 = refl
