-- Frozen pointers that come to places of other types, and structs that hold pointers.
use Rattle.std.proofs.Common.{refl, [], ◌∷◌, Some, None, true, false}
use Rattle.std.specs.Prelude.{codes}
use Rattle.oc_values.specs.declared.integers.IntKind.TheVariants.{Bool as KBool, I32}
use Rattle.oc_values.specs.declared.integers.BinaryOp.TheVariants.{Add, Sub}
use Rattle.oc_cells.specs.declared.types.CType.TheBlock.{hidden-the_row-CType-0}
use denote.Hole.Carrier.{hidden}
use Rattle.oc_source.specs.declared.parsed.ParamArray.TheVariants as array
use Rattle.oc_source.specs.declared.parsed.UnaryOp.TheVariants.{Address, Deref}
use Rattle.oc_source.specs.declared.parsed.ExprNode.{NullPointer, Named, Unary', Binary', Assign', Index', Call', end_of-Expr, more_of-Expr}
use Rattle.oc_source.specs.declared.parsed.StmtNode.{Declare, Express, Block', OblivIf', Return, end_of-Stmt, more_of-Stmt, None'}
use Rattle.oc_source.specs.declared.parsed.Program.{Program}
use Rattle.oc_typed.specs.declared.typed.TExprNode.TheBlock.{hidden-the_row-TExpr-0, hidden-the_row-TExpr-1, hidden-the_row-TPlace-2}
use Rattle.oc_typed.specs.declared.typed.TStmtNode.TheBlock.{hidden-the_row-TStmt-0, hidden-the_row-TStmt-1}
use Rattle.type_rules.specs.Judging.{next}
use Rattle.type_rules.specs.Rules.{typed_value, typed_alone}
use Rattle.type_rules.specs.ProgramRules.{typed_program}
use Rattle.scope_rules.specs.declared.rules.ScopeRule.TheVariants.{F2}
use Rattle.scope_rules.specs.FirstFault.{first_fault}
use Rattle.sampled_scopes.proofs.Building.{at, expr, one, n0, n1, n3, stmt, part, plain, hidden_base, frozen, frozen_hidden, struct_base, field, declared, struct, param, function, source, Keeps, Breaks}

-- void oc_main(void) { int outer; obliv bool c; obliv if (c) { int *q = &outer; } }
abbrev source0 : Program
source0 = source [] ((function 6 (codes "oc_main") None [] false (Some ((stmt 22 (Declare ((declared (field 26 (codes "outer") (plain 22 I32) 0 []) None) ∷ []))) ∷ (stmt 33 (Declare ((declared (field 44 (codes "c") (hidden_base 33 KBool) 0 []) None) ∷ []))) ∷ (stmt 47 (OblivIf' (expr 57 (Named (codes "c"))) tt (part 60 (Block' (tt ∷ []) (more_of-Stmt (at 62) (Declare ((declared (field 67 (codes "q") (plain 62 I32) 1 []) (Some (expr 71 (Unary' Address tt (one 72 (Named (codes "outer"))))))) ∷ [])) end_of-Stmt))) None')) ∷ []))) ∷ []) 82

broken0 : Breaks source0 F2 71
unfolding next typed_program typed_value typed_alone first_fault hidden-the_row-TExpr-0 hidden-the_row-TExpr-1 hidden-the_row-TPlace-2 hidden-the_row-TStmt-0 hidden-the_row-TStmt-1 hidden-the_row-CType-0 hidden
broken0 = refl

-- void oc_main(void) { int outer; obliv bool c; obliv if (c) { frozen int *q = &outer; } }
abbrev source1 : Program
source1 = source [] ((function 6 (codes "oc_main") None [] false (Some ((stmt 22 (Declare ((declared (field 26 (codes "outer") (plain 22 I32) 0 []) None) ∷ []))) ∷ (stmt 33 (Declare ((declared (field 44 (codes "c") (hidden_base 33 KBool) 0 []) None) ∷ []))) ∷ (stmt 47 (OblivIf' (expr 57 (Named (codes "c"))) tt (part 60 (Block' (tt ∷ []) (more_of-Stmt (at 62) (Declare ((declared (field 74 (codes "q") (frozen 62 I32) 1 []) (Some (expr 78 (Unary' Address tt (one 79 (Named (codes "outer"))))))) ∷ [])) end_of-Stmt))) None')) ∷ []))) ∷ []) 89

kept1 : Keeps source1
unfolding next typed_program typed_value typed_alone first_fault hidden-the_row-TExpr-0 hidden-the_row-TExpr-1 hidden-the_row-TPlace-2 hidden-the_row-TStmt-0 hidden-the_row-TStmt-1 hidden-the_row-CType-0 hidden
kept1 = refl

-- void oc_main(void) { int outer; int *q = &outer; }
abbrev source2 : Program
source2 = source [] ((function 6 (codes "oc_main") None [] false (Some ((stmt 22 (Declare ((declared (field 26 (codes "outer") (plain 22 I32) 0 []) None) ∷ []))) ∷ (stmt 33 (Declare ((declared (field 38 (codes "q") (plain 33 I32) 1 []) (Some (expr 42 (Unary' Address tt (one 43 (Named (codes "outer"))))))) ∷ []))) ∷ []))) ∷ []) 51

kept2 : Keeps source2
unfolding next typed_program typed_value typed_alone first_fault hidden-the_row-TExpr-0 hidden-the_row-TExpr-1 hidden-the_row-TPlace-2 hidden-the_row-TStmt-0 hidden-the_row-TStmt-1 hidden-the_row-CType-0 hidden
kept2 = refl

-- void oc_main(void) { obliv int outer; obliv bool c; obliv if (c) { obliv int *q = &outer; *q = 1; } }
abbrev source3 : Program
source3 = source [] ((function 6 (codes "oc_main") None [] false (Some ((stmt 22 (Declare ((declared (field 32 (codes "outer") (hidden_base 22 I32) 0 []) None) ∷ []))) ∷ (stmt 39 (Declare ((declared (field 50 (codes "c") (hidden_base 39 KBool) 0 []) None) ∷ []))) ∷ (stmt 53 (OblivIf' (expr 63 (Named (codes "c"))) tt (part 66 (Block' (tt ∷ tt ∷ []) (more_of-Stmt (at 68) (Declare ((declared (field 79 (codes "q") (hidden_base 68 I32) 1 []) (Some (expr 83 (Unary' Address tt (one 84 (Named (codes "outer"))))))) ∷ [])) (more_of-Stmt (at 91) (Express (expr 91 (Assign' None tt (one 91 (Unary' Deref tt (one 92 (Named (codes "q"))))) tt (one 96 n1)))) end_of-Stmt)))) None')) ∷ []))) ∷ []) 102

kept3 : Keeps source3
unfolding next typed_program typed_value typed_alone first_fault hidden-the_row-TExpr-0 hidden-the_row-TExpr-1 hidden-the_row-TPlace-2 hidden-the_row-TStmt-0 hidden-the_row-TStmt-1 hidden-the_row-CType-0 hidden
kept3 = refl

-- void oc_main(void) { int a[2]; obliv bool c; obliv if (c) { int *q = a; } }
abbrev source4 : Program
source4 = source [] ((function 6 (codes "oc_main") None [] false (Some ((stmt 22 (Declare ((declared (field 26 (codes "a") (plain 22 I32) 0 (2 ∷ [])) None) ∷ []))) ∷ (stmt 32 (Declare ((declared (field 43 (codes "c") (hidden_base 32 KBool) 0 []) None) ∷ []))) ∷ (stmt 46 (OblivIf' (expr 56 (Named (codes "c"))) tt (part 59 (Block' (tt ∷ []) (more_of-Stmt (at 61) (Declare ((declared (field 66 (codes "q") (plain 61 I32) 1 []) (Some (expr 70 (Named (codes "a"))))) ∷ [])) end_of-Stmt))) None')) ∷ []))) ∷ []) 76

broken4 : Breaks source4 F2 70
unfolding next typed_program typed_value typed_alone first_fault hidden-the_row-TExpr-0 hidden-the_row-TExpr-1 hidden-the_row-TPlace-2 hidden-the_row-TStmt-0 hidden-the_row-TStmt-1 hidden-the_row-CType-0 hidden
broken4 = refl

-- void oc_main(void) { int a[2]; obliv bool c; obliv if (c) { int *q; q = 1 + a; } }
abbrev source5 : Program
source5 = source [] ((function 6 (codes "oc_main") None [] false (Some ((stmt 22 (Declare ((declared (field 26 (codes "a") (plain 22 I32) 0 (2 ∷ [])) None) ∷ []))) ∷ (stmt 32 (Declare ((declared (field 43 (codes "c") (hidden_base 32 KBool) 0 []) None) ∷ []))) ∷ (stmt 46 (OblivIf' (expr 56 (Named (codes "c"))) tt (part 59 (Block' (tt ∷ tt ∷ []) (more_of-Stmt (at 61) (Declare ((declared (field 66 (codes "q") (plain 61 I32) 1 []) None) ∷ [])) (more_of-Stmt (at 69) (Express (expr 69 (Assign' None tt (one 69 (Named (codes "q"))) tt (one 73 (Binary' Add tt (one 73 n1) tt (one 77 (Named (codes "a")))))))) end_of-Stmt)))) None')) ∷ []))) ∷ []) 83

broken5 : Breaks source5 F2 73
unfolding next typed_program typed_value typed_alone first_fault hidden-the_row-TExpr-0 hidden-the_row-TExpr-1 hidden-the_row-TPlace-2 hidden-the_row-TStmt-0 hidden-the_row-TStmt-1 hidden-the_row-CType-0 hidden
broken5 = refl

-- void oc_main(void) { int a[2]; obliv bool c; obliv if (c) { int *q; q = &a[1] - 1; } }
abbrev source6 : Program
source6 = source [] ((function 6 (codes "oc_main") None [] false (Some ((stmt 22 (Declare ((declared (field 26 (codes "a") (plain 22 I32) 0 (2 ∷ [])) None) ∷ []))) ∷ (stmt 32 (Declare ((declared (field 43 (codes "c") (hidden_base 32 KBool) 0 []) None) ∷ []))) ∷ (stmt 46 (OblivIf' (expr 56 (Named (codes "c"))) tt (part 59 (Block' (tt ∷ tt ∷ []) (more_of-Stmt (at 61) (Declare ((declared (field 66 (codes "q") (plain 61 I32) 1 []) None) ∷ [])) (more_of-Stmt (at 69) (Express (expr 69 (Assign' None tt (one 69 (Named (codes "q"))) tt (one 73 (Binary' Sub tt (one 73 (Unary' Address tt (one 74 (Index' tt (one 74 (Named (codes "a"))) tt (one 76 n1))))) tt (one 81 n1)))))) end_of-Stmt)))) None')) ∷ []))) ∷ []) 87

broken6 : Breaks source6 F2 73
unfolding next typed_program typed_value typed_alone first_fault hidden-the_row-TExpr-0 hidden-the_row-TExpr-1 hidden-the_row-TPlace-2 hidden-the_row-TStmt-0 hidden-the_row-TStmt-1 hidden-the_row-CType-0 hidden
broken6 = refl

-- void oc_main(void) { int a[2]; obliv bool c; obliv if (c) { frozen int *q = a + 1; q = &a[1] - 1; } }
abbrev source7 : Program
source7 = source [] ((function 6 (codes "oc_main") None [] false (Some ((stmt 22 (Declare ((declared (field 26 (codes "a") (plain 22 I32) 0 (2 ∷ [])) None) ∷ []))) ∷ (stmt 32 (Declare ((declared (field 43 (codes "c") (hidden_base 32 KBool) 0 []) None) ∷ []))) ∷ (stmt 46 (OblivIf' (expr 56 (Named (codes "c"))) tt (part 59 (Block' (tt ∷ tt ∷ []) (more_of-Stmt (at 61) (Declare ((declared (field 73 (codes "q") (frozen 61 I32) 1 []) (Some (expr 77 (Binary' Add tt (one 77 (Named (codes "a"))) tt (one 81 n1))))) ∷ [])) (more_of-Stmt (at 84) (Express (expr 84 (Assign' None tt (one 84 (Named (codes "q"))) tt (one 88 (Binary' Sub tt (one 88 (Unary' Address tt (one 89 (Index' tt (one 89 (Named (codes "a"))) tt (one 91 n1))))) tt (one 96 n1)))))) end_of-Stmt)))) None')) ∷ []))) ∷ []) 102

kept7 : Keeps source7
unfolding next typed_program typed_value typed_alone first_fault hidden-the_row-TExpr-0 hidden-the_row-TExpr-1 hidden-the_row-TPlace-2 hidden-the_row-TStmt-0 hidden-the_row-TStmt-1 hidden-the_row-CType-0 hidden
kept7 = refl

-- void oc_main(void) { int *p; obliv bool c; obliv if (c) { int *q = p; } }
abbrev source8 : Program
source8 = source [] ((function 6 (codes "oc_main") None [] false (Some ((stmt 22 (Declare ((declared (field 27 (codes "p") (plain 22 I32) 1 []) None) ∷ []))) ∷ (stmt 30 (Declare ((declared (field 41 (codes "c") (hidden_base 30 KBool) 0 []) None) ∷ []))) ∷ (stmt 44 (OblivIf' (expr 54 (Named (codes "c"))) tt (part 57 (Block' (tt ∷ []) (more_of-Stmt (at 59) (Declare ((declared (field 64 (codes "q") (plain 59 I32) 1 []) (Some (expr 68 (Named (codes "p"))))) ∷ [])) end_of-Stmt))) None')) ∷ []))) ∷ []) 74

broken8 : Breaks source8 F2 68
unfolding next typed_program typed_value typed_alone first_fault hidden-the_row-TExpr-0 hidden-the_row-TExpr-1 hidden-the_row-TPlace-2 hidden-the_row-TStmt-0 hidden-the_row-TStmt-1 hidden-the_row-CType-0 hidden
broken8 = refl

-- void oc_main(void) { int *p; obliv bool c; obliv if (c) { frozen int *q = p; int *r = NULL; } }
abbrev source9 : Program
source9 = source [] ((function 6 (codes "oc_main") None [] false (Some ((stmt 22 (Declare ((declared (field 27 (codes "p") (plain 22 I32) 1 []) None) ∷ []))) ∷ (stmt 30 (Declare ((declared (field 41 (codes "c") (hidden_base 30 KBool) 0 []) None) ∷ []))) ∷ (stmt 44 (OblivIf' (expr 54 (Named (codes "c"))) tt (part 57 (Block' (tt ∷ tt ∷ []) (more_of-Stmt (at 59) (Declare ((declared (field 71 (codes "q") (frozen 59 I32) 1 []) (Some (expr 75 (Named (codes "p"))))) ∷ [])) (more_of-Stmt (at 78) (Declare ((declared (field 83 (codes "r") (plain 78 I32) 1 []) (Some (expr 87 NullPointer))) ∷ [])) end_of-Stmt)))) None')) ∷ []))) ∷ []) 96

kept9 : Keeps source9
unfolding next typed_program typed_value typed_alone first_fault hidden-the_row-TExpr-0 hidden-the_row-TExpr-1 hidden-the_row-TPlace-2 hidden-the_row-TStmt-0 hidden-the_row-TStmt-1 hidden-the_row-CType-0 hidden
kept9 = refl

-- void oc_main(void) { int *p; obliv bool c; obliv if (c) { int **q = &p; } }
abbrev source10 : Program
source10 = source [] ((function 6 (codes "oc_main") None [] false (Some ((stmt 22 (Declare ((declared (field 27 (codes "p") (plain 22 I32) 1 []) None) ∷ []))) ∷ (stmt 30 (Declare ((declared (field 41 (codes "c") (hidden_base 30 KBool) 0 []) None) ∷ []))) ∷ (stmt 44 (OblivIf' (expr 54 (Named (codes "c"))) tt (part 57 (Block' (tt ∷ []) (more_of-Stmt (at 59) (Declare ((declared (field 65 (codes "q") (plain 59 I32) 2 []) (Some (expr 69 (Unary' Address tt (one 70 (Named (codes "p"))))))) ∷ [])) end_of-Stmt))) None')) ∷ []))) ∷ []) 76

broken10 : Breaks source10 F2 69
unfolding next typed_program typed_value typed_alone first_fault hidden-the_row-TExpr-0 hidden-the_row-TExpr-1 hidden-the_row-TPlace-2 hidden-the_row-TStmt-0 hidden-the_row-TStmt-1 hidden-the_row-CType-0 hidden
broken10 = refl

-- void oc_main(void) { int *p; obliv bool c; obliv if (c) { frozen int **q = &p; } }
abbrev source11 : Program
source11 = source [] ((function 6 (codes "oc_main") None [] false (Some ((stmt 22 (Declare ((declared (field 27 (codes "p") (plain 22 I32) 1 []) None) ∷ []))) ∷ (stmt 30 (Declare ((declared (field 41 (codes "c") (hidden_base 30 KBool) 0 []) None) ∷ []))) ∷ (stmt 44 (OblivIf' (expr 54 (Named (codes "c"))) tt (part 57 (Block' (tt ∷ []) (more_of-Stmt (at 59) (Declare ((declared (field 72 (codes "q") (frozen 59 I32) 2 []) (Some (expr 76 (Unary' Address tt (one 77 (Named (codes "p"))))))) ∷ [])) end_of-Stmt))) None')) ∷ []))) ∷ []) 83

kept11 : Keeps source11
unfolding next typed_program typed_value typed_alone first_fault hidden-the_row-TExpr-0 hidden-the_row-TExpr-1 hidden-the_row-TPlace-2 hidden-the_row-TStmt-0 hidden-the_row-TStmt-1 hidden-the_row-CType-0 hidden
kept11 = refl

-- void oc_main(void) { frozen int *p; int *q = p; }
abbrev source12 : Program
source12 = source [] ((function 6 (codes "oc_main") None [] false (Some ((stmt 22 (Declare ((declared (field 34 (codes "p") (frozen 22 I32) 1 []) None) ∷ []))) ∷ (stmt 37 (Declare ((declared (field 42 (codes "q") (plain 37 I32) 1 []) (Some (expr 46 (Named (codes "p"))))) ∷ []))) ∷ []))) ∷ []) 50

broken12 : Breaks source12 F2 46
unfolding next typed_program typed_value typed_alone first_fault hidden-the_row-TExpr-0 hidden-the_row-TExpr-1 hidden-the_row-TPlace-2 hidden-the_row-TStmt-0 hidden-the_row-TStmt-1 hidden-the_row-CType-0 hidden
broken12 = refl

-- void oc_main(void) { frozen int *p; int **q = &p; }
abbrev source13 : Program
source13 = source [] ((function 6 (codes "oc_main") None [] false (Some ((stmt 22 (Declare ((declared (field 34 (codes "p") (frozen 22 I32) 1 []) None) ∷ []))) ∷ (stmt 37 (Declare ((declared (field 43 (codes "q") (plain 37 I32) 2 []) (Some (expr 47 (Unary' Address tt (one 48 (Named (codes "p"))))))) ∷ []))) ∷ []))) ∷ []) 52

broken13 : Breaks source13 F2 47
unfolding next typed_program typed_value typed_alone first_fault hidden-the_row-TExpr-0 hidden-the_row-TExpr-1 hidden-the_row-TPlace-2 hidden-the_row-TStmt-0 hidden-the_row-TStmt-1 hidden-the_row-CType-0 hidden
broken13 = refl

-- void oc_main(void) { frozen int *p; frozen int **q = &p; }
abbrev source14 : Program
source14 = source [] ((function 6 (codes "oc_main") None [] false (Some ((stmt 22 (Declare ((declared (field 34 (codes "p") (frozen 22 I32) 1 []) None) ∷ []))) ∷ (stmt 37 (Declare ((declared (field 50 (codes "q") (frozen 37 I32) 2 []) (Some (expr 54 (Unary' Address tt (one 55 (Named (codes "p"))))))) ∷ []))) ∷ []))) ∷ []) 59

kept14 : Keeps source14
unfolding next typed_program typed_value typed_alone first_fault hidden-the_row-TExpr-0 hidden-the_row-TExpr-1 hidden-the_row-TPlace-2 hidden-the_row-TStmt-0 hidden-the_row-TStmt-1 hidden-the_row-CType-0 hidden
kept14 = refl

-- void oc_main(void) { int **p; frozen int **q = p; }
abbrev source15 : Program
source15 = source [] ((function 6 (codes "oc_main") None [] false (Some ((stmt 22 (Declare ((declared (field 28 (codes "p") (plain 22 I32) 2 []) None) ∷ []))) ∷ (stmt 31 (Declare ((declared (field 44 (codes "q") (frozen 31 I32) 2 []) (Some (expr 48 (Named (codes "p"))))) ∷ []))) ∷ []))) ∷ []) 52

kept15 : Keeps source15
unfolding next typed_program typed_value typed_alone first_fault hidden-the_row-TExpr-0 hidden-the_row-TExpr-1 hidden-the_row-TPlace-2 hidden-the_row-TStmt-0 hidden-the_row-TStmt-1 hidden-the_row-CType-0 hidden
kept15 = refl

-- void oc_main(void) { int **p; obliv bool c; obliv if (c) { int *q = *p; } }
abbrev source16 : Program
source16 = source [] ((function 6 (codes "oc_main") None [] false (Some ((stmt 22 (Declare ((declared (field 28 (codes "p") (plain 22 I32) 2 []) None) ∷ []))) ∷ (stmt 31 (Declare ((declared (field 42 (codes "c") (hidden_base 31 KBool) 0 []) None) ∷ []))) ∷ (stmt 45 (OblivIf' (expr 55 (Named (codes "c"))) tt (part 58 (Block' (tt ∷ []) (more_of-Stmt (at 60) (Declare ((declared (field 65 (codes "q") (plain 60 I32) 1 []) (Some (expr 69 (Unary' Deref tt (one 70 (Named (codes "p"))))))) ∷ [])) end_of-Stmt))) None')) ∷ []))) ∷ []) 76

broken16 : Breaks source16 F2 69
unfolding next typed_program typed_value typed_alone first_fault hidden-the_row-TExpr-0 hidden-the_row-TExpr-1 hidden-the_row-TPlace-2 hidden-the_row-TStmt-0 hidden-the_row-TStmt-1 hidden-the_row-CType-0 hidden
broken16 = refl

-- struct S { int *p; }; void oc_main(void) { struct S s; obliv bool c; obliv if (c) { struct S t = s; } }
abbrev source17 : Program
source17 = source ((struct 8 (codes "S") ((field 17 (codes "p") (plain 12 I32) 1 []) ∷ [])) ∷ []) ((function 28 (codes "oc_main") None [] false (Some ((stmt 44 (Declare ((declared (field 53 (codes "s") (struct_base 44 false (codes "S")) 0 []) None) ∷ []))) ∷ (stmt 56 (Declare ((declared (field 67 (codes "c") (hidden_base 56 KBool) 0 []) None) ∷ []))) ∷ (stmt 70 (OblivIf' (expr 80 (Named (codes "c"))) tt (part 83 (Block' (tt ∷ []) (more_of-Stmt (at 85) (Declare ((declared (field 94 (codes "t") (struct_base 85 false (codes "S")) 0 []) (Some (expr 98 (Named (codes "s"))))) ∷ [])) end_of-Stmt))) None')) ∷ []))) ∷ []) 104

broken17 : Breaks source17 F2 98
unfolding next typed_program typed_value typed_alone first_fault hidden-the_row-TExpr-0 hidden-the_row-TExpr-1 hidden-the_row-TPlace-2 hidden-the_row-TStmt-0 hidden-the_row-TStmt-1 hidden-the_row-CType-0 hidden
broken17 = refl

-- struct S { int *p; }; void oc_main(void) { frozen struct S s; struct S t; t = s; }
abbrev source18 : Program
source18 = source ((struct 8 (codes "S") ((field 17 (codes "p") (plain 12 I32) 1 []) ∷ [])) ∷ []) ((function 28 (codes "oc_main") None [] false (Some ((stmt 44 (Declare ((declared (field 60 (codes "s") (struct_base 44 true (codes "S")) 0 []) None) ∷ []))) ∷ (stmt 63 (Declare ((declared (field 72 (codes "t") (struct_base 63 false (codes "S")) 0 []) None) ∷ []))) ∷ (stmt 75 (Express (expr 75 (Assign' None tt (one 75 (Named (codes "t"))) tt (one 79 (Named (codes "s"))))))) ∷ []))) ∷ []) 83

broken18 : Breaks source18 F2 79
unfolding next typed_program typed_value typed_alone first_fault hidden-the_row-TExpr-0 hidden-the_row-TExpr-1 hidden-the_row-TPlace-2 hidden-the_row-TStmt-0 hidden-the_row-TStmt-1 hidden-the_row-CType-0 hidden
broken18 = refl

-- struct S { int *p; }; void oc_main(void) { struct S s; struct S t = s; t = t; }
abbrev source19 : Program
source19 = source ((struct 8 (codes "S") ((field 17 (codes "p") (plain 12 I32) 1 []) ∷ [])) ∷ []) ((function 28 (codes "oc_main") None [] false (Some ((stmt 44 (Declare ((declared (field 53 (codes "s") (struct_base 44 false (codes "S")) 0 []) None) ∷ []))) ∷ (stmt 56 (Declare ((declared (field 65 (codes "t") (struct_base 56 false (codes "S")) 0 []) (Some (expr 69 (Named (codes "s"))))) ∷ []))) ∷ (stmt 72 (Express (expr 72 (Assign' None tt (one 72 (Named (codes "t"))) tt (one 76 (Named (codes "t"))))))) ∷ []))) ∷ []) 80

kept19 : Keeps source19
unfolding next typed_program typed_value typed_alone first_fault hidden-the_row-TExpr-0 hidden-the_row-TExpr-1 hidden-the_row-TPlace-2 hidden-the_row-TStmt-0 hidden-the_row-TStmt-1 hidden-the_row-CType-0 hidden
kept19 = refl

-- struct S { frozen int *p; obliv int *q; }; void oc_main(void) { frozen struct S s; struct S t = s; t = s; }
abbrev source20 : Program
source20 = source ((struct 8 (codes "S") ((field 24 (codes "p") (frozen 12 I32) 1 []) ∷ (field 38 (codes "q") (hidden_base 27 I32) 1 []) ∷ [])) ∷ []) ((function 49 (codes "oc_main") None [] false (Some ((stmt 65 (Declare ((declared (field 81 (codes "s") (struct_base 65 true (codes "S")) 0 []) None) ∷ []))) ∷ (stmt 84 (Declare ((declared (field 93 (codes "t") (struct_base 84 false (codes "S")) 0 []) (Some (expr 97 (Named (codes "s"))))) ∷ []))) ∷ (stmt 100 (Express (expr 100 (Assign' None tt (one 100 (Named (codes "t"))) tt (one 104 (Named (codes "s"))))))) ∷ []))) ∷ []) 108

kept20 : Keeps source20
unfolding next typed_program typed_value typed_alone first_fault hidden-the_row-TExpr-0 hidden-the_row-TExpr-1 hidden-the_row-TPlace-2 hidden-the_row-TStmt-0 hidden-the_row-TStmt-1 hidden-the_row-CType-0 hidden
kept20 = refl

-- struct S { int *p; }; struct T { int n; struct S a[2]; }; void oc_main(void) { frozen struct T s; struct T t = s; }
abbrev source21 : Program
source21 = source ((struct 8 (codes "S") ((field 17 (codes "p") (plain 12 I32) 1 []) ∷ [])) ∷ (struct 30 (codes "T") ((field 38 (codes "n") (plain 34 I32) 0 []) ∷ (field 50 (codes "a") (struct_base 41 false (codes "S")) 0 (2 ∷ [])) ∷ [])) ∷ []) ((function 64 (codes "oc_main") None [] false (Some ((stmt 80 (Declare ((declared (field 96 (codes "s") (struct_base 80 true (codes "T")) 0 []) None) ∷ []))) ∷ (stmt 99 (Declare ((declared (field 108 (codes "t") (struct_base 99 false (codes "T")) 0 []) (Some (expr 112 (Named (codes "s"))))) ∷ []))) ∷ []))) ∷ []) 116

broken21 : Breaks source21 F2 112
unfolding next typed_program typed_value typed_alone first_fault hidden-the_row-TExpr-0 hidden-the_row-TExpr-1 hidden-the_row-TPlace-2 hidden-the_row-TStmt-0 hidden-the_row-TStmt-1 hidden-the_row-CType-0 hidden
broken21 = refl

-- struct S { int *p; }; void oc_main(void) { frozen struct S *s; struct S t = *s; }
abbrev source22 : Program
source22 = source ((struct 8 (codes "S") ((field 17 (codes "p") (plain 12 I32) 1 []) ∷ [])) ∷ []) ((function 28 (codes "oc_main") None [] false (Some ((stmt 44 (Declare ((declared (field 61 (codes "s") (struct_base 44 true (codes "S")) 1 []) None) ∷ []))) ∷ (stmt 64 (Declare ((declared (field 73 (codes "t") (struct_base 64 false (codes "S")) 0 []) (Some (expr 77 (Unary' Deref tt (one 78 (Named (codes "s"))))))) ∷ []))) ∷ []))) ∷ []) 82

broken22 : Breaks source22 F2 77
unfolding next typed_program typed_value typed_alone first_fault hidden-the_row-TExpr-0 hidden-the_row-TExpr-1 hidden-the_row-TPlace-2 hidden-the_row-TStmt-0 hidden-the_row-TStmt-1 hidden-the_row-CType-0 hidden
broken22 = refl

-- struct S { int n; }; void oc_main(void) { frozen struct S *s; struct S t = *s; }
abbrev source23 : Program
source23 = source ((struct 8 (codes "S") ((field 16 (codes "n") (plain 12 I32) 0 []) ∷ [])) ∷ []) ((function 27 (codes "oc_main") None [] false (Some ((stmt 43 (Declare ((declared (field 60 (codes "s") (struct_base 43 true (codes "S")) 1 []) None) ∷ []))) ∷ (stmt 63 (Declare ((declared (field 72 (codes "t") (struct_base 63 false (codes "S")) 0 []) (Some (expr 76 (Unary' Deref tt (one 77 (Named (codes "s"))))))) ∷ []))) ∷ []))) ∷ []) 81

kept23 : Keeps source23
unfolding next typed_program typed_value typed_alone first_fault hidden-the_row-TExpr-0 hidden-the_row-TExpr-1 hidden-the_row-TPlace-2 hidden-the_row-TStmt-0 hidden-the_row-TStmt-1 hidden-the_row-CType-0 hidden
kept23 = refl

-- void f(int *p) obliv { } void oc_main(void) { int n; obliv bool c; obliv if (c) f(&n); }
abbrev source24 : Program
source24 = source [] ((function 6 (codes "f") None ((param 13 (codes "p") (plain 8 I32) 1 array.Plain) ∷ []) true (Some [])) ∷ (function 31 (codes "oc_main") None [] false (Some ((stmt 47 (Declare ((declared (field 51 (codes "n") (plain 47 I32) 0 []) None) ∷ []))) ∷ (stmt 54 (Declare ((declared (field 65 (codes "c") (hidden_base 54 KBool) 0 []) None) ∷ []))) ∷ (stmt 68 (OblivIf' (expr 78 (Named (codes "c"))) tt (part 81 (Express (expr 81 (Call' (codes "f") (tt ∷ []) (more_of-Expr (at 83) (Unary' Address tt (one 84 (Named (codes "n")))) end_of-Expr))))) None')) ∷ []))) ∷ []) 89

broken24 : Breaks source24 F2 83
unfolding next typed_program typed_value typed_alone first_fault hidden-the_row-TExpr-0 hidden-the_row-TExpr-1 hidden-the_row-TPlace-2 hidden-the_row-TStmt-0 hidden-the_row-TStmt-1 hidden-the_row-CType-0 hidden
broken24 = refl

-- void f(frozen int *p) obliv { } void oc_main(void) { int n; obliv bool c; obliv if (c) f(&n); }
abbrev source25 : Program
source25 = source [] ((function 6 (codes "f") None ((param 20 (codes "p") (frozen 8 I32) 1 array.Plain) ∷ []) true (Some [])) ∷ (function 38 (codes "oc_main") None [] false (Some ((stmt 54 (Declare ((declared (field 58 (codes "n") (plain 54 I32) 0 []) None) ∷ []))) ∷ (stmt 61 (Declare ((declared (field 72 (codes "c") (hidden_base 61 KBool) 0 []) None) ∷ []))) ∷ (stmt 75 (OblivIf' (expr 85 (Named (codes "c"))) tt (part 88 (Express (expr 88 (Call' (codes "f") (tt ∷ []) (more_of-Expr (at 90) (Unary' Address tt (one 91 (Named (codes "n")))) end_of-Expr))))) None')) ∷ []))) ∷ []) 96

kept25 : Keeps source25
unfolding next typed_program typed_value typed_alone first_fault hidden-the_row-TExpr-0 hidden-the_row-TExpr-1 hidden-the_row-TPlace-2 hidden-the_row-TStmt-0 hidden-the_row-TStmt-1 hidden-the_row-CType-0 hidden
kept25 = refl

-- void f(int k, int a[2]) obliv { } void oc_main(void) { int n[2]; obliv bool c; obliv if (c) f(0, n); }
abbrev source26 : Program
source26 = source [] ((function 6 (codes "f") None ((param 12 (codes "k") (plain 8 I32) 0 array.Plain) ∷ (param 19 (codes "a") (plain 15 I32) 0 (array.Sized 2)) ∷ []) true (Some [])) ∷ (function 40 (codes "oc_main") None [] false (Some ((stmt 56 (Declare ((declared (field 60 (codes "n") (plain 56 I32) 0 (2 ∷ [])) None) ∷ []))) ∷ (stmt 66 (Declare ((declared (field 77 (codes "c") (hidden_base 66 KBool) 0 []) None) ∷ []))) ∷ (stmt 80 (OblivIf' (expr 90 (Named (codes "c"))) tt (part 93 (Express (expr 93 (Call' (codes "f") (tt ∷ tt ∷ []) (more_of-Expr (at 95) n0 (more_of-Expr (at 98) (Named (codes "n")) end_of-Expr)))))) None')) ∷ []))) ∷ []) 103

broken26 : Breaks source26 F2 98
unfolding next typed_program typed_value typed_alone first_fault hidden-the_row-TExpr-0 hidden-the_row-TExpr-1 hidden-the_row-TPlace-2 hidden-the_row-TStmt-0 hidden-the_row-TStmt-1 hidden-the_row-CType-0 hidden
broken26 = refl

-- int *f(frozen int *p) { return p; } void oc_main(void) { }
abbrev source27 : Program
source27 = source [] ((function 6 (codes "f") (Some (record { base = (plain 1 I32); stars = 1 })) ((param 20 (codes "p") (frozen 8 I32) 1 array.Plain) ∷ []) false (Some ((stmt 25 (Return (Some (expr 32 (Named (codes "p")))))) ∷ []))) ∷ (function 42 (codes "oc_main") None [] false (Some [])) ∷ []) 59

broken27 : Breaks source27 F2 32
unfolding next typed_program typed_value typed_alone first_fault hidden-the_row-TExpr-0 hidden-the_row-TExpr-1 hidden-the_row-TPlace-2 hidden-the_row-TStmt-0 hidden-the_row-TStmt-1 hidden-the_row-CType-0 hidden
broken27 = refl

-- frozen int *f(frozen int *p) { return p; } int *g(int *p) { return p; } void oc_main(void) { }
abbrev source28 : Program
source28 = source [] ((function 13 (codes "f") (Some (record { base = (frozen 1 I32); stars = 1 })) ((param 27 (codes "p") (frozen 15 I32) 1 array.Plain) ∷ []) false (Some ((stmt 32 (Return (Some (expr 39 (Named (codes "p")))))) ∷ []))) ∷ (function 49 (codes "g") (Some (record { base = (plain 44 I32); stars = 1 })) ((param 56 (codes "p") (plain 51 I32) 1 array.Plain) ∷ []) false (Some ((stmt 61 (Return (Some (expr 68 (Named (codes "p")))))) ∷ []))) ∷ (function 78 (codes "oc_main") None [] false (Some [])) ∷ []) 95

kept28 : Keeps source28
unfolding next typed_program typed_value typed_alone first_fault hidden-the_row-TExpr-0 hidden-the_row-TExpr-1 hidden-the_row-TPlace-2 hidden-the_row-TStmt-0 hidden-the_row-TStmt-1 hidden-the_row-CType-0 hidden
kept28 = refl

-- void oc_main(void) { obliv int x; frozen int r; revealOblivInt(&r, x, 0); }
abbrev source29 : Program
source29 = source [] ((function 6 (codes "oc_main") None [] false (Some ((stmt 22 (Declare ((declared (field 32 (codes "x") (hidden_base 22 I32) 0 []) None) ∷ []))) ∷ (stmt 35 (Declare ((declared (field 46 (codes "r") (frozen 35 I32) 0 []) None) ∷ []))) ∷ (stmt 49 (Express (expr 49 (Call' (codes "revealOblivInt") (tt ∷ tt ∷ tt ∷ []) (more_of-Expr (at 64) (Unary' Address tt (one 65 (Named (codes "r")))) (more_of-Expr (at 68) (Named (codes "x")) (more_of-Expr (at 71) n0 end_of-Expr))))))) ∷ []))) ∷ []) 76

broken29 : Breaks source29 F2 64
unfolding next typed_program typed_value typed_alone first_fault hidden-the_row-TExpr-0 hidden-the_row-TExpr-1 hidden-the_row-TPlace-2 hidden-the_row-TStmt-0 hidden-the_row-TStmt-1 hidden-the_row-CType-0 hidden
broken29 = refl

-- void oc_main(void) { obliv int x; int r; revealOblivInt(&r, x, 0); }
abbrev source30 : Program
source30 = source [] ((function 6 (codes "oc_main") None [] false (Some ((stmt 22 (Declare ((declared (field 32 (codes "x") (hidden_base 22 I32) 0 []) None) ∷ []))) ∷ (stmt 35 (Declare ((declared (field 39 (codes "r") (plain 35 I32) 0 []) None) ∷ []))) ∷ (stmt 42 (Express (expr 42 (Call' (codes "revealOblivInt") (tt ∷ tt ∷ tt ∷ []) (more_of-Expr (at 57) (Unary' Address tt (one 58 (Named (codes "r")))) (more_of-Expr (at 61) (Named (codes "x")) (more_of-Expr (at 64) n0 end_of-Expr))))))) ∷ []))) ∷ []) 69

kept30 : Keeps source30
unfolding next typed_program typed_value typed_alone first_fault hidden-the_row-TExpr-0 hidden-the_row-TExpr-1 hidden-the_row-TPlace-2 hidden-the_row-TStmt-0 hidden-the_row-TStmt-1 hidden-the_row-CType-0 hidden
kept30 = refl

-- void oc_main(void) { frozen int *p; free(p); }
abbrev source31 : Program
source31 = source [] ((function 6 (codes "oc_main") None [] false (Some ((stmt 22 (Declare ((declared (field 34 (codes "p") (frozen 22 I32) 1 []) None) ∷ []))) ∷ (stmt 37 (Express (expr 37 (Call' (codes "free") (tt ∷ []) (more_of-Expr (at 42) (Named (codes "p")) end_of-Expr))))) ∷ []))) ∷ []) 47

broken31 : Breaks source31 F2 42
unfolding next typed_program typed_value typed_alone first_fault hidden-the_row-TExpr-0 hidden-the_row-TExpr-1 hidden-the_row-TPlace-2 hidden-the_row-TStmt-0 hidden-the_row-TStmt-1 hidden-the_row-CType-0 hidden
broken31 = refl

-- void oc_main(void) { int *p; frozen obliv int *q; free(p); free(q); free(NULL); }
abbrev source32 : Program
source32 = source [] ((function 6 (codes "oc_main") None [] false (Some ((stmt 22 (Declare ((declared (field 27 (codes "p") (plain 22 I32) 1 []) None) ∷ []))) ∷ (stmt 30 (Declare ((declared (field 48 (codes "q") (frozen_hidden 30 I32) 1 []) None) ∷ []))) ∷ (stmt 51 (Express (expr 51 (Call' (codes "free") (tt ∷ []) (more_of-Expr (at 56) (Named (codes "p")) end_of-Expr))))) ∷ (stmt 60 (Express (expr 60 (Call' (codes "free") (tt ∷ []) (more_of-Expr (at 65) (Named (codes "q")) end_of-Expr))))) ∷ (stmt 69 (Express (expr 69 (Call' (codes "free") (tt ∷ []) (more_of-Expr (at 74) NullPointer end_of-Expr))))) ∷ []))) ∷ []) 82

kept32 : Keeps source32
unfolding next typed_program typed_value typed_alone first_fault hidden-the_row-TExpr-0 hidden-the_row-TExpr-1 hidden-the_row-TPlace-2 hidden-the_row-TStmt-0 hidden-the_row-TStmt-1 hidden-the_row-CType-0 hidden
kept32 = refl

-- void oc_main(void) { obliv int x; int r; obliv bool c; obliv if (c) revealOblivInt(&r, x, 0); }
abbrev source33 : Program
source33 = source [] ((function 6 (codes "oc_main") None [] false (Some ((stmt 22 (Declare ((declared (field 32 (codes "x") (hidden_base 22 I32) 0 []) None) ∷ []))) ∷ (stmt 35 (Declare ((declared (field 39 (codes "r") (plain 35 I32) 0 []) None) ∷ []))) ∷ (stmt 42 (Declare ((declared (field 53 (codes "c") (hidden_base 42 KBool) 0 []) None) ∷ []))) ∷ (stmt 56 (OblivIf' (expr 66 (Named (codes "c"))) tt (part 69 (Express (expr 69 (Call' (codes "revealOblivInt") (tt ∷ tt ∷ tt ∷ []) (more_of-Expr (at 84) (Unary' Address tt (one 85 (Named (codes "r")))) (more_of-Expr (at 88) (Named (codes "x")) (more_of-Expr (at 91) n0 end_of-Expr))))))) None')) ∷ []))) ∷ []) 96

broken33 : Breaks source33 F2 84
unfolding next typed_program typed_value typed_alone first_fault hidden-the_row-TExpr-0 hidden-the_row-TExpr-1 hidden-the_row-TPlace-2 hidden-the_row-TStmt-0 hidden-the_row-TStmt-1 hidden-the_row-CType-0 hidden
broken33 = refl

-- void oc_main(void) { int n; int *p; obliv bool c; obliv if (c) p = &n; }
abbrev source34 : Program
source34 = source [] ((function 6 (codes "oc_main") None [] false (Some ((stmt 22 (Declare ((declared (field 26 (codes "n") (plain 22 I32) 0 []) None) ∷ []))) ∷ (stmt 29 (Declare ((declared (field 34 (codes "p") (plain 29 I32) 1 []) None) ∷ []))) ∷ (stmt 37 (Declare ((declared (field 48 (codes "c") (hidden_base 37 KBool) 0 []) None) ∷ []))) ∷ (stmt 51 (OblivIf' (expr 61 (Named (codes "c"))) tt (part 64 (Express (expr 64 (Assign' None tt (one 64 (Named (codes "p"))) tt (one 68 (Unary' Address tt (one 69 (Named (codes "n"))))))))) None')) ∷ []))) ∷ []) 73

broken34 : Breaks source34 F2 68
unfolding next typed_program typed_value typed_alone first_fault hidden-the_row-TExpr-0 hidden-the_row-TExpr-1 hidden-the_row-TPlace-2 hidden-the_row-TStmt-0 hidden-the_row-TStmt-1 hidden-the_row-CType-0 hidden
broken34 = refl

-- void oc_main(void) { int outer = 0; obliv bool c = feedOblivBool(ocPrivate(0), 1); obliv if (c) { int *q = &outer; } }
abbrev source35 : Program
source35 = source [] ((function 6 (codes "oc_main") None [] false (Some ((stmt 22 (Declare ((declared (field 26 (codes "outer") (plain 22 I32) 0 []) (Some (expr 34 n0))) ∷ []))) ∷ (stmt 37 (Declare ((declared (field 48 (codes "c") (hidden_base 37 KBool) 0 []) (Some (expr 52 (Call' (codes "feedOblivBool") (tt ∷ tt ∷ []) (more_of-Expr (at 66) (Call' (codes "ocPrivate") (tt ∷ []) (more_of-Expr (at 76) n0 end_of-Expr)) (more_of-Expr (at 80) n1 end_of-Expr)))))) ∷ []))) ∷ (stmt 84 (OblivIf' (expr 94 (Named (codes "c"))) tt (part 97 (Block' (tt ∷ []) (more_of-Stmt (at 99) (Declare ((declared (field 104 (codes "q") (plain 99 I32) 1 []) (Some (expr 108 (Unary' Address tt (one 109 (Named (codes "outer"))))))) ∷ [])) end_of-Stmt))) None')) ∷ []))) ∷ []) 119

broken35 : Breaks source35 F2 108
unfolding next typed_program typed_value typed_alone first_fault hidden-the_row-TExpr-0 hidden-the_row-TExpr-1 hidden-the_row-TPlace-2 hidden-the_row-TStmt-0 hidden-the_row-TStmt-1 hidden-the_row-CType-0 hidden
broken35 = refl

-- void oc_main(void) { int outer = 0; obliv bool c = feedOblivBool(ocPrivate(0), 1); obliv if (c) { int q = outer; } }
abbrev source36 : Program
source36 = source [] ((function 6 (codes "oc_main") None [] false (Some ((stmt 22 (Declare ((declared (field 26 (codes "outer") (plain 22 I32) 0 []) (Some (expr 34 n0))) ∷ []))) ∷ (stmt 37 (Declare ((declared (field 48 (codes "c") (hidden_base 37 KBool) 0 []) (Some (expr 52 (Call' (codes "feedOblivBool") (tt ∷ tt ∷ []) (more_of-Expr (at 66) (Call' (codes "ocPrivate") (tt ∷ []) (more_of-Expr (at 76) n0 end_of-Expr)) (more_of-Expr (at 80) n1 end_of-Expr)))))) ∷ []))) ∷ (stmt 84 (OblivIf' (expr 94 (Named (codes "c"))) tt (part 97 (Block' (tt ∷ []) (more_of-Stmt (at 99) (Declare ((declared (field 103 (codes "q") (plain 99 I32) 0 []) (Some (expr 107 (Named (codes "outer"))))) ∷ [])) end_of-Stmt))) None')) ∷ []))) ∷ []) 117

kept36 : Keeps source36
unfolding next typed_program typed_value typed_alone first_fault hidden-the_row-TExpr-0 hidden-the_row-TExpr-1 hidden-the_row-TPlace-2 hidden-the_row-TStmt-0 hidden-the_row-TStmt-1 hidden-the_row-CType-0 hidden
kept36 = refl

-- void oc_main(void) { int tag = 3; obliv int v = 0; obliv bool c; obliv if (c) { frozen int *q = &tag; v = *q; } }
abbrev source37 : Program
source37 = source [] ((function 6 (codes "oc_main") None [] false (Some ((stmt 22 (Declare ((declared (field 26 (codes "tag") (plain 22 I32) 0 []) (Some (expr 32 n3))) ∷ []))) ∷ (stmt 35 (Declare ((declared (field 45 (codes "v") (hidden_base 35 I32) 0 []) (Some (expr 49 n0))) ∷ []))) ∷ (stmt 52 (Declare ((declared (field 63 (codes "c") (hidden_base 52 KBool) 0 []) None) ∷ []))) ∷ (stmt 66 (OblivIf' (expr 76 (Named (codes "c"))) tt (part 79 (Block' (tt ∷ tt ∷ []) (more_of-Stmt (at 81) (Declare ((declared (field 93 (codes "q") (frozen 81 I32) 1 []) (Some (expr 97 (Unary' Address tt (one 98 (Named (codes "tag"))))))) ∷ [])) (more_of-Stmt (at 103) (Express (expr 103 (Assign' None tt (one 103 (Named (codes "v"))) tt (one 107 (Unary' Deref tt (one 108 (Named (codes "q")))))))) end_of-Stmt)))) None')) ∷ []))) ∷ []) 114

kept37 : Keeps source37
unfolding next typed_program typed_value typed_alone first_fault hidden-the_row-TExpr-0 hidden-the_row-TExpr-1 hidden-the_row-TPlace-2 hidden-the_row-TStmt-0 hidden-the_row-TStmt-1 hidden-the_row-CType-0 hidden
kept37 = refl

-- void oc_main(void) { int tag = 3; obliv int v = 0; obliv bool c; obliv if (c) { frozen int *q = &tag; int *p = q; } }
abbrev source38 : Program
source38 = source [] ((function 6 (codes "oc_main") None [] false (Some ((stmt 22 (Declare ((declared (field 26 (codes "tag") (plain 22 I32) 0 []) (Some (expr 32 n3))) ∷ []))) ∷ (stmt 35 (Declare ((declared (field 45 (codes "v") (hidden_base 35 I32) 0 []) (Some (expr 49 n0))) ∷ []))) ∷ (stmt 52 (Declare ((declared (field 63 (codes "c") (hidden_base 52 KBool) 0 []) None) ∷ []))) ∷ (stmt 66 (OblivIf' (expr 76 (Named (codes "c"))) tt (part 79 (Block' (tt ∷ tt ∷ []) (more_of-Stmt (at 81) (Declare ((declared (field 93 (codes "q") (frozen 81 I32) 1 []) (Some (expr 97 (Unary' Address tt (one 98 (Named (codes "tag"))))))) ∷ [])) (more_of-Stmt (at 103) (Declare ((declared (field 108 (codes "p") (plain 103 I32) 1 []) (Some (expr 112 (Named (codes "q"))))) ∷ [])) end_of-Stmt)))) None')) ∷ []))) ∷ []) 118

broken38 : Breaks source38 F2 112
unfolding next typed_program typed_value typed_alone first_fault hidden-the_row-TExpr-0 hidden-the_row-TExpr-1 hidden-the_row-TPlace-2 hidden-the_row-TStmt-0 hidden-the_row-TStmt-1 hidden-the_row-CType-0 hidden
broken38 = refl

-- void f(int *p) obliv { *p = 1; } void oc_main(void) { obliv bool c; obliv if (c) { int n; f(&n); f(NULL); } }
abbrev source39 : Program
source39 = source [] ((function 6 (codes "f") None ((param 13 (codes "p") (plain 8 I32) 1 array.Plain) ∷ []) true (Some ((stmt 24 (Express (expr 24 (Assign' None tt (one 24 (Unary' Deref tt (one 25 (Named (codes "p"))))) tt (one 29 n1))))) ∷ []))) ∷ (function 39 (codes "oc_main") None [] false (Some ((stmt 55 (Declare ((declared (field 66 (codes "c") (hidden_base 55 KBool) 0 []) None) ∷ []))) ∷ (stmt 69 (OblivIf' (expr 79 (Named (codes "c"))) tt (part 82 (Block' (tt ∷ tt ∷ tt ∷ []) (more_of-Stmt (at 84) (Declare ((declared (field 88 (codes "n") (plain 84 I32) 0 []) None) ∷ [])) (more_of-Stmt (at 91) (Express (expr 91 (Call' (codes "f") (tt ∷ []) (more_of-Expr (at 93) (Unary' Address tt (one 94 (Named (codes "n")))) end_of-Expr)))) (more_of-Stmt (at 98) (Express (expr 98 (Call' (codes "f") (tt ∷ []) (more_of-Expr (at 100) NullPointer end_of-Expr)))) end_of-Stmt))))) None')) ∷ []))) ∷ []) 110

kept39 : Keeps source39
unfolding next typed_program typed_value typed_alone first_fault hidden-the_row-TExpr-0 hidden-the_row-TExpr-1 hidden-the_row-TPlace-2 hidden-the_row-TStmt-0 hidden-the_row-TStmt-1 hidden-the_row-CType-0 hidden
kept39 = refl

-- struct S { int *p; }; void oc_main(void) { struct S s; obliv bool c; obliv if (c) { struct S t; struct S u = t = s; } }
abbrev source40 : Program
source40 = source ((struct 8 (codes "S") ((field 17 (codes "p") (plain 12 I32) 1 []) ∷ [])) ∷ []) ((function 28 (codes "oc_main") None [] false (Some ((stmt 44 (Declare ((declared (field 53 (codes "s") (struct_base 44 false (codes "S")) 0 []) None) ∷ []))) ∷ (stmt 56 (Declare ((declared (field 67 (codes "c") (hidden_base 56 KBool) 0 []) None) ∷ []))) ∷ (stmt 70 (OblivIf' (expr 80 (Named (codes "c"))) tt (part 83 (Block' (tt ∷ tt ∷ []) (more_of-Stmt (at 85) (Declare ((declared (field 94 (codes "t") (struct_base 85 false (codes "S")) 0 []) None) ∷ [])) (more_of-Stmt (at 97) (Declare ((declared (field 106 (codes "u") (struct_base 97 false (codes "S")) 0 []) (Some (expr 110 (Assign' None tt (one 110 (Named (codes "t"))) tt (one 114 (Named (codes "s"))))))) ∷ [])) end_of-Stmt)))) None')) ∷ []))) ∷ []) 120

broken40 : Breaks source40 F2 114
unfolding next typed_program typed_value typed_alone first_fault hidden-the_row-TExpr-0 hidden-the_row-TExpr-1 hidden-the_row-TPlace-2 hidden-the_row-TStmt-0 hidden-the_row-TStmt-1 hidden-the_row-CType-0 hidden
broken40 = refl
