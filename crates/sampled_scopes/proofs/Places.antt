-- Frozen places of each kind: fields, elements, and what frozen pointers lead to.
use Rattle.std.proofs.Common.{refl, [], ◌∷◌, Some, None, true, false}
use Rattle.std.specs.Prelude.{codes}
use Rattle.oc_values.specs.declared.integers.IntKind.TheVariants.{Bool as KBool, I32}
use Rattle.oc_values.specs.declared.integers.BinaryOp.TheVariants.{Add}
use Rattle.oc_cells.specs.declared.types.CType.TheBlock.{hidden-the_row-CType-0}
use denote.Hole.Carrier.{hidden}
use Rattle.oc_source.specs.declared.parsed.ParamArray.TheVariants as array
use Rattle.oc_source.specs.declared.parsed.UnaryOp.TheVariants.{Address, Deref}
use Rattle.oc_source.specs.declared.parsed.ExprNode.{NullPointer, Named, Unary', Bump', Binary', Assign', Index', Field', Arrow'}
use Rattle.oc_source.specs.declared.parsed.StmtNode.{Declare, Express, Block', OblivIf', end_of-Stmt, more_of-Stmt, None'}
use Rattle.oc_source.specs.declared.parsed.Program.{Program}
use Rattle.oc_typed.specs.declared.typed.TExprNode.TheBlock.{hidden-the_row-TExpr-0, hidden-the_row-TExpr-1, hidden-the_row-TPlace-2}
use Rattle.oc_typed.specs.declared.typed.TStmtNode.TheBlock.{hidden-the_row-TStmt-0, hidden-the_row-TStmt-1}
use Rattle.type_rules.specs.Judging.{next}
use Rattle.type_rules.specs.Rules.{typed_value, typed_alone}
use Rattle.type_rules.specs.ProgramRules.{typed_program}
use Rattle.scope_rules.specs.declared.rules.ScopeRule.TheVariants.{F1, F5}
use Rattle.scope_rules.specs.FirstFault.{first_fault}
use Rattle.sampled_scopes.proofs.Building.{at, expr, one, n0, n1, n2, stmt, part, plain, hidden_base, frozen, struct_base, field, declared, struct, param, function, source, Keeps, Breaks}

-- struct S { int x; obliv int h; }; void oc_main(void) { struct S s; obliv bool c; obliv if (c) s.x = 1; }
abbrev source0 : Program
source0 = source ((struct 8 (codes "S") ((field 16 (codes "x") (plain 12 I32) 0 []) ∷ (field 29 (codes "h") (hidden_base 19 I32) 0 []) ∷ [])) ∷ []) ((function 40 (codes "oc_main") None [] false (Some ((stmt 56 (Declare ((declared (field 65 (codes "s") (struct_base 56 false (codes "S")) 0 []) None) ∷ []))) ∷ (stmt 68 (Declare ((declared (field 79 (codes "c") (hidden_base 68 KBool) 0 []) None) ∷ []))) ∷ (stmt 82 (OblivIf' (expr 92 (Named (codes "c"))) tt (part 95 (Express (expr 95 (Assign' None tt (one 95 (Field' tt (one 95 (Named (codes "s"))) (codes "x"))) tt (one 101 n1))))) None')) ∷ []))) ∷ []) 105

broken0 : Breaks source0 F1 95
unfolding next typed_program typed_value typed_alone first_fault hidden-the_row-TExpr-0 hidden-the_row-TExpr-1 hidden-the_row-TPlace-2 hidden-the_row-TStmt-0 hidden-the_row-TStmt-1 hidden-the_row-CType-0 hidden
broken0 = refl

-- struct S { int x; obliv int h; }; void oc_main(void) { struct S s; obliv bool c; obliv if (c) s.h = 1; }
abbrev source1 : Program
source1 = source ((struct 8 (codes "S") ((field 16 (codes "x") (plain 12 I32) 0 []) ∷ (field 29 (codes "h") (hidden_base 19 I32) 0 []) ∷ [])) ∷ []) ((function 40 (codes "oc_main") None [] false (Some ((stmt 56 (Declare ((declared (field 65 (codes "s") (struct_base 56 false (codes "S")) 0 []) None) ∷ []))) ∷ (stmt 68 (Declare ((declared (field 79 (codes "c") (hidden_base 68 KBool) 0 []) None) ∷ []))) ∷ (stmt 82 (OblivIf' (expr 92 (Named (codes "c"))) tt (part 95 (Express (expr 95 (Assign' None tt (one 95 (Field' tt (one 95 (Named (codes "s"))) (codes "h"))) tt (one 101 n1))))) None')) ∷ []))) ∷ []) 105

kept1 : Keeps source1
unfolding next typed_program typed_value typed_alone first_fault hidden-the_row-TExpr-0 hidden-the_row-TExpr-1 hidden-the_row-TPlace-2 hidden-the_row-TStmt-0 hidden-the_row-TStmt-1 hidden-the_row-CType-0 hidden
kept1 = refl

-- struct S { int x; obliv int h; }; void oc_main(void) { struct S s; obliv bool c; obliv if (c) { struct S t; s = t; } }
abbrev source2 : Program
source2 = source ((struct 8 (codes "S") ((field 16 (codes "x") (plain 12 I32) 0 []) ∷ (field 29 (codes "h") (hidden_base 19 I32) 0 []) ∷ [])) ∷ []) ((function 40 (codes "oc_main") None [] false (Some ((stmt 56 (Declare ((declared (field 65 (codes "s") (struct_base 56 false (codes "S")) 0 []) None) ∷ []))) ∷ (stmt 68 (Declare ((declared (field 79 (codes "c") (hidden_base 68 KBool) 0 []) None) ∷ []))) ∷ (stmt 82 (OblivIf' (expr 92 (Named (codes "c"))) tt (part 95 (Block' (tt ∷ tt ∷ []) (more_of-Stmt (at 97) (Declare ((declared (field 106 (codes "t") (struct_base 97 false (codes "S")) 0 []) None) ∷ [])) (more_of-Stmt (at 109) (Express (expr 109 (Assign' None tt (one 109 (Named (codes "s"))) tt (one 113 (Named (codes "t")))))) end_of-Stmt)))) None')) ∷ []))) ∷ []) 119

broken2 : Breaks source2 F1 109
unfolding next typed_program typed_value typed_alone first_fault hidden-the_row-TExpr-0 hidden-the_row-TExpr-1 hidden-the_row-TPlace-2 hidden-the_row-TStmt-0 hidden-the_row-TStmt-1 hidden-the_row-CType-0 hidden
broken2 = refl

-- struct H { obliv int h; }; void oc_main(void) { struct H s; obliv bool c; obliv if (c) { struct H t; s = t; t = s; } }
abbrev source3 : Program
source3 = source ((struct 8 (codes "H") ((field 22 (codes "h") (hidden_base 12 I32) 0 []) ∷ [])) ∷ []) ((function 33 (codes "oc_main") None [] false (Some ((stmt 49 (Declare ((declared (field 58 (codes "s") (struct_base 49 false (codes "H")) 0 []) None) ∷ []))) ∷ (stmt 61 (Declare ((declared (field 72 (codes "c") (hidden_base 61 KBool) 0 []) None) ∷ []))) ∷ (stmt 75 (OblivIf' (expr 85 (Named (codes "c"))) tt (part 88 (Block' (tt ∷ tt ∷ tt ∷ []) (more_of-Stmt (at 90) (Declare ((declared (field 99 (codes "t") (struct_base 90 false (codes "H")) 0 []) None) ∷ [])) (more_of-Stmt (at 102) (Express (expr 102 (Assign' None tt (one 102 (Named (codes "s"))) tt (one 106 (Named (codes "t")))))) (more_of-Stmt (at 109) (Express (expr 109 (Assign' None tt (one 109 (Named (codes "t"))) tt (one 113 (Named (codes "s")))))) end_of-Stmt))))) None')) ∷ []))) ∷ []) 119

kept3 : Keeps source3
unfolding next typed_program typed_value typed_alone first_fault hidden-the_row-TExpr-0 hidden-the_row-TExpr-1 hidden-the_row-TPlace-2 hidden-the_row-TStmt-0 hidden-the_row-TStmt-1 hidden-the_row-CType-0 hidden
kept3 = refl

-- struct S { int x; obliv int h; }; void oc_main(void) { struct S a[2]; obliv bool c; obliv if (c) (*a).x = 1; }
abbrev source4 : Program
source4 = source ((struct 8 (codes "S") ((field 16 (codes "x") (plain 12 I32) 0 []) ∷ (field 29 (codes "h") (hidden_base 19 I32) 0 []) ∷ [])) ∷ []) ((function 40 (codes "oc_main") None [] false (Some ((stmt 56 (Declare ((declared (field 65 (codes "a") (struct_base 56 false (codes "S")) 0 (2 ∷ [])) None) ∷ []))) ∷ (stmt 71 (Declare ((declared (field 82 (codes "c") (hidden_base 71 KBool) 0 []) None) ∷ []))) ∷ (stmt 85 (OblivIf' (expr 95 (Named (codes "c"))) tt (part 98 (Express (expr 98 (Assign' None tt (one 98 (Field' tt (one 99 (Unary' Deref tt (one 100 (Named (codes "a"))))) (codes "x"))) tt (one 107 n1))))) None')) ∷ []))) ∷ []) 111

broken4 : Breaks source4 F1 98
unfolding next typed_program typed_value typed_alone first_fault hidden-the_row-TExpr-0 hidden-the_row-TExpr-1 hidden-the_row-TPlace-2 hidden-the_row-TStmt-0 hidden-the_row-TStmt-1 hidden-the_row-CType-0 hidden
broken4 = refl

-- struct S { int x; obliv int h; }; void oc_main(void) { struct S a[2]; obliv bool c; obliv if (c) a[1].h = 1; }
abbrev source5 : Program
source5 = source ((struct 8 (codes "S") ((field 16 (codes "x") (plain 12 I32) 0 []) ∷ (field 29 (codes "h") (hidden_base 19 I32) 0 []) ∷ [])) ∷ []) ((function 40 (codes "oc_main") None [] false (Some ((stmt 56 (Declare ((declared (field 65 (codes "a") (struct_base 56 false (codes "S")) 0 (2 ∷ [])) None) ∷ []))) ∷ (stmt 71 (Declare ((declared (field 82 (codes "c") (hidden_base 71 KBool) 0 []) None) ∷ []))) ∷ (stmt 85 (OblivIf' (expr 95 (Named (codes "c"))) tt (part 98 (Express (expr 98 (Assign' None tt (one 98 (Field' tt (one 98 (Index' tt (one 98 (Named (codes "a"))) tt (one 100 n1))) (codes "h"))) tt (one 107 n1))))) None')) ∷ []))) ∷ []) 111

kept5 : Keeps source5
unfolding next typed_program typed_value typed_alone first_fault hidden-the_row-TExpr-0 hidden-the_row-TExpr-1 hidden-the_row-TPlace-2 hidden-the_row-TStmt-0 hidden-the_row-TStmt-1 hidden-the_row-CType-0 hidden
kept5 = refl

-- void oc_main(void) { int a[2]; obliv bool c; obliv if (c) a[1] = 1; }
abbrev source6 : Program
source6 = source [] ((function 6 (codes "oc_main") None [] false (Some ((stmt 22 (Declare ((declared (field 26 (codes "a") (plain 22 I32) 0 (2 ∷ [])) None) ∷ []))) ∷ (stmt 32 (Declare ((declared (field 43 (codes "c") (hidden_base 32 KBool) 0 []) None) ∷ []))) ∷ (stmt 46 (OblivIf' (expr 56 (Named (codes "c"))) tt (part 59 (Express (expr 59 (Assign' None tt (one 59 (Index' tt (one 59 (Named (codes "a"))) tt (one 61 n1))) tt (one 66 n1))))) None')) ∷ []))) ∷ []) 70

broken6 : Breaks source6 F1 59
unfolding next typed_program typed_value typed_alone first_fault hidden-the_row-TExpr-0 hidden-the_row-TExpr-1 hidden-the_row-TPlace-2 hidden-the_row-TStmt-0 hidden-the_row-TStmt-1 hidden-the_row-CType-0 hidden
broken6 = refl

-- void oc_main(void) { obliv int a[2]; obliv bool c; obliv if (c) a[1] = 1; }
abbrev source7 : Program
source7 = source [] ((function 6 (codes "oc_main") None [] false (Some ((stmt 22 (Declare ((declared (field 32 (codes "a") (hidden_base 22 I32) 0 (2 ∷ [])) None) ∷ []))) ∷ (stmt 38 (Declare ((declared (field 49 (codes "c") (hidden_base 38 KBool) 0 []) None) ∷ []))) ∷ (stmt 52 (OblivIf' (expr 62 (Named (codes "c"))) tt (part 65 (Express (expr 65 (Assign' None tt (one 65 (Index' tt (one 65 (Named (codes "a"))) tt (one 67 n1))) tt (one 72 n1))))) None')) ∷ []))) ∷ []) 76

kept7 : Keeps source7
unfolding next typed_program typed_value typed_alone first_fault hidden-the_row-TExpr-0 hidden-the_row-TExpr-1 hidden-the_row-TPlace-2 hidden-the_row-TStmt-0 hidden-the_row-TStmt-1 hidden-the_row-CType-0 hidden
kept7 = refl

-- void oc_main(void) { int a[2][3]; obliv bool c; obliv if (c) a[1][2] = 1; }
abbrev source8 : Program
source8 = source [] ((function 6 (codes "oc_main") None [] false (Some ((stmt 22 (Declare ((declared (field 26 (codes "a") (plain 22 I32) 0 (2 ∷ 3 ∷ [])) None) ∷ []))) ∷ (stmt 35 (Declare ((declared (field 46 (codes "c") (hidden_base 35 KBool) 0 []) None) ∷ []))) ∷ (stmt 49 (OblivIf' (expr 59 (Named (codes "c"))) tt (part 62 (Express (expr 62 (Assign' None tt (one 62 (Index' tt (one 62 (Index' tt (one 62 (Named (codes "a"))) tt (one 64 n1))) tt (one 67 n2))) tt (one 72 n1))))) None')) ∷ []))) ∷ []) 76

broken8 : Breaks source8 F1 62
unfolding next typed_program typed_value typed_alone first_fault hidden-the_row-TExpr-0 hidden-the_row-TExpr-1 hidden-the_row-TPlace-2 hidden-the_row-TStmt-0 hidden-the_row-TStmt-1 hidden-the_row-CType-0 hidden
broken8 = refl

-- void oc_main(void) { int *p; obliv bool c; obliv if (c) *p = 1; }
abbrev source9 : Program
source9 = source [] ((function 6 (codes "oc_main") None [] false (Some ((stmt 22 (Declare ((declared (field 27 (codes "p") (plain 22 I32) 1 []) None) ∷ []))) ∷ (stmt 30 (Declare ((declared (field 41 (codes "c") (hidden_base 30 KBool) 0 []) None) ∷ []))) ∷ (stmt 44 (OblivIf' (expr 54 (Named (codes "c"))) tt (part 57 (Express (expr 57 (Assign' None tt (one 57 (Unary' Deref tt (one 58 (Named (codes "p"))))) tt (one 62 n1))))) None')) ∷ []))) ∷ []) 66

broken9 : Breaks source9 F1 57
unfolding next typed_program typed_value typed_alone first_fault hidden-the_row-TExpr-0 hidden-the_row-TExpr-1 hidden-the_row-TPlace-2 hidden-the_row-TStmt-0 hidden-the_row-TStmt-1 hidden-the_row-CType-0 hidden
broken9 = refl

-- void oc_main(void) { obliv bool c; obliv if (c) { int n; int *p = &n; *p = 1; p[0] = 2; } }
abbrev source10 : Program
source10 = source [] ((function 6 (codes "oc_main") None [] false (Some ((stmt 22 (Declare ((declared (field 33 (codes "c") (hidden_base 22 KBool) 0 []) None) ∷ []))) ∷ (stmt 36 (OblivIf' (expr 46 (Named (codes "c"))) tt (part 49 (Block' (tt ∷ tt ∷ tt ∷ tt ∷ []) (more_of-Stmt (at 51) (Declare ((declared (field 55 (codes "n") (plain 51 I32) 0 []) None) ∷ [])) (more_of-Stmt (at 58) (Declare ((declared (field 63 (codes "p") (plain 58 I32) 1 []) (Some (expr 67 (Unary' Address tt (one 68 (Named (codes "n"))))))) ∷ [])) (more_of-Stmt (at 71) (Express (expr 71 (Assign' None tt (one 71 (Unary' Deref tt (one 72 (Named (codes "p"))))) tt (one 76 n1)))) (more_of-Stmt (at 79) (Express (expr 79 (Assign' None tt (one 79 (Index' tt (one 79 (Named (codes "p"))) tt (one 81 n0))) tt (one 86 n2)))) end_of-Stmt)))))) None')) ∷ []))) ∷ []) 92

kept10 : Keeps source10
unfolding next typed_program typed_value typed_alone first_fault hidden-the_row-TExpr-0 hidden-the_row-TExpr-1 hidden-the_row-TPlace-2 hidden-the_row-TStmt-0 hidden-the_row-TStmt-1 hidden-the_row-CType-0 hidden
kept10 = refl

-- void oc_main(void) { int *p; obliv bool c; obliv if (c) p = NULL; }
abbrev source11 : Program
source11 = source [] ((function 6 (codes "oc_main") None [] false (Some ((stmt 22 (Declare ((declared (field 27 (codes "p") (plain 22 I32) 1 []) None) ∷ []))) ∷ (stmt 30 (Declare ((declared (field 41 (codes "c") (hidden_base 30 KBool) 0 []) None) ∷ []))) ∷ (stmt 44 (OblivIf' (expr 54 (Named (codes "c"))) tt (part 57 (Express (expr 57 (Assign' None tt (one 57 (Named (codes "p"))) tt (one 61 NullPointer))))) None')) ∷ []))) ∷ []) 68

broken11 : Breaks source11 F1 57
unfolding next typed_program typed_value typed_alone first_fault hidden-the_row-TExpr-0 hidden-the_row-TExpr-1 hidden-the_row-TPlace-2 hidden-the_row-TStmt-0 hidden-the_row-TStmt-1 hidden-the_row-CType-0 hidden
broken11 = refl

-- void oc_main(void) { obliv int *p; obliv bool c; obliv if (c) p++; }
abbrev source12 : Program
source12 = source [] ((function 6 (codes "oc_main") None [] false (Some ((stmt 22 (Declare ((declared (field 33 (codes "p") (hidden_base 22 I32) 1 []) None) ∷ []))) ∷ (stmt 36 (Declare ((declared (field 47 (codes "c") (hidden_base 36 KBool) 0 []) None) ∷ []))) ∷ (stmt 50 (OblivIf' (expr 60 (Named (codes "c"))) tt (part 63 (Express (expr 63 (Bump' true false tt (one 63 (Named (codes "p"))))))) None')) ∷ []))) ∷ []) 69

broken12 : Breaks source12 F1 63
unfolding next typed_program typed_value typed_alone first_fault hidden-the_row-TExpr-0 hidden-the_row-TExpr-1 hidden-the_row-TPlace-2 hidden-the_row-TStmt-0 hidden-the_row-TStmt-1 hidden-the_row-CType-0 hidden
broken12 = refl

-- void oc_main(void) { obliv int *p; obliv bool c; obliv if (c) *p = 1; }
abbrev source13 : Program
source13 = source [] ((function 6 (codes "oc_main") None [] false (Some ((stmt 22 (Declare ((declared (field 33 (codes "p") (hidden_base 22 I32) 1 []) None) ∷ []))) ∷ (stmt 36 (Declare ((declared (field 47 (codes "c") (hidden_base 36 KBool) 0 []) None) ∷ []))) ∷ (stmt 50 (OblivIf' (expr 60 (Named (codes "c"))) tt (part 63 (Express (expr 63 (Assign' None tt (one 63 (Unary' Deref tt (one 64 (Named (codes "p"))))) tt (one 68 n1))))) None')) ∷ []))) ∷ []) 72

kept13 : Keeps source13
unfolding next typed_program typed_value typed_alone first_fault hidden-the_row-TExpr-0 hidden-the_row-TExpr-1 hidden-the_row-TPlace-2 hidden-the_row-TStmt-0 hidden-the_row-TStmt-1 hidden-the_row-CType-0 hidden
kept13 = refl

-- void oc_main(void) { int **p; obliv bool c; obliv if (c) **p = 1; }
abbrev source14 : Program
source14 = source [] ((function 6 (codes "oc_main") None [] false (Some ((stmt 22 (Declare ((declared (field 28 (codes "p") (plain 22 I32) 2 []) None) ∷ []))) ∷ (stmt 31 (Declare ((declared (field 42 (codes "c") (hidden_base 31 KBool) 0 []) None) ∷ []))) ∷ (stmt 45 (OblivIf' (expr 55 (Named (codes "c"))) tt (part 58 (Express (expr 58 (Assign' None tt (one 58 (Unary' Deref tt (one 59 (Unary' Deref tt (one 60 (Named (codes "p"))))))) tt (one 64 n1))))) None')) ∷ []))) ∷ []) 68

broken14 : Breaks source14 F1 58
unfolding next typed_program typed_value typed_alone first_fault hidden-the_row-TExpr-0 hidden-the_row-TExpr-1 hidden-the_row-TPlace-2 hidden-the_row-TStmt-0 hidden-the_row-TStmt-1 hidden-the_row-CType-0 hidden
broken14 = refl

-- void oc_main(void) { int **p; obliv bool c; obliv if (c) (*p)[1] = 1; }
abbrev source15 : Program
source15 = source [] ((function 6 (codes "oc_main") None [] false (Some ((stmt 22 (Declare ((declared (field 28 (codes "p") (plain 22 I32) 2 []) None) ∷ []))) ∷ (stmt 31 (Declare ((declared (field 42 (codes "c") (hidden_base 31 KBool) 0 []) None) ∷ []))) ∷ (stmt 45 (OblivIf' (expr 55 (Named (codes "c"))) tt (part 58 (Express (expr 58 (Assign' None tt (one 58 (Index' tt (one 59 (Unary' Deref tt (one 60 (Named (codes "p"))))) tt (one 63 n1))) tt (one 68 n1))))) None')) ∷ []))) ∷ []) 72

broken15 : Breaks source15 F1 58
unfolding next typed_program typed_value typed_alone first_fault hidden-the_row-TExpr-0 hidden-the_row-TExpr-1 hidden-the_row-TPlace-2 hidden-the_row-TStmt-0 hidden-the_row-TStmt-1 hidden-the_row-CType-0 hidden
broken15 = refl

-- void oc_main(void) { obliv int **p; obliv bool c; obliv if (c) **p = 1; }
abbrev source16 : Program
source16 = source [] ((function 6 (codes "oc_main") None [] false (Some ((stmt 22 (Declare ((declared (field 34 (codes "p") (hidden_base 22 I32) 2 []) None) ∷ []))) ∷ (stmt 37 (Declare ((declared (field 48 (codes "c") (hidden_base 37 KBool) 0 []) None) ∷ []))) ∷ (stmt 51 (OblivIf' (expr 61 (Named (codes "c"))) tt (part 64 (Express (expr 64 (Assign' None tt (one 64 (Unary' Deref tt (one 65 (Unary' Deref tt (one 66 (Named (codes "p"))))))) tt (one 70 n1))))) None')) ∷ []))) ∷ []) 74

kept16 : Keeps source16
unfolding next typed_program typed_value typed_alone first_fault hidden-the_row-TExpr-0 hidden-the_row-TExpr-1 hidden-the_row-TPlace-2 hidden-the_row-TStmt-0 hidden-the_row-TStmt-1 hidden-the_row-CType-0 hidden
kept16 = refl

-- struct S { int x; obliv int h; }; void oc_main(void) { struct S *p; obliv bool c; obliv if (c) p->x = 1; }
abbrev source17 : Program
source17 = source ((struct 8 (codes "S") ((field 16 (codes "x") (plain 12 I32) 0 []) ∷ (field 29 (codes "h") (hidden_base 19 I32) 0 []) ∷ [])) ∷ []) ((function 40 (codes "oc_main") None [] false (Some ((stmt 56 (Declare ((declared (field 66 (codes "p") (struct_base 56 false (codes "S")) 1 []) None) ∷ []))) ∷ (stmt 69 (Declare ((declared (field 80 (codes "c") (hidden_base 69 KBool) 0 []) None) ∷ []))) ∷ (stmt 83 (OblivIf' (expr 93 (Named (codes "c"))) tt (part 96 (Express (expr 96 (Assign' None tt (one 96 (Arrow' tt (one 96 (Named (codes "p"))) (codes "x"))) tt (one 103 n1))))) None')) ∷ []))) ∷ []) 107

broken17 : Breaks source17 F1 96
unfolding next typed_program typed_value typed_alone first_fault hidden-the_row-TExpr-0 hidden-the_row-TExpr-1 hidden-the_row-TPlace-2 hidden-the_row-TStmt-0 hidden-the_row-TStmt-1 hidden-the_row-CType-0 hidden
broken17 = refl

-- struct S { int x; obliv int h; }; void oc_main(void) { struct S *p; obliv bool c; obliv if (c) p->h = 1; }
abbrev source18 : Program
source18 = source ((struct 8 (codes "S") ((field 16 (codes "x") (plain 12 I32) 0 []) ∷ (field 29 (codes "h") (hidden_base 19 I32) 0 []) ∷ [])) ∷ []) ((function 40 (codes "oc_main") None [] false (Some ((stmt 56 (Declare ((declared (field 66 (codes "p") (struct_base 56 false (codes "S")) 1 []) None) ∷ []))) ∷ (stmt 69 (Declare ((declared (field 80 (codes "c") (hidden_base 69 KBool) 0 []) None) ∷ []))) ∷ (stmt 83 (OblivIf' (expr 93 (Named (codes "c"))) tt (part 96 (Express (expr 96 (Assign' None tt (one 96 (Arrow' tt (one 96 (Named (codes "p"))) (codes "h"))) tt (one 103 n1))))) None')) ∷ []))) ∷ []) 107

kept18 : Keeps source18
unfolding next typed_program typed_value typed_alone first_fault hidden-the_row-TExpr-0 hidden-the_row-TExpr-1 hidden-the_row-TPlace-2 hidden-the_row-TStmt-0 hidden-the_row-TStmt-1 hidden-the_row-CType-0 hidden
kept18 = refl

-- struct S { int *p; }; void oc_main(void) { struct S s; obliv bool c; obliv if (c) *s.p = 1; }
abbrev source19 : Program
source19 = source ((struct 8 (codes "S") ((field 17 (codes "p") (plain 12 I32) 1 []) ∷ [])) ∷ []) ((function 28 (codes "oc_main") None [] false (Some ((stmt 44 (Declare ((declared (field 53 (codes "s") (struct_base 44 false (codes "S")) 0 []) None) ∷ []))) ∷ (stmt 56 (Declare ((declared (field 67 (codes "c") (hidden_base 56 KBool) 0 []) None) ∷ []))) ∷ (stmt 70 (OblivIf' (expr 80 (Named (codes "c"))) tt (part 83 (Express (expr 83 (Assign' None tt (one 83 (Unary' Deref tt (one 84 (Field' tt (one 84 (Named (codes "s"))) (codes "p"))))) tt (one 90 n1))))) None')) ∷ []))) ∷ []) 94

broken19 : Breaks source19 F1 83
unfolding next typed_program typed_value typed_alone first_fault hidden-the_row-TExpr-0 hidden-the_row-TExpr-1 hidden-the_row-TPlace-2 hidden-the_row-TStmt-0 hidden-the_row-TStmt-1 hidden-the_row-CType-0 hidden
broken19 = refl

-- void oc_main(void) { int a[2]; obliv bool c; obliv if (c) *(a + 1) = 1; }
abbrev source20 : Program
source20 = source [] ((function 6 (codes "oc_main") None [] false (Some ((stmt 22 (Declare ((declared (field 26 (codes "a") (plain 22 I32) 0 (2 ∷ [])) None) ∷ []))) ∷ (stmt 32 (Declare ((declared (field 43 (codes "c") (hidden_base 32 KBool) 0 []) None) ∷ []))) ∷ (stmt 46 (OblivIf' (expr 56 (Named (codes "c"))) tt (part 59 (Express (expr 59 (Assign' None tt (one 59 (Unary' Deref tt (one 61 (Binary' Add tt (one 61 (Named (codes "a"))) tt (one 65 n1))))) tt (one 70 n1))))) None')) ∷ []))) ∷ []) 74

broken20 : Breaks source20 F1 59
unfolding next typed_program typed_value typed_alone first_fault hidden-the_row-TExpr-0 hidden-the_row-TExpr-1 hidden-the_row-TPlace-2 hidden-the_row-TStmt-0 hidden-the_row-TStmt-1 hidden-the_row-CType-0 hidden
broken20 = refl

-- void oc_main(void) { frozen int *p; *(1 + p) = 1; }
abbrev source21 : Program
source21 = source [] ((function 6 (codes "oc_main") None [] false (Some ((stmt 22 (Declare ((declared (field 34 (codes "p") (frozen 22 I32) 1 []) None) ∷ []))) ∷ (stmt 37 (Express (expr 37 (Assign' None tt (one 37 (Unary' Deref tt (one 39 (Binary' Add tt (one 39 n1) tt (one 43 (Named (codes "p"))))))) tt (one 48 n1))))) ∷ []))) ∷ []) 52

broken21 : Breaks source21 F5 37
unfolding next typed_program typed_value typed_alone first_fault hidden-the_row-TExpr-0 hidden-the_row-TExpr-1 hidden-the_row-TPlace-2 hidden-the_row-TStmt-0 hidden-the_row-TStmt-1 hidden-the_row-CType-0 hidden
broken21 = refl

-- void oc_main(void) { frozen int *p; p[1] = 1; }
abbrev source22 : Program
source22 = source [] ((function 6 (codes "oc_main") None [] false (Some ((stmt 22 (Declare ((declared (field 34 (codes "p") (frozen 22 I32) 1 []) None) ∷ []))) ∷ (stmt 37 (Express (expr 37 (Assign' None tt (one 37 (Index' tt (one 37 (Named (codes "p"))) tt (one 39 n1))) tt (one 44 n1))))) ∷ []))) ∷ []) 48

broken22 : Breaks source22 F5 37
unfolding next typed_program typed_value typed_alone first_fault hidden-the_row-TExpr-0 hidden-the_row-TExpr-1 hidden-the_row-TPlace-2 hidden-the_row-TStmt-0 hidden-the_row-TStmt-1 hidden-the_row-CType-0 hidden
broken22 = refl

-- void oc_main(void) { frozen int *p; p = NULL; p++; }
abbrev source23 : Program
source23 = source [] ((function 6 (codes "oc_main") None [] false (Some ((stmt 22 (Declare ((declared (field 34 (codes "p") (frozen 22 I32) 1 []) None) ∷ []))) ∷ (stmt 37 (Express (expr 37 (Assign' None tt (one 37 (Named (codes "p"))) tt (one 41 NullPointer))))) ∷ (stmt 47 (Express (expr 47 (Bump' true false tt (one 47 (Named (codes "p"))))))) ∷ []))) ∷ []) 53

kept23 : Keeps source23
unfolding next typed_program typed_value typed_alone first_fault hidden-the_row-TExpr-0 hidden-the_row-TExpr-1 hidden-the_row-TPlace-2 hidden-the_row-TStmt-0 hidden-the_row-TStmt-1 hidden-the_row-CType-0 hidden
kept23 = refl

-- void oc_main(void) { frozen int **p; *p = NULL; }
abbrev source24 : Program
source24 = source [] ((function 6 (codes "oc_main") None [] false (Some ((stmt 22 (Declare ((declared (field 35 (codes "p") (frozen 22 I32) 2 []) None) ∷ []))) ∷ (stmt 38 (Express (expr 38 (Assign' None tt (one 38 (Unary' Deref tt (one 39 (Named (codes "p"))))) tt (one 43 NullPointer))))) ∷ []))) ∷ []) 50

broken24 : Breaks source24 F5 38
unfolding next typed_program typed_value typed_alone first_fault hidden-the_row-TExpr-0 hidden-the_row-TExpr-1 hidden-the_row-TPlace-2 hidden-the_row-TStmt-0 hidden-the_row-TStmt-1 hidden-the_row-CType-0 hidden
broken24 = refl

-- struct S { struct S *next; int x; }; void oc_main(void) { frozen struct S *s; s->next->x = 1; }
abbrev source25 : Program
source25 = source ((struct 8 (codes "S") ((field 22 (codes "next") (struct_base 12 false (codes "S")) 1 []) ∷ (field 32 (codes "x") (plain 28 I32) 0 []) ∷ [])) ∷ []) ((function 43 (codes "oc_main") None [] false (Some ((stmt 59 (Declare ((declared (field 76 (codes "s") (struct_base 59 true (codes "S")) 1 []) None) ∷ []))) ∷ (stmt 79 (Express (expr 79 (Assign' None tt (one 79 (Arrow' tt (one 79 (Arrow' tt (one 79 (Named (codes "s"))) (codes "next"))) (codes "x"))) tt (one 92 n1))))) ∷ []))) ∷ []) 96

broken25 : Breaks source25 F5 79
unfolding next typed_program typed_value typed_alone first_fault hidden-the_row-TExpr-0 hidden-the_row-TExpr-1 hidden-the_row-TPlace-2 hidden-the_row-TStmt-0 hidden-the_row-TStmt-1 hidden-the_row-CType-0 hidden
broken25 = refl

-- struct S { frozen int *p; int x; }; void oc_main(void) { struct S s; *s.p = 1; }
abbrev source26 : Program
source26 = source ((struct 8 (codes "S") ((field 24 (codes "p") (frozen 12 I32) 1 []) ∷ (field 31 (codes "x") (plain 27 I32) 0 []) ∷ [])) ∷ []) ((function 42 (codes "oc_main") None [] false (Some ((stmt 58 (Declare ((declared (field 67 (codes "s") (struct_base 58 false (codes "S")) 0 []) None) ∷ []))) ∷ (stmt 70 (Express (expr 70 (Assign' None tt (one 70 (Unary' Deref tt (one 71 (Field' tt (one 71 (Named (codes "s"))) (codes "p"))))) tt (one 77 n1))))) ∷ []))) ∷ []) 81

broken26 : Breaks source26 F5 70
unfolding next typed_program typed_value typed_alone first_fault hidden-the_row-TExpr-0 hidden-the_row-TExpr-1 hidden-the_row-TPlace-2 hidden-the_row-TStmt-0 hidden-the_row-TStmt-1 hidden-the_row-CType-0 hidden
broken26 = refl

-- struct S { frozen int *p; int x; }; void oc_main(void) { struct S s; s.p = NULL; s.x = 1; }
abbrev source27 : Program
source27 = source ((struct 8 (codes "S") ((field 24 (codes "p") (frozen 12 I32) 1 []) ∷ (field 31 (codes "x") (plain 27 I32) 0 []) ∷ [])) ∷ []) ((function 42 (codes "oc_main") None [] false (Some ((stmt 58 (Declare ((declared (field 67 (codes "s") (struct_base 58 false (codes "S")) 0 []) None) ∷ []))) ∷ (stmt 70 (Express (expr 70 (Assign' None tt (one 70 (Field' tt (one 70 (Named (codes "s"))) (codes "p"))) tt (one 76 NullPointer))))) ∷ (stmt 82 (Express (expr 82 (Assign' None tt (one 82 (Field' tt (one 82 (Named (codes "s"))) (codes "x"))) tt (one 88 n1))))) ∷ []))) ∷ []) 92

kept27 : Keeps source27
unfolding next typed_program typed_value typed_alone first_fault hidden-the_row-TExpr-0 hidden-the_row-TExpr-1 hidden-the_row-TPlace-2 hidden-the_row-TStmt-0 hidden-the_row-TStmt-1 hidden-the_row-CType-0 hidden
kept27 = refl

-- void f(frozen int a[2]) { a[0] = 1; } void oc_main(void) { }
abbrev source28 : Program
source28 = source [] ((function 6 (codes "f") None ((param 19 (codes "a") (frozen 8 I32) 0 (array.Sized 2)) ∷ []) false (Some ((stmt 27 (Express (expr 27 (Assign' None tt (one 27 (Index' tt (one 27 (Named (codes "a"))) tt (one 29 n0))) tt (one 34 n1))))) ∷ []))) ∷ (function 44 (codes "oc_main") None [] false (Some [])) ∷ []) 61

broken28 : Breaks source28 F5 27
unfolding next typed_program typed_value typed_alone first_fault hidden-the_row-TExpr-0 hidden-the_row-TExpr-1 hidden-the_row-TPlace-2 hidden-the_row-TStmt-0 hidden-the_row-TStmt-1 hidden-the_row-CType-0 hidden
broken28 = refl

-- void f(frozen int a[2]) { a = NULL; } void oc_main(void) { }
abbrev source29 : Program
source29 = source [] ((function 6 (codes "f") None ((param 19 (codes "a") (frozen 8 I32) 0 (array.Sized 2)) ∷ []) false (Some ((stmt 27 (Express (expr 27 (Assign' None tt (one 27 (Named (codes "a"))) tt (one 31 NullPointer))))) ∷ []))) ∷ (function 44 (codes "oc_main") None [] false (Some [])) ∷ []) 61

kept29 : Keeps source29
unfolding next typed_program typed_value typed_alone first_fault hidden-the_row-TExpr-0 hidden-the_row-TExpr-1 hidden-the_row-TPlace-2 hidden-the_row-TStmt-0 hidden-the_row-TStmt-1 hidden-the_row-CType-0 hidden
kept29 = refl

-- void oc_main(void) { frozen int a[2]; a[0] = 1; }
abbrev source30 : Program
source30 = source [] ((function 6 (codes "oc_main") None [] false (Some ((stmt 22 (Declare ((declared (field 33 (codes "a") (frozen 22 I32) 0 (2 ∷ [])) None) ∷ []))) ∷ (stmt 39 (Express (expr 39 (Assign' None tt (one 39 (Index' tt (one 39 (Named (codes "a"))) tt (one 41 n0))) tt (one 46 n1))))) ∷ []))) ∷ []) 50

broken30 : Breaks source30 F5 39
unfolding next typed_program typed_value typed_alone first_fault hidden-the_row-TExpr-0 hidden-the_row-TExpr-1 hidden-the_row-TPlace-2 hidden-the_row-TStmt-0 hidden-the_row-TStmt-1 hidden-the_row-CType-0 hidden
broken30 = refl
