-- Jumps out of parts.
use Rattle.std.proofs.Common.{refl, [], ◌∷◌, Some, None, true, false}
use Rattle.std.specs.Prelude.{codes}
use Rattle.oc_values.specs.declared.integers.IntKind.TheVariants.{Bool as KBool, I32}
use Rattle.oc_cells.specs.declared.types.CType.TheBlock.{hidden-the_row-CType-0}
use denote.Hole.Carrier.{hidden}
use Rattle.oc_source.specs.declared.parsed.ParamArray.TheVariants as array
use Rattle.oc_source.specs.declared.parsed.ExprNode.{Named, Assign'}
use Rattle.oc_source.specs.declared.parsed.StmtNode.{Declare, Block', OblivIf', Always', While', For', Return, Break, Continue, Empty, end_of-Stmt, more_of-Stmt, None', Some'}
use Rattle.oc_source.specs.declared.parsed.ForInit.TheVariants as begin
use Rattle.oc_source.specs.declared.parsed.Program.{Program}
use Rattle.oc_typed.specs.declared.typed.TExprNode.TheBlock.{hidden-the_row-TExpr-0, hidden-the_row-TExpr-1, hidden-the_row-TPlace-2}
use Rattle.oc_typed.specs.declared.typed.TStmtNode.TheBlock.{hidden-the_row-TStmt-0, hidden-the_row-TStmt-1}
use Rattle.type_rules.specs.Judging.{next}
use Rattle.type_rules.specs.Rules.{typed_value, typed_alone}
use Rattle.type_rules.specs.ProgramRules.{typed_program}
use Rattle.scope_rules.specs.declared.rules.ScopeRule.TheVariants.{F1, F4}
use Rattle.scope_rules.specs.FirstFault.{first_fault}
use Rattle.sampled_scopes.proofs.Building.{at, expr, one, n0, n1, stmt, part, plain, hidden_base, field, declared, param, function, source, Keeps, Breaks}

-- void oc_main(void) { obliv bool c; obliv if (c) return; }
abbrev source0 : Program
source0 = source [] ((function 6 (codes "oc_main") None [] false (Some ((stmt 22 (Declare ((declared (field 33 (codes "c") (hidden_base 22 KBool) 0 []) None) ∷ []))) ∷ (stmt 36 (OblivIf' (expr 46 (Named (codes "c"))) tt (part 49 (Return None)) None')) ∷ []))) ∷ []) 58

broken0 : Breaks source0 F4 49
unfolding next typed_program typed_value typed_alone first_fault hidden-the_row-TExpr-0 hidden-the_row-TExpr-1 hidden-the_row-TPlace-2 hidden-the_row-TStmt-0 hidden-the_row-TStmt-1 hidden-the_row-CType-0 hidden
broken0 = refl

-- void f(void) obliv { return; } void oc_main(void) { return; }
abbrev source1 : Program
source1 = source [] ((function 6 (codes "f") None [] true (Some ((stmt 22 (Return None)) ∷ []))) ∷ (function 37 (codes "oc_main") None [] false (Some ((stmt 53 (Return None)) ∷ []))) ∷ []) 62

kept1 : Keeps source1
unfolding next typed_program typed_value typed_alone first_fault hidden-the_row-TExpr-0 hidden-the_row-TExpr-1 hidden-the_row-TPlace-2 hidden-the_row-TStmt-0 hidden-the_row-TStmt-1 hidden-the_row-CType-0 hidden
kept1 = refl

-- void oc_main(void) { ~obliv(m) { return; } }
abbrev source2 : Program
source2 = source [] ((function 6 (codes "oc_main") None [] false (Some ((stmt 22 (Always' (codes "m") tt (part 32 (Block' (tt ∷ []) (more_of-Stmt (at 34) (Return None) end_of-Stmt))))) ∷ []))) ∷ []) 45

broken2 : Breaks source2 F4 34
unfolding next typed_program typed_value typed_alone first_fault hidden-the_row-TExpr-0 hidden-the_row-TExpr-1 hidden-the_row-TPlace-2 hidden-the_row-TStmt-0 hidden-the_row-TStmt-1 hidden-the_row-CType-0 hidden
broken2 = refl

-- void oc_main(void) { obliv bool c; obliv if (c) while (1) return; }
abbrev source3 : Program
source3 = source [] ((function 6 (codes "oc_main") None [] false (Some ((stmt 22 (Declare ((declared (field 33 (codes "c") (hidden_base 22 KBool) 0 []) None) ∷ []))) ∷ (stmt 36 (OblivIf' (expr 46 (Named (codes "c"))) tt (part 49 (While' (expr 56 n1) tt (part 59 (Return None)))) None')) ∷ []))) ∷ []) 68

broken3 : Breaks source3 F4 59
unfolding next typed_program typed_value typed_alone first_fault hidden-the_row-TExpr-0 hidden-the_row-TExpr-1 hidden-the_row-TPlace-2 hidden-the_row-TStmt-0 hidden-the_row-TStmt-1 hidden-the_row-CType-0 hidden
broken3 = refl

-- void oc_main(void) { obliv bool c; while (1) obliv if (c) break; }
abbrev source4 : Program
source4 = source [] ((function 6 (codes "oc_main") None [] false (Some ((stmt 22 (Declare ((declared (field 33 (codes "c") (hidden_base 22 KBool) 0 []) None) ∷ []))) ∷ (stmt 36 (While' (expr 43 n1) tt (part 46 (OblivIf' (expr 56 (Named (codes "c"))) tt (part 59 Break) None')))) ∷ []))) ∷ []) 67

broken4 : Breaks source4 F4 59
unfolding next typed_program typed_value typed_alone first_fault hidden-the_row-TExpr-0 hidden-the_row-TExpr-1 hidden-the_row-TPlace-2 hidden-the_row-TStmt-0 hidden-the_row-TStmt-1 hidden-the_row-CType-0 hidden
broken4 = refl

-- void oc_main(void) { obliv bool c; while (1) { obliv if (c) ; else { continue; } } }
abbrev source5 : Program
source5 = source [] ((function 6 (codes "oc_main") None [] false (Some ((stmt 22 (Declare ((declared (field 33 (codes "c") (hidden_base 22 KBool) 0 []) None) ∷ []))) ∷ (stmt 36 (While' (expr 43 n1) tt (part 46 (Block' (tt ∷ []) (more_of-Stmt (at 48) (OblivIf' (expr 58 (Named (codes "c"))) tt (part 61 Empty) (Some' tt (part 68 (Block' (tt ∷ []) (more_of-Stmt (at 70) Continue end_of-Stmt))))) end_of-Stmt))))) ∷ []))) ∷ []) 85

broken5 : Breaks source5 F4 70
unfolding next typed_program typed_value typed_alone first_fault hidden-the_row-TExpr-0 hidden-the_row-TExpr-1 hidden-the_row-TPlace-2 hidden-the_row-TStmt-0 hidden-the_row-TStmt-1 hidden-the_row-CType-0 hidden
broken5 = refl

-- void oc_main(void) { obliv bool c; obliv if (c) while (1) { break; continue; } }
abbrev source6 : Program
source6 = source [] ((function 6 (codes "oc_main") None [] false (Some ((stmt 22 (Declare ((declared (field 33 (codes "c") (hidden_base 22 KBool) 0 []) None) ∷ []))) ∷ (stmt 36 (OblivIf' (expr 46 (Named (codes "c"))) tt (part 49 (While' (expr 56 n1) tt (part 59 (Block' (tt ∷ tt ∷ []) (more_of-Stmt (at 61) Break (more_of-Stmt (at 68) Continue end_of-Stmt)))))) None')) ∷ []))) ∷ []) 81

kept6 : Keeps source6
unfolding next typed_program typed_value typed_alone first_fault hidden-the_row-TExpr-0 hidden-the_row-TExpr-1 hidden-the_row-TPlace-2 hidden-the_row-TStmt-0 hidden-the_row-TStmt-1 hidden-the_row-CType-0 hidden
kept6 = refl

-- void oc_main(void) { obliv bool c; while (1) { obliv if (c) ; break; } }
abbrev source7 : Program
source7 = source [] ((function 6 (codes "oc_main") None [] false (Some ((stmt 22 (Declare ((declared (field 33 (codes "c") (hidden_base 22 KBool) 0 []) None) ∷ []))) ∷ (stmt 36 (While' (expr 43 n1) tt (part 46 (Block' (tt ∷ tt ∷ []) (more_of-Stmt (at 48) (OblivIf' (expr 58 (Named (codes "c"))) tt (part 61 Empty) None') (more_of-Stmt (at 63) Break end_of-Stmt)))))) ∷ []))) ∷ []) 73

kept7 : Keeps source7
unfolding next typed_program typed_value typed_alone first_fault hidden-the_row-TExpr-0 hidden-the_row-TExpr-1 hidden-the_row-TPlace-2 hidden-the_row-TStmt-0 hidden-the_row-TStmt-1 hidden-the_row-CType-0 hidden
kept7 = refl

-- void oc_main(void) { for (;;) ~obliv(m) { break; } }
abbrev source8 : Program
source8 = source [] ((function 6 (codes "oc_main") None [] false (Some ((stmt 22 (For' begin.Nothing None None tt (part 31 (Always' (codes "m") tt (part 41 (Block' (tt ∷ []) (more_of-Stmt (at 43) Break end_of-Stmt))))))) ∷ []))) ∷ []) 53

broken8 : Breaks source8 F4 43
unfolding next typed_program typed_value typed_alone first_fault hidden-the_row-TExpr-0 hidden-the_row-TExpr-1 hidden-the_row-TPlace-2 hidden-the_row-TStmt-0 hidden-the_row-TStmt-1 hidden-the_row-CType-0 hidden
broken8 = refl

-- void oc_main(void) { ~obliv(m) { for (;;) { continue; } } }
abbrev source9 : Program
source9 = source [] ((function 6 (codes "oc_main") None [] false (Some ((stmt 22 (Always' (codes "m") tt (part 32 (Block' (tt ∷ []) (more_of-Stmt (at 34) (For' begin.Nothing None None tt (part 43 (Block' (tt ∷ []) (more_of-Stmt (at 45) Continue end_of-Stmt)))) end_of-Stmt))))) ∷ []))) ∷ []) 60

kept9 : Keeps source9
unfolding next typed_program typed_value typed_alone first_fault hidden-the_row-TExpr-0 hidden-the_row-TExpr-1 hidden-the_row-TPlace-2 hidden-the_row-TStmt-0 hidden-the_row-TStmt-1 hidden-the_row-CType-0 hidden
kept9 = refl

-- void oc_main(void) { obliv bool c; obliv if (c) while (1) ~obliv(m) { break; } }
abbrev source10 : Program
source10 = source [] ((function 6 (codes "oc_main") None [] false (Some ((stmt 22 (Declare ((declared (field 33 (codes "c") (hidden_base 22 KBool) 0 []) None) ∷ []))) ∷ (stmt 36 (OblivIf' (expr 46 (Named (codes "c"))) tt (part 49 (While' (expr 56 n1) tt (part 59 (Always' (codes "m") tt (part 69 (Block' (tt ∷ []) (more_of-Stmt (at 71) Break end_of-Stmt))))))) None')) ∷ []))) ∷ []) 81

broken10 : Breaks source10 F4 71
unfolding next typed_program typed_value typed_alone first_fault hidden-the_row-TExpr-0 hidden-the_row-TExpr-1 hidden-the_row-TPlace-2 hidden-the_row-TStmt-0 hidden-the_row-TStmt-1 hidden-the_row-CType-0 hidden
broken10 = refl

-- int f(int n) { obliv bool c; obliv if (c) return n = 1; return 0; } void oc_main(void) { }
abbrev source11 : Program
source11 = source [] ((function 5 (codes "f") (Some (record { base = (plain 1 I32); stars = 0 })) ((param 11 (codes "n") (plain 7 I32) 0 array.Plain) ∷ []) false (Some ((stmt 16 (Declare ((declared (field 27 (codes "c") (hidden_base 16 KBool) 0 []) None) ∷ []))) ∷ (stmt 30 (OblivIf' (expr 40 (Named (codes "c"))) tt (part 43 (Return (Some (expr 50 (Assign' None tt (one 50 (Named (codes "n"))) tt (one 54 n1)))))) None')) ∷ (stmt 57 (Return (Some (expr 64 n0)))) ∷ []))) ∷ (function 74 (codes "oc_main") None [] false (Some [])) ∷ []) 91

broken11 : Breaks source11 F1 50
unfolding next typed_program typed_value typed_alone first_fault hidden-the_row-TExpr-0 hidden-the_row-TExpr-1 hidden-the_row-TPlace-2 hidden-the_row-TStmt-0 hidden-the_row-TStmt-1 hidden-the_row-CType-0 hidden
broken11 = refl
