-- A source whose run ends for want of dealt transfers.
-- What its run shows and its events were made by an independent model.
use Rattle.std.proofs.Common.{refl, pos, negsuc, [], ◌∷◌, Some, None, true, false}
use Rattle.std.specs.Prelude.{codes}
use Rattle.oc_values.specs.declared.integers.IntKind.TheVariants.{Bool as KBool, I16, I32, U32, I64, U64}
use Rattle.oc_values.specs.declared.integers.BinaryOp.TheVariants.{Add, Sub, Mul, Div, Rem, Shl, Shr, And, Or, Xor, Less, LessEq, Greater, GreaterEq, Equal, NotEqual}
use Rattle.oc_cells.specs.declared.types.CType.TheBlock.{hidden-the_row-CType-0}
use denote.Hole.Carrier.{hidden}
use Rattle.oc_source.specs.declared.parsed.BaseKind.TheVariants as base
use Rattle.oc_source.specs.declared.parsed.UnaryOp.TheVariants.{Neg, Plus, Not, Flip, Address}
use Rattle.oc_source.specs.declared.parsed.Expr.{roll-Expr}
use Rattle.oc_source.specs.declared.parsed.ExprNode.{Number, Text, Named, Unary', Bump', Binary', Logic', Choose', Assign', Call', Cast', end_of-Expr, more_of-Expr}
use Rattle.oc_source.specs.declared.parsed.Stmt.{roll-Stmt}
use Rattle.oc_source.specs.declared.parsed.StmtNode.{Declare, Express, Block', If', OblivIf', For', end_of-Stmt, more_of-Stmt, None', Some'}
use Rattle.oc_source.specs.declared.parsed.ForInit.TheVariants as begin
use Rattle.oc_source.specs.declared.parsed.Program.{Program}
use Rattle.type_rules.specs.Judging.{next}
use Rattle.type_rules.specs.Rules.{typed_value, typed_alone}
use Rattle.type_rules.specs.ProgramRules.{typed_program}
use Rattle.std.specs.Fmt.{digits}
use Rattle.oc_typed.specs.declared.typed.TExprNode.TheBlock.{hidden-the_row-TExpr-0, hidden-the_row-TExpr-1, hidden-the_row-TPlace-2}
use Rattle.oc_typed.specs.declared.typed.TStmtNode.TheBlock.{hidden-the_row-TStmt-0, hidden-the_row-TStmt-1}
use Rattle.oc_walk.specs.declared.run.ClearSetup.{ClearSetup}
use Rattle.oc_walk.specs.declared.run.Outcome.TheVariants.{DealtSpent}
use Rattle.sampled_sources.proofs.Means.{Means, Makes, Passes}

abbrev source : Program
source = record { structs = ((record { spot = record { line = 3; column = 8 }; name = (codes "S1"); fields = ((record { spot = record { line = 3; column = 24 }; name = (codes "m2"); base = record { spot = record { line = 3; column = 13 }; frozen = false; obliv = false; kind = (base.Struct (codes "S1")) }; stars = 1; dims = [] }) ∷ []) }) ∷ []); functions = ((record { spot = record { line = 4; column = 6 }; name = (codes "oc_main"); result = None; params = []; obliv = false; body = (Some ((roll-Stmt (record { spot = record { line = 5; column = 3 }; node = (Declare ((record { field = record { spot = record { line = 5; column = 13 }; name = (codes "f3"); base = record { spot = record { line = 5; column = 3 }; frozen = false; obliv = true; kind = (base.Int I32) }; stars = 0; dims = [] }; init = (Some (roll-Expr (record { spot = record { line = 5; column = 18 }; node = (Call' (codes "feedOblivInt") (tt ∷ tt ∷ []) (more_of-Expr (record { line = 5; column = 31 }) (Call' (codes "ocPrivate") (tt ∷ []) (more_of-Expr (record { line = 5; column = 41 }) (Number (record { kind = I32; value = 0; of_kind = refl })) end_of-Expr)) (more_of-Expr (record { line = 5; column = 45 }) (Number (record { kind = I32; value = 2; of_kind = refl })) end_of-Expr))) }))) }) ∷ [])) })) ∷ (roll-Stmt (record { spot = record { line = 6; column = 3 }; node = (Declare ((record { field = record { spot = record { line = 6; column = 13 }; name = (codes "f4"); base = record { spot = record { line = 6; column = 3 }; frozen = false; obliv = true; kind = (base.Int I32) }; stars = 0; dims = [] }; init = (Some (roll-Expr (record { spot = record { line = 6; column = 18 }; node = (Call' (codes "feedOblivInt") (tt ∷ tt ∷ []) (more_of-Expr (record { line = 6; column = 31 }) (Call' (codes "ocPrivate") (tt ∷ []) (more_of-Expr (record { line = 6; column = 41 }) (Number (record { kind = I32; value = 0; of_kind = refl })) end_of-Expr)) (more_of-Expr (record { line = 6; column = 45 }) (Number (record { kind = I32; value = 1; of_kind = refl })) end_of-Expr))) }))) }) ∷ [])) })) ∷ (roll-Stmt (record { spot = record { line = 7; column = 3 }; node = (Declare ((record { field = record { spot = record { line = 7; column = 15 }; name = (codes "f5"); base = record { spot = record { line = 7; column = 3 }; frozen = false; obliv = true; kind = (base.Int KBool) }; stars = 0; dims = [] }; init = (Some (roll-Expr (record { spot = record { line = 7; column = 20 }; node = (Call' (codes "feedOblivBool") (tt ∷ tt ∷ []) (more_of-Expr (record { line = 7; column = 34 }) (Call' (codes "ocPrivate") (tt ∷ []) (more_of-Expr (record { line = 7; column = 44 }) (Number (record { kind = I32; value = 0; of_kind = refl })) end_of-Expr)) (more_of-Expr (record { line = 7; column = 48 }) (Number (record { kind = I32; value = 1; of_kind = refl })) end_of-Expr))) }))) }) ∷ [])) })) ∷ (roll-Stmt (record { spot = record { line = 8; column = 3 }; node = (Express (roll-Expr (record { spot = record { line = 8; column = 3 }; node = (Assign' None tt (more_of-Expr (record { line = 8; column = 3 }) (Named (codes "f3")) end_of-Expr) tt (more_of-Expr (record { line = 8; column = 9 }) (Assign' (Some Add) tt (more_of-Expr (record { line = 8; column = 9 }) (Named (codes "f3")) end_of-Expr) tt (more_of-Expr (record { line = 8; column = 15 }) (Binary' Equal tt (more_of-Expr (record { line = 8; column = 16 }) (Binary' And tt (more_of-Expr (record { line = 8; column = 16 }) (Named (codes "f5")) end_of-Expr) tt (more_of-Expr (record { line = 8; column = 21 }) (Number (record { kind = I32; value = 5; of_kind = refl })) end_of-Expr)) end_of-Expr) tt (more_of-Expr (record { line = 8; column = 28 }) (Binary' Rem tt (more_of-Expr (record { line = 8; column = 28 }) (Named (codes "f3")) end_of-Expr) tt (more_of-Expr (record { line = 8; column = 33 }) (Number (record { kind = I32; value = 8; of_kind = refl })) end_of-Expr)) end_of-Expr)) end_of-Expr)) end_of-Expr)) }))) })) ∷ (roll-Stmt (record { spot = record { line = 9; column = 3 }; node = (OblivIf' (roll-Expr (record { spot = record { line = 9; column = 13 }; node = (Named (codes "f4")) })) tt (more_of-Stmt (record { line = 10; column = 3 }) (Block' (tt ∷ tt ∷ tt ∷ []) (more_of-Stmt (record { line = 11; column = 5 }) (Express (roll-Expr (record { spot = record { line = 11; column = 5 }; node = (Assign' None tt (more_of-Expr (record { line = 11; column = 5 }) (Named (codes "f4")) end_of-Expr) tt (more_of-Expr (record { line = 11; column = 10 }) (Binary' Shl tt (more_of-Expr (record { line = 11; column = 12 }) (Choose' tt (more_of-Expr (record { line = 11; column = 14 }) (Choose' tt (more_of-Expr (record { line = 11; column = 14 }) (Number (record { kind = I32; value = 8; of_kind = refl })) end_of-Expr) tt (more_of-Expr (record { line = 11; column = 18 }) (Number (record { kind = I32; value = 1; of_kind = refl })) end_of-Expr) tt (more_of-Expr (record { line = 11; column = 25 }) (Number (record { kind = I32; value = 0; of_kind = refl })) end_of-Expr)) end_of-Expr) tt (more_of-Expr (record { line = 11; column = 31 }) (Number (record { kind = I32; value = 12; of_kind = refl })) end_of-Expr) tt (more_of-Expr (record { line = 11; column = 36 }) (Named (codes "f3")) end_of-Expr)) end_of-Expr) tt (more_of-Expr (record { line = 11; column = 45 }) (Binary' Div tt (more_of-Expr (record { line = 11; column = 45 }) (Binary' Div tt (more_of-Expr (record { line = 11; column = 46 }) (Number (record { kind = I32; value = 97; of_kind = refl })) end_of-Expr) tt (more_of-Expr (record { line = 11; column = 54 }) (Binary' Add tt (more_of-Expr (record { line = 11; column = 55 }) (Binary' And tt (more_of-Expr (record { line = 11; column = 55 }) (Number (record { kind = I32; value = 10; of_kind = refl })) end_of-Expr) tt (more_of-Expr (record { line = 11; column = 60 }) (Number (record { kind = I32; value = 7; of_kind = refl })) end_of-Expr)) end_of-Expr) tt (more_of-Expr (record { line = 11; column = 65 }) (Number (record { kind = I32; value = 3; of_kind = refl })) end_of-Expr)) end_of-Expr)) end_of-Expr) tt (more_of-Expr (record { line = 11; column = 71 }) (Binary' Add tt (more_of-Expr (record { line = 11; column = 72 }) (Binary' And tt (more_of-Expr (record { line = 11; column = 72 }) (Binary' Add tt (more_of-Expr (record { line = 11; column = 72 }) (Number (record { kind = I64; value = 32768; of_kind = refl })) end_of-Expr) tt (more_of-Expr (record { line = 11; column = 84 }) (Number (record { kind = I32; value = 0; of_kind = refl })) end_of-Expr)) end_of-Expr) tt (more_of-Expr (record { line = 11; column = 88 }) (Number (record { kind = I32; value = 7; of_kind = refl })) end_of-Expr)) end_of-Expr) tt (more_of-Expr (record { line = 11; column = 93 }) (Number (record { kind = I32; value = 3; of_kind = refl })) end_of-Expr)) end_of-Expr)) end_of-Expr)) end_of-Expr)) }))) (more_of-Stmt (record { line = 12; column = 5 }) (Declare ((record { field = record { spot = record { line = 12; column = 15 }; name = (codes "s6"); base = record { spot = record { line = 12; column = 5 }; frozen = false; obliv = false; kind = (base.Struct (codes "S1")) }; stars = 0; dims = [] }; init = None }) ∷ [])) (more_of-Stmt (record { line = 13; column = 5 }) (Express (roll-Expr (record { spot = record { line = 13; column = 5 }; node = (Assign' None tt (more_of-Expr (record { line = 13; column = 5 }) (Named (codes "f3")) end_of-Expr) tt (more_of-Expr (record { line = 13; column = 10 }) (Unary' Neg tt (more_of-Expr (record { line = 13; column = 12 }) (Logic' false tt (more_of-Expr (record { line = 13; column = 14 }) (Choose' tt (more_of-Expr (record { line = 13; column = 14 }) (Number (record { kind = I32; value = 33; of_kind = refl })) end_of-Expr) tt (more_of-Expr (record { line = 13; column = 19 }) (Named (codes "f4")) end_of-Expr) tt (more_of-Expr (record { line = 13; column = 24 }) (Named (codes "f3")) end_of-Expr)) end_of-Expr) tt (more_of-Expr (record { line = 13; column = 32 }) (Named (codes "f3")) end_of-Expr)) end_of-Expr)) end_of-Expr)) }))) end_of-Stmt)))) end_of-Stmt) None') })) ∷ (roll-Stmt (record { spot = record { line = 15; column = 3 }; node = (Express (roll-Expr (record { spot = record { line = 15; column = 3 }; node = (Assign' (Some Div) tt (more_of-Expr (record { line = 15; column = 3 }) (Named (codes "f4")) end_of-Expr) tt (more_of-Expr (record { line = 15; column = 9 }) (Logic' false tt (more_of-Expr (record { line = 15; column = 9 }) (Binary' Xor tt (more_of-Expr (record { line = 15; column = 9 }) (Named (codes "f4")) end_of-Expr) tt (more_of-Expr (record { line = 15; column = 14 }) (Number (record { kind = I32; value = 5; of_kind = refl })) end_of-Expr)) end_of-Expr) tt (more_of-Expr (record { line = 15; column = 19 }) (Named (codes "f4")) end_of-Expr)) end_of-Expr)) }))) })) ∷ (roll-Stmt (record { spot = record { line = 16; column = 3 }; node = (Express (roll-Expr (record { spot = record { line = 16; column = 3 }; node = (Assign' None tt (more_of-Expr (record { line = 16; column = 3 }) (Named (codes "f3")) end_of-Expr) tt (more_of-Expr (record { line = 16; column = 8 }) (Binary' Greater tt (more_of-Expr (record { line = 16; column = 10 }) (Choose' tt (more_of-Expr (record { line = 16; column = 11 }) (Binary' Rem tt (more_of-Expr (record { line = 16; column = 11 }) (Number (record { kind = I32; value = 5; of_kind = refl })) end_of-Expr) tt (more_of-Expr (record { line = 16; column = 15 }) (Number (record { kind = I32; value = 8; of_kind = refl })) end_of-Expr)) end_of-Expr) tt (more_of-Expr (record { line = 16; column = 21 }) (Bump' true true tt (more_of-Expr (record { line = 16; column = 23 }) (Named (codes "f3")) end_of-Expr)) end_of-Expr) tt (more_of-Expr (record { line = 16; column = 29 }) (Logic' false tt (more_of-Expr (record { line = 16; column = 29 }) (Number (record { kind = I64; value = 9223372036854775807; of_kind = refl })) end_of-Expr) tt (more_of-Expr (record { line = 16; column = 51 }) (Number (record { kind = I32; value = 3; of_kind = refl })) end_of-Expr)) end_of-Expr)) end_of-Expr) tt (more_of-Expr (record { line = 16; column = 58 }) (Binary' Shl tt (more_of-Expr (record { line = 16; column = 58 }) (Unary' Not tt (more_of-Expr (record { line = 16; column = 59 }) (Named (codes "f3")) end_of-Expr)) end_of-Expr) tt (more_of-Expr (record { line = 16; column = 66 }) (Number (record { kind = U64; value = 65535; of_kind = refl })) end_of-Expr)) end_of-Expr)) end_of-Expr)) }))) })) ∷ (roll-Stmt (record { spot = record { line = 17; column = 3 }; node = (If' (roll-Expr (record { spot = record { line = 17; column = 7 }; node = (Number (record { kind = I32; value = 1; of_kind = refl })) })) tt (more_of-Stmt (record { line = 18; column = 3 }) (Block' (tt ∷ tt ∷ tt ∷ []) (more_of-Stmt (record { line = 19; column = 5 }) (Express (roll-Expr (record { spot = record { line = 19; column = 5 }; node = (Assign' None tt (more_of-Expr (record { line = 19; column = 5 }) (Named (codes "f4")) end_of-Expr) tt (more_of-Expr (record { line = 19; column = 10 }) (Binary' Sub tt (more_of-Expr (record { line = 19; column = 11 }) (Unary' Not tt (more_of-Expr (record { line = 19; column = 12 }) (Named (codes "f3")) end_of-Expr)) end_of-Expr) tt (more_of-Expr (record { line = 19; column = 19 }) (Unary' Not tt (more_of-Expr (record { line = 19; column = 20 }) (Named (codes "f5")) end_of-Expr)) end_of-Expr)) end_of-Expr)) }))) (more_of-Stmt (record { line = 20; column = 5 }) (Express (roll-Expr (record { spot = record { line = 20; column = 5 }; node = (Assign' None tt (more_of-Expr (record { line = 20; column = 5 }) (Named (codes "f5")) end_of-Expr) tt (more_of-Expr (record { line = 20; column = 10 }) (Logic' true tt (more_of-Expr (record { line = 20; column = 10 }) (Named (codes "f4")) end_of-Expr) tt (more_of-Expr (record { line = 20; column = 17 }) (Call' (codes "ocPublicCount") ([]) end_of-Expr) end_of-Expr)) end_of-Expr)) }))) (more_of-Stmt (record { line = 21; column = 5 }) (Declare ((record { field = record { spot = record { line = 21; column = 30 }; name = (codes "v7"); base = record { spot = record { line = 21; column = 5 }; frozen = false; obliv = true; kind = (base.Int U64) }; stars = 0; dims = [] }; init = (Some (roll-Expr (record { spot = record { line = 21; column = 35 }; node = (Unary' Plus tt (more_of-Expr (record { line = 21; column = 37 }) (Binary' Less tt (more_of-Expr (record { line = 21; column = 37 }) (Named (codes "f3")) end_of-Expr) tt (more_of-Expr (record { line = 21; column = 42 }) (Named (codes "f4")) end_of-Expr)) end_of-Expr)) }))) }) ∷ (record { field = record { spot = record { line = 21; column = 47 }; name = (codes "v8"); base = record { spot = record { line = 21; column = 5 }; frozen = false; obliv = true; kind = (base.Int U64) }; stars = 0; dims = [] }; init = (Some (roll-Expr (record { spot = record { line = 21; column = 52 }; node = (Call' (codes "ocPrivateCount") (tt ∷ []) (more_of-Expr (record { line = 21; column = 67 }) (Number (record { kind = I32; value = 2; of_kind = refl })) end_of-Expr)) }))) }) ∷ [])) end_of-Stmt)))) end_of-Stmt) (Some' tt (more_of-Stmt (record { line = 24; column = 3 }) (Block' (tt ∷ tt ∷ tt ∷ []) (more_of-Stmt (record { line = 25; column = 5 }) (For' (begin.Declare ((record { field = record { spot = record { line = 25; column = 14 }; name = (codes "i9"); base = record { spot = record { line = 25; column = 10 }; frozen = false; obliv = false; kind = (base.Int I32) }; stars = 0; dims = [] }; init = (Some (roll-Expr (record { spot = record { line = 25; column = 19 }; node = (Number (record { kind = I32; value = 0; of_kind = refl })) }))) }) ∷ [])) (Some (roll-Expr (record { spot = record { line = 25; column = 22 }; node = (Binary' Less tt (more_of-Expr (record { line = 25; column = 22 }) (Named (codes "i9")) end_of-Expr) tt (more_of-Expr (record { line = 25; column = 27 }) (Number (record { kind = I32; value = 3; of_kind = refl })) end_of-Expr)) }))) (Some (roll-Expr (record { spot = record { line = 25; column = 30 }; node = (Bump' true true tt (more_of-Expr (record { line = 25; column = 32 }) (Named (codes "i9")) end_of-Expr)) }))) tt (more_of-Stmt (record { line = 26; column = 5 }) (Block' (tt ∷ tt ∷ tt ∷ []) (more_of-Stmt (record { line = 27; column = 7 }) (OblivIf' (roll-Expr (record { spot = record { line = 27; column = 17 }; node = (Logic' true tt (more_of-Expr (record { line = 27; column = 19 }) (Choose' tt (more_of-Expr (record { line = 27; column = 19 }) (Number (record { kind = I32; value = 32768; of_kind = refl })) end_of-Expr) tt (more_of-Expr (record { line = 27; column = 28 }) (Number (record { kind = I32; value = 2; of_kind = refl })) end_of-Expr) tt (more_of-Expr (record { line = 27; column = 32 }) (Number (record { kind = I32; value = 1; of_kind = refl })) end_of-Expr)) end_of-Expr) tt (more_of-Expr (record { line = 27; column = 40 }) (Unary' Flip tt (more_of-Expr (record { line = 27; column = 41 }) (Named (codes "i9")) end_of-Expr)) end_of-Expr)) })) tt (more_of-Stmt (record { line = 28; column = 7 }) (Block' (tt ∷ []) (more_of-Stmt (record { line = 29; column = 9 }) (Express (roll-Expr (record { spot = record { line = 29; column = 9 }; node = (Assign' (Some Shl) tt (more_of-Expr (record { line = 29; column = 9 }) (Named (codes "f3")) end_of-Expr) tt (more_of-Expr (record { line = 29; column = 16 }) (Binary' Shl tt (more_of-Expr (record { line = 29; column = 16 }) (Named (codes "f5")) end_of-Expr) tt (more_of-Expr (record { line = 29; column = 23 }) (Number (record { kind = I32; value = 32767; of_kind = refl })) end_of-Expr)) end_of-Expr)) }))) end_of-Stmt)) end_of-Stmt) (Some' tt (more_of-Stmt (record { line = 32; column = 7 }) (Block' (tt ∷ tt ∷ []) (more_of-Stmt (record { line = 33; column = 9 }) (Declare ((record { field = record { spot = record { line = 33; column = 24 }; name = (codes "v10"); base = record { spot = record { line = 33; column = 9 }; frozen = false; obliv = true; kind = (base.Int U32) }; stars = 0; dims = [] }; init = (Some (roll-Expr (record { spot = record { line = 33; column = 30 }; node = (Binary' Or tt (more_of-Expr (record { line = 33; column = 30 }) (Binary' LessEq tt (more_of-Expr (record { line = 33; column = 30 }) (Number (record { kind = I32; value = 0; of_kind = refl })) end_of-Expr) tt (more_of-Expr (record { line = 33; column = 39 }) (Named (codes "f3")) end_of-Expr)) end_of-Expr) tt (more_of-Expr (record { line = 33; column = 44 }) (Named (codes "f5")) end_of-Expr)) }))) }) ∷ [])) (more_of-Stmt (record { line = 34; column = 9 }) (Declare ((record { field = record { spot = record { line = 34; column = 19 }; name = (codes "v11"); base = record { spot = record { line = 34; column = 9 }; frozen = false; obliv = true; kind = (base.Int I32) }; stars = 0; dims = [] }; init = (Some (roll-Expr (record { spot = record { line = 34; column = 25 }; node = (Unary' Flip tt (more_of-Expr (record { line = 34; column = 27 }) (Cast' (record { base = record { spot = record { line = 34; column = 28 }; frozen = false; obliv = true; kind = (base.Int I32) }; stars = 0 }) tt (more_of-Expr (record { line = 34; column = 38 }) (Named (codes "i9")) end_of-Expr)) end_of-Expr)) }))) }) ∷ [])) end_of-Stmt))) end_of-Stmt))) (more_of-Stmt (record { line = 36; column = 7 }) (Block' (tt ∷ []) (more_of-Stmt (record { line = 37; column = 9 }) (OblivIf' (roll-Expr (record { spot = record { line = 37; column = 19 }; node = (Named (codes "f5")) })) tt (more_of-Stmt (record { line = 38; column = 9 }) (Block' (tt ∷ tt ∷ tt ∷ []) (more_of-Stmt (record { line = 39; column = 11 }) (Express (roll-Expr (record { spot = record { line = 39; column = 11 }; node = (Assign' None tt (more_of-Expr (record { line = 39; column = 11 }) (Named (codes "f3")) end_of-Expr) tt (more_of-Expr (record { line = 39; column = 16 }) (Logic' false tt (more_of-Expr (record { line = 39; column = 17 }) (Binary' Shr tt (more_of-Expr (record { line = 39; column = 19 }) (Choose' tt (more_of-Expr (record { line = 39; column = 19 }) (Number (record { kind = I32; value = 129; of_kind = refl })) end_of-Expr) tt (more_of-Expr (record { line = 39; column = 25 }) (Number (record { kind = I32; value = 255; of_kind = refl })) end_of-Expr) tt (more_of-Expr (record { line = 39; column = 31 }) (Named (codes "f4")) end_of-Expr)) end_of-Expr) tt (more_of-Expr (record { line = 39; column = 40 }) (Binary' Mul tt (more_of-Expr (record { line = 39; column = 40 }) (Named (codes "i9")) end_of-Expr) tt (more_of-Expr (record { line = 39; column = 45 }) (Named (codes "i9")) end_of-Expr)) end_of-Expr)) end_of-Expr) tt (more_of-Expr (record { line = 39; column = 54 }) (Cast' (record { base = record { spot = record { line = 39; column = 55 }; frozen = false; obliv = true; kind = (base.Int I32) }; stars = 0 }) tt (more_of-Expr (record { line = 39; column = 66 }) (Binary' LessEq tt (more_of-Expr (record { line = 39; column = 66 }) (Number (record { kind = I32; value = 1; of_kind = refl })) end_of-Expr) tt (more_of-Expr (record { line = 39; column = 71 }) (Number (record { kind = I64; value = 9223372036854775807; of_kind = refl })) end_of-Expr)) end_of-Expr)) end_of-Expr)) end_of-Expr)) }))) (more_of-Stmt (record { line = 40; column = 11 }) (Express (roll-Expr (record { spot = record { line = 40; column = 11 }; node = (Assign' None tt (more_of-Expr (record { line = 40; column = 11 }) (Named (codes "f4")) end_of-Expr) tt (more_of-Expr (record { line = 40; column = 16 }) (Binary' Xor tt (more_of-Expr (record { line = 40; column = 16 }) (Binary' Sub tt (more_of-Expr (record { line = 40; column = 17 }) (Binary' Xor tt (more_of-Expr (record { line = 40; column = 18 }) (Binary' Add tt (more_of-Expr (record { line = 40; column = 18 }) (Number (record { kind = I32; value = 16; of_kind = refl })) end_of-Expr) tt (more_of-Expr (record { line = 40; column = 23 }) (Named (codes "f3")) end_of-Expr)) end_of-Expr) tt (more_of-Expr (record { line = 40; column = 29 }) (Named (codes "f5")) end_of-Expr)) end_of-Expr) tt (more_of-Expr (record { line = 40; column = 35 }) (Named (codes "f3")) end_of-Expr)) end_of-Expr) tt (more_of-Expr (record { line = 40; column = 40 }) (Binary' GreaterEq tt (more_of-Expr (record { line = 40; column = 40 }) (Named (codes "f3")) end_of-Expr) tt (more_of-Expr (record { line = 40; column = 46 }) (Named (codes "i9")) end_of-Expr)) end_of-Expr)) end_of-Expr)) }))) (more_of-Stmt (record { line = 41; column = 11 }) (Express (roll-Expr (record { spot = record { line = 41; column = 11 }; node = (Assign' None tt (more_of-Expr (record { line = 41; column = 11 }) (Named (codes "f5")) end_of-Expr) tt (more_of-Expr (record { line = 41; column = 16 }) (Named (codes "i9")) end_of-Expr)) }))) end_of-Stmt)))) end_of-Stmt) None') end_of-Stmt)) (more_of-Stmt (record { line = 44; column = 7 }) (Express (roll-Expr (record { spot = record { line = 44; column = 7 }; node = (Assign' (Some Add) tt (more_of-Expr (record { line = 44; column = 7 }) (Named (codes "f3")) end_of-Expr) tt (more_of-Expr (record { line = 44; column = 13 }) (Bump' true false tt (more_of-Expr (record { line = 44; column = 13 }) (Named (codes "f5")) end_of-Expr)) end_of-Expr)) }))) end_of-Stmt)))) end_of-Stmt)) (more_of-Stmt (record { line = 46; column = 5 }) (Express (roll-Expr (record { spot = record { line = 46; column = 5 }; node = (Assign' None tt (more_of-Expr (record { line = 46; column = 5 }) (Named (codes "f4")) end_of-Expr) tt (more_of-Expr (record { line = 46; column = 10 }) (Cast' (record { base = record { spot = record { line = 46; column = 11 }; frozen = false; obliv = true; kind = (base.Int I32) }; stars = 0 }) tt (more_of-Expr (record { line = 46; column = 22 }) (Call' (codes "ocPrivateCount") (tt ∷ []) (more_of-Expr (record { line = 46; column = 37 }) (Number (record { kind = I32; value = 2; of_kind = refl })) end_of-Expr)) end_of-Expr)) end_of-Expr)) }))) (more_of-Stmt (record { line = 47; column = 5 }) (Express (roll-Expr (record { spot = record { line = 47; column = 5 }; node = (Assign' (Some Mul) tt (more_of-Expr (record { line = 47; column = 5 }) (Named (codes "f4")) end_of-Expr) tt (more_of-Expr (record { line = 47; column = 11 }) (Number (record { kind = I32; value = 0; of_kind = refl })) end_of-Expr)) }))) end_of-Stmt)))) end_of-Stmt))) })) ∷ (roll-Stmt (record { spot = record { line = 49; column = 3 }; node = (If' (roll-Expr (record { spot = record { line = 49; column = 7 }; node = (Binary' Div tt (more_of-Expr (record { line = 49; column = 8 }) (Cast' (record { base = record { spot = record { line = 49; column = 9 }; frozen = false; obliv = false; kind = (base.Int I32) }; stars = 0 }) tt (more_of-Expr (record { line = 49; column = 13 }) (Number (record { kind = I32; value = 2147483647; of_kind = refl })) end_of-Expr)) end_of-Expr) tt (more_of-Expr (record { line = 49; column = 27 }) (Number (record { kind = I32; value = 2; of_kind = refl })) end_of-Expr)) })) tt (more_of-Stmt (record { line = 50; column = 3 }) (Block' (tt ∷ tt ∷ []) (more_of-Stmt (record { line = 51; column = 5 }) (OblivIf' (roll-Expr (record { spot = record { line = 51; column = 15 }; node = (Binary' NotEqual tt (more_of-Expr (record { line = 51; column = 15 }) (Cast' (record { base = record { spot = record { line = 51; column = 16 }; frozen = false; obliv = true; kind = (base.Int U32) }; stars = 0 }) tt (more_of-Expr (record { line = 51; column = 31 }) (Named (codes "f4")) end_of-Expr)) end_of-Expr) tt (more_of-Expr (record { line = 51; column = 37 }) (Named (codes "f3")) end_of-Expr)) })) tt (more_of-Stmt (record { line = 52; column = 5 }) (Block' (tt ∷ tt ∷ []) (more_of-Stmt (record { line = 53; column = 7 }) (Express (roll-Expr (record { spot = record { line = 53; column = 7 }; node = (Binary' Or tt (more_of-Expr (record { line = 53; column = 8 }) (Binary' NotEqual tt (more_of-Expr (record { line = 53; column = 8 }) (Named (codes "f3")) end_of-Expr) tt (more_of-Expr (record { line = 53; column = 14 }) (Named (codes "f4")) end_of-Expr)) end_of-Expr) tt (more_of-Expr (record { line = 53; column = 20 }) (Cast' (record { base = record { spot = record { line = 53; column = 21 }; frozen = false; obliv = true; kind = (base.Int I16) }; stars = 0 }) tt (more_of-Expr (record { line = 53; column = 40 }) (Number (record { kind = I32; value = 64; of_kind = refl })) end_of-Expr)) end_of-Expr)) }))) (more_of-Stmt (record { line = 54; column = 7 }) (For' (begin.Declare ((record { field = record { spot = record { line = 54; column = 16 }; name = (codes "i12"); base = record { spot = record { line = 54; column = 12 }; frozen = false; obliv = false; kind = (base.Int I32) }; stars = 0; dims = [] }; init = (Some (roll-Expr (record { spot = record { line = 54; column = 22 }; node = (Number (record { kind = I32; value = 0; of_kind = refl })) }))) }) ∷ [])) (Some (roll-Expr (record { spot = record { line = 54; column = 25 }; node = (Binary' Less tt (more_of-Expr (record { line = 54; column = 25 }) (Named (codes "i12")) end_of-Expr) tt (more_of-Expr (record { line = 54; column = 31 }) (Number (record { kind = I32; value = 3; of_kind = refl })) end_of-Expr)) }))) (Some (roll-Expr (record { spot = record { line = 54; column = 34 }; node = (Bump' true true tt (more_of-Expr (record { line = 54; column = 36 }) (Named (codes "i12")) end_of-Expr)) }))) tt (more_of-Stmt (record { line = 55; column = 7 }) (Block' (tt ∷ []) (more_of-Stmt (record { line = 56; column = 9 }) (Declare ((record { field = record { spot = record { line = 56; column = 20 }; name = (codes "p13"); base = record { spot = record { line = 56; column = 9 }; frozen = false; obliv = true; kind = (base.Int I32) }; stars = 1; dims = [] }; init = (Some (roll-Expr (record { spot = record { line = 56; column = 26 }; node = (Unary' Address tt (more_of-Expr (record { line = 56; column = 27 }) (Named (codes "f4")) end_of-Expr)) }))) }) ∷ [])) end_of-Stmt)) end_of-Stmt)) end_of-Stmt))) end_of-Stmt) (Some' tt (more_of-Stmt (record { line = 60; column = 5 }) (Block' (tt ∷ tt ∷ []) (more_of-Stmt (record { line = 61; column = 7 }) (If' (roll-Expr (record { spot = record { line = 61; column = 11 }; node = (Binary' Greater tt (more_of-Expr (record { line = 61; column = 11 }) (Number (record { kind = I32; value = 0; of_kind = refl })) end_of-Expr) tt (more_of-Expr (record { line = 61; column = 16 }) (Binary' LessEq tt (more_of-Expr (record { line = 61; column = 16 }) (Number (record { kind = I32; value = 18; of_kind = refl })) end_of-Expr) tt (more_of-Expr (record { line = 61; column = 22 }) (Number (record { kind = I32; value = 34; of_kind = refl })) end_of-Expr)) end_of-Expr)) })) tt (more_of-Stmt (record { line = 62; column = 7 }) (Block' (tt ∷ tt ∷ []) (more_of-Stmt (record { line = 63; column = 9 }) (Express (roll-Expr (record { spot = record { line = 63; column = 9 }; node = (Assign' None tt (more_of-Expr (record { line = 63; column = 9 }) (Named (codes "f3")) end_of-Expr) tt (more_of-Expr (record { line = 63; column = 14 }) (Unary' Not tt (more_of-Expr (record { line = 63; column = 16 }) (Cast' (record { base = record { spot = record { line = 63; column = 17 }; frozen = false; obliv = true; kind = (base.Int U64) }; stars = 0 }) tt (more_of-Expr (record { line = 63; column = 41 }) (Cast' (record { base = record { spot = record { line = 63; column = 42 }; frozen = false; obliv = true; kind = (base.Int I32) }; stars = 0 }) tt (more_of-Expr (record { line = 63; column = 59 }) (Number (record { kind = I32; value = 1; of_kind = refl })) end_of-Expr)) end_of-Expr)) end_of-Expr)) end_of-Expr)) }))) (more_of-Stmt (record { line = 64; column = 9 }) (Declare ((record { field = record { spot = record { line = 64; column = 33 }; name = (codes "v14"); base = record { spot = record { line = 64; column = 9 }; frozen = true; obliv = true; kind = (base.Int I32) }; stars = 0; dims = [] }; init = None }) ∷ (record { field = record { spot = record { line = 64; column = 38 }; name = (codes "v15"); base = record { spot = record { line = 64; column = 9 }; frozen = true; obliv = true; kind = (base.Int I32) }; stars = 0; dims = [] }; init = (Some (roll-Expr (record { spot = record { line = 64; column = 44 }; node = (Named (codes "f5")) }))) }) ∷ [])) end_of-Stmt))) end_of-Stmt) None') (more_of-Stmt (record { line = 66; column = 7 }) (Express (roll-Expr (record { spot = record { line = 66; column = 7 }; node = (Bump' false false tt (more_of-Expr (record { line = 66; column = 7 }) (Named (codes "f5")) end_of-Expr)) }))) end_of-Stmt))) end_of-Stmt))) (more_of-Stmt (record { line = 68; column = 5 }) (Express (roll-Expr (record { spot = record { line = 68; column = 5 }; node = (Assign' (Some Div) tt (more_of-Expr (record { line = 68; column = 5 }) (Named (codes "f5")) end_of-Expr) tt (more_of-Expr (record { line = 68; column = 11 }) (Binary' Add tt (more_of-Expr (record { line = 68; column = 12 }) (Binary' And tt (more_of-Expr (record { line = 68; column = 13 }) (Named (codes "f4")) end_of-Expr) tt (more_of-Expr (record { line = 68; column = 19 }) (Number (record { kind = I32; value = 7; of_kind = refl })) end_of-Expr)) end_of-Expr) tt (more_of-Expr (record { line = 68; column = 24 }) (Number (record { kind = I32; value = 1; of_kind = refl })) end_of-Expr)) end_of-Expr)) }))) end_of-Stmt))) end_of-Stmt) None') })) ∷ (roll-Stmt (record { spot = record { line = 70; column = 3 }; node = (Declare ((record { field = record { spot = record { line = 70; column = 14 }; name = (codes "z16"); base = record { spot = record { line = 70; column = 3 }; frozen = false; obliv = false; kind = (base.Int I32) }; stars = 0; dims = [] }; init = None }) ∷ [])) })) ∷ (roll-Stmt (record { spot = record { line = 71; column = 3 }; node = (Express (roll-Expr (record { spot = record { line = 71; column = 3 }; node = (Call' (codes "revealOblivInt") (tt ∷ tt ∷ tt ∷ []) (more_of-Expr (record { line = 71; column = 18 }) (Unary' Address tt (more_of-Expr (record { line = 71; column = 19 }) (Named (codes "z16")) end_of-Expr)) (more_of-Expr (record { line = 71; column = 24 }) (Named (codes "f3")) (more_of-Expr (record { line = 71; column = 28 }) (Number (record { kind = I32; value = 0; of_kind = refl })) end_of-Expr)))) }))) })) ∷ (roll-Stmt (record { spot = record { line = 72; column = 3 }; node = (Express (roll-Expr (record { spot = record { line = 72; column = 3 }; node = (Call' (codes "printf") (tt ∷ tt ∷ []) (more_of-Expr (record { line = 72; column = 10 }) (Text (37 ∷ 100 ∷ 10 ∷ [])) (more_of-Expr (record { line = 72; column = 18 }) (Named (codes "z16")) end_of-Expr))) }))) })) ∷ (roll-Stmt (record { spot = record { line = 73; column = 3 }; node = (Express (roll-Expr (record { spot = record { line = 73; column = 3 }; node = (Call' (codes "ocResult") (tt ∷ tt ∷ []) (more_of-Expr (record { line = 73; column = 12 }) (Named (codes "f4")) (more_of-Expr (record { line = 73; column = 16 }) (Number (record { kind = I32; value = 1; of_kind = refl })) end_of-Expr))) }))) })) ∷ (roll-Stmt (record { spot = record { line = 74; column = 3 }; node = (Express (roll-Expr (record { spot = record { line = 74; column = 3 }; node = (Call' (codes "ocResult") (tt ∷ tt ∷ []) (more_of-Expr (record { line = 74; column = 12 }) (Named (codes "f5")) (more_of-Expr (record { line = 74; column = 16 }) (Number (record { kind = I32; value = 1; of_kind = refl })) end_of-Expr))) }))) })) ∷ [])) }) ∷ []); end = record { line = 76; column = 1 } }

abbrev setup : ClearSetup
setup = record { public = []; first = ((negsuc 2147483648) ∷ (pos 2) ∷ []); second = ((pos 2147483648) ∷ []); dealt = 25; budget = 3000 }

clear : Means (typed_program source) setup [] DealtSpent
unfolding next typed_program typed_value typed_alone digits hidden-the_row-TExpr-0 hidden-the_row-TExpr-1 hidden-the_row-TPlace-2 hidden-the_row-TStmt-0 hidden-the_row-TStmt-1 hidden-the_row-CType-0 hidden
clear = (refl, refl)

events : Makes (typed_program source) setup []
    [] DealtSpent
unfolding next typed_program typed_value typed_alone digits hidden-the_row-TExpr-0 hidden-the_row-TExpr-1 hidden-the_row-TPlace-2 hidden-the_row-TStmt-0 hidden-the_row-TStmt-1 hidden-the_row-CType-0 hidden
events = (refl, refl)

typed : Passes (typed_program source)
unfolding next typed_program typed_value typed_alone digits hidden-the_row-TExpr-0 hidden-the_row-TExpr-1 hidden-the_row-TPlace-2 hidden-the_row-TStmt-0 hidden-the_row-TStmt-1 hidden-the_row-CType-0 hidden
typed = refl
