-- A source with allocated blocks, a loop and conditions.
-- What its run shows and its events were made by an independent model.
use Rattle.std.proofs.Common.{refl, pos, negsuc, [], ◌∷◌, Some, None, true, false}
use Rattle.std.specs.Prelude.{codes}
use Rattle.oc_values.specs.declared.integers.IntKind.TheVariants.{Bool as KBool, I8, U8, I16, U16, I32, U32, I64, U64}
use Rattle.oc_values.specs.declared.integers.BinaryOp.TheVariants.{Add, Sub, Mul, Div, Rem, Shl, Shr, And, Or, Xor, Less, LessEq, Greater, GreaterEq, Equal, NotEqual}
use Rattle.oc_cells.specs.declared.types.CType.TheBlock.{hidden-the_row-CType-0}
use denote.Hole.Carrier.{hidden}
use Rattle.oc_source.specs.declared.parsed.BaseKind.TheVariants as base
use Rattle.oc_source.specs.declared.parsed.ParamArray.TheVariants as array
use Rattle.oc_source.specs.declared.parsed.UnaryOp.TheVariants.{Neg, Not, Flip, Deref, Address}
use Rattle.oc_source.specs.declared.parsed.Expr.{roll-Expr}
use Rattle.oc_source.specs.declared.parsed.ExprNode.{Number, Text, Named, Unary', Bump', Binary', Logic', Choose', Assign', Index', Call', Cast', SizeOf, end_of-Expr, more_of-Expr}
use Rattle.oc_source.specs.declared.parsed.Stmt.{roll-Stmt}
use Rattle.oc_source.specs.declared.parsed.StmtNode.{Declare, Express, Block', If', OblivIf', While', For', Return, end_of-Stmt, more_of-Stmt, None', Some'}
use Rattle.oc_source.specs.declared.parsed.ForInit.TheVariants as begin
use Rattle.oc_source.specs.declared.parsed.Program.{Program}
use Rattle.type_rules.specs.Judging.{next}
use Rattle.type_rules.specs.Rules.{typed_value, typed_alone}
use Rattle.type_rules.specs.ProgramRules.{typed_program}
use Rattle.std.specs.Fmt.{digits}
use Rattle.oc_values.specs.declared.integers.OneOp.TheVariants as one
use Rattle.oc_typed.specs.declared.typed.TExprNode.TheBlock.{hidden-the_row-TExpr-0, hidden-the_row-TExpr-1, hidden-the_row-TPlace-2}
use Rattle.oc_typed.specs.declared.typed.TStmtNode.TheBlock.{hidden-the_row-TStmt-0, hidden-the_row-TStmt-1}
use Rattle.oc_walk.specs.declared.run.ShownItem.TheVariants.{Print as Printed, Reveal as Revealed, Give as Given}
use Rattle.oc_walk.specs.declared.run.ClearSetup.{ClearSetup}
use Rattle.oc_walk.specs.declared.run.Outcome.TheVariants.{Done}
use Rattle.oc_meanings.specs.Events.{Fix, Of, Feed, Op, One, Turn, ShiftBy, Pick, Reveal, Give, Print}
use Rattle.sampled_sources.proofs.Means.{Means, Makes, Passes}

abbrev source : Program
source = record { structs = ((record { spot = record { line = 3; column = 8 }; name = (codes "S1"); fields = ((record { spot = record { line = 3; column = 23 }; name = (codes "m2"); base = record { spot = record { line = 3; column = 13 }; frozen = false; obliv = true; kind = (base.Int I32) }; stars = 0; dims = (3 ∷ []) }) ∷ []) }) ∷ []); functions = ((record { spot = record { line = 4; column = 19 }; name = (codes "fn3"); result = (Some (record { base = record { spot = record { line = 4; column = 1 }; frozen = false; obliv = true; kind = (base.Int I8) }; stars = 0 })); params = ((record { spot = record { line = 4; column = 43 }; name = (codes "x4"); base = record { spot = record { line = 4; column = 23 }; frozen = false; obliv = true; kind = (base.Int U8) }; stars = 0; array = array.Plain }) ∷ (record { spot = record { line = 4; column = 57 }; name = (codes "x5"); base = record { spot = record { line = 4; column = 47 }; frozen = false; obliv = true; kind = (base.Int I32) }; stars = 0; array = array.Plain }) ∷ (record { spot = record { line = 4; column = 76 }; name = (codes "x6"); base = record { spot = record { line = 4; column = 61 }; frozen = false; obliv = true; kind = (base.Int I64) }; stars = 0; array = array.Plain }) ∷ []); obliv = true; body = None }) ∷ (record { spot = record { line = 5; column = 19 }; name = (codes "fn3"); result = (Some (record { base = record { spot = record { line = 5; column = 1 }; frozen = false; obliv = true; kind = (base.Int I8) }; stars = 0 })); params = ((record { spot = record { line = 5; column = 43 }; name = (codes "x4"); base = record { spot = record { line = 5; column = 23 }; frozen = false; obliv = true; kind = (base.Int U8) }; stars = 0; array = array.Plain }) ∷ (record { spot = record { line = 5; column = 57 }; name = (codes "x5"); base = record { spot = record { line = 5; column = 47 }; frozen = false; obliv = true; kind = (base.Int I32) }; stars = 0; array = array.Plain }) ∷ (record { spot = record { line = 5; column = 76 }; name = (codes "x6"); base = record { spot = record { line = 5; column = 61 }; frozen = false; obliv = true; kind = (base.Int I64) }; stars = 0; array = array.Plain }) ∷ []); obliv = true; body = (Some ((roll-Stmt (record { spot = record { line = 6; column = 3 }; node = (Express (roll-Expr (record { spot = record { line = 6; column = 3 }; node = (Assign' None tt (more_of-Expr (record { line = 6; column = 3 }) (Named (codes "x6")) end_of-Expr) tt (more_of-Expr (record { line = 6; column = 8 }) (Bump' true false tt (more_of-Expr (record { line = 6; column = 8 }) (Named (codes "x4")) end_of-Expr)) end_of-Expr)) }))) })) ∷ (roll-Stmt (record { spot = record { line = 7; column = 3 }; node = (Express (roll-Expr (record { spot = record { line = 7; column = 3 }; node = (Assign' None tt (more_of-Expr (record { line = 7; column = 3 }) (Named (codes "x5")) end_of-Expr) tt (more_of-Expr (record { line = 7; column = 9 }) (Assign' (Some Sub) tt (more_of-Expr (record { line = 7; column = 9 }) (Named (codes "x4")) end_of-Expr) tt (more_of-Expr (record { line = 7; column = 16 }) (Choose' tt (more_of-Expr (record { line = 7; column = 16 }) (Number (record { kind = I32; value = 12; of_kind = refl })) end_of-Expr) tt (more_of-Expr (record { line = 7; column = 21 }) (Number (record { kind = I32; value = 0; of_kind = refl })) end_of-Expr) tt (more_of-Expr (record { line = 7; column = 27 }) (Choose' tt (more_of-Expr (record { line = 7; column = 27 }) (Number (record { kind = I32; value = 127; of_kind = refl })) end_of-Expr) tt (more_of-Expr (record { line = 7; column = 34 }) (Named (codes "x6")) end_of-Expr) tt (more_of-Expr (record { line = 7; column = 39 }) (Named (codes "x5")) end_of-Expr)) end_of-Expr)) end_of-Expr)) end_of-Expr)) }))) })) ∷ (roll-Stmt (record { spot = record { line = 8; column = 3 }; node = (Return (Some (roll-Expr (record { spot = record { line = 8; column = 10 }; node = (Binary' Or tt (more_of-Expr (record { line = 8; column = 10 }) (Named (codes "x5")) end_of-Expr) tt (more_of-Expr (record { line = 8; column = 15 }) (Binary' Less tt (more_of-Expr (record { line = 8; column = 15 }) (Named (codes "x4")) end_of-Expr) tt (more_of-Expr (record { line = 8; column = 21 }) (Binary' Shr tt (more_of-Expr (record { line = 8; column = 21 }) (Number (record { kind = I32; value = 9; of_kind = refl })) end_of-Expr) tt (more_of-Expr (record { line = 8; column = 27 }) (Number (record { kind = I32; value = 97; of_kind = refl })) end_of-Expr)) end_of-Expr)) end_of-Expr)) })))) })) ∷ [])) }) ∷ (record { spot = record { line = 10; column = 15 }; name = (codes "fn7"); result = (Some (record { base = record { spot = record { line = 10; column = 1 }; frozen = false; obliv = false; kind = (base.Int U8) }; stars = 0 })); params = []; obliv = false; body = (Some ((roll-Stmt (record { spot = record { line = 11; column = 3 }; node = (Declare ((record { field = record { spot = record { line = 11; column = 13 }; name = (codes "f8"); base = record { spot = record { line = 11; column = 3 }; frozen = false; obliv = true; kind = (base.Int I32) }; stars = 0; dims = [] }; init = (Some (roll-Expr (record { spot = record { line = 11; column = 18 }; node = (Call' (codes "feedOblivInt") (tt ∷ tt ∷ []) (more_of-Expr (record { line = 11; column = 31 }) (Call' (codes "ocPrivate") (tt ∷ []) (more_of-Expr (record { line = 11; column = 41 }) (Number (record { kind = I32; value = 0; of_kind = refl })) end_of-Expr)) (more_of-Expr (record { line = 11; column = 45 }) (Number (record { kind = I32; value = 2; of_kind = refl })) end_of-Expr))) }))) }) ∷ [])) })) ∷ (roll-Stmt (record { spot = record { line = 12; column = 3 }; node = (Express (roll-Expr (record { spot = record { line = 12; column = 3 }; node = (Call' (codes "printf") (tt ∷ []) (more_of-Expr (record { line = 12; column = 10 }) (Text (10 ∷ [])) end_of-Expr)) }))) })) ∷ (roll-Stmt (record { spot = record { line = 13; column = 3 }; node = (Express (roll-Expr (record { spot = record { line = 13; column = 3 }; node = (Bump' false false tt (more_of-Expr (record { line = 13; column = 3 }) (Named (codes "f8")) end_of-Expr)) }))) })) ∷ (roll-Stmt (record { spot = record { line = 14; column = 3 }; node = (Return (Some (roll-Expr (record { spot = record { line = 14; column = 10 }; node = (Cast' (record { base = record { spot = record { line = 14; column = 11 }; frozen = false; obliv = false; kind = (base.Int U64) }; stars = 0 }) tt (more_of-Expr (record { line = 14; column = 31 }) (Logic' false tt (more_of-Expr (record { line = 14; column = 31 }) (Number (record { kind = I32; value = 7; of_kind = refl })) end_of-Expr) tt (more_of-Expr (record { line = 14; column = 36 }) (Number (record { kind = U32; value = 0; of_kind = refl })) end_of-Expr)) end_of-Expr)) })))) })) ∷ [])) }) ∷ (record { spot = record { line = 16; column = 6 }; name = (codes "fn9"); result = None; params = ((record { spot = record { line = 16; column = 14 }; name = (codes "x10"); base = record { spot = record { line = 16; column = 10 }; frozen = false; obliv = false; kind = (base.Int I32) }; stars = 0; array = array.Plain }) ∷ (record { spot = record { line = 16; column = 24 }; name = (codes "x11"); base = record { spot = record { line = 16; column = 19 }; frozen = false; obliv = false; kind = (base.Int KBool) }; stars = 0; array = array.Plain }) ∷ (record { spot = record { line = 16; column = 39 }; name = (codes "x12"); base = record { spot = record { line = 16; column = 29 }; frozen = false; obliv = true; kind = (base.Int I32) }; stars = 0; array = array.Plain }) ∷ []); obliv = false; body = (Some ((roll-Stmt (record { spot = record { line = 17; column = 3 }; node = (Express (roll-Expr (record { spot = record { line = 17; column = 3 }; node = (Assign' None tt (more_of-Expr (record { line = 17; column = 3 }) (Named (codes "x12")) end_of-Expr) tt (more_of-Expr (record { line = 17; column = 9 }) (Binary' Xor tt (more_of-Expr (record { line = 17; column = 10 }) (Logic' false tt (more_of-Expr (record { line = 17; column = 10 }) (Cast' (record { base = record { spot = record { line = 17; column = 11 }; frozen = false; obliv = true; kind = (base.Int I32) }; stars = 0 }) tt (more_of-Expr (record { line = 17; column = 24 }) (Named (codes "x12")) end_of-Expr)) end_of-Expr) tt (more_of-Expr (record { line = 17; column = 32 }) (Unary' Neg tt (more_of-Expr (record { line = 17; column = 33 }) (Named (codes "x12")) end_of-Expr)) end_of-Expr)) end_of-Expr) tt (more_of-Expr (record { line = 17; column = 41 }) (Number (record { kind = U32; value = 5; of_kind = refl })) end_of-Expr)) end_of-Expr)) }))) })) ∷ [])) }) ∷ (record { spot = record { line = 19; column = 6 }; name = (codes "oc_main"); result = None; params = []; obliv = false; body = (Some ((roll-Stmt (record { spot = record { line = 20; column = 3 }; node = (Declare ((record { field = record { spot = record { line = 20; column = 15 }; name = (codes "f13"); base = record { spot = record { line = 20; column = 3 }; frozen = false; obliv = true; kind = (base.Int KBool) }; stars = 0; dims = [] }; init = (Some (roll-Expr (record { spot = record { line = 20; column = 21 }; node = (Call' (codes "feedOblivBool") (tt ∷ tt ∷ []) (more_of-Expr (record { line = 20; column = 35 }) (Call' (codes "ocPrivate") (tt ∷ []) (more_of-Expr (record { line = 20; column = 45 }) (Number (record { kind = I32; value = 0; of_kind = refl })) end_of-Expr)) (more_of-Expr (record { line = 20; column = 49 }) (Number (record { kind = I32; value = 2; of_kind = refl })) end_of-Expr))) }))) }) ∷ [])) })) ∷ (roll-Stmt (record { spot = record { line = 21; column = 3 }; node = (Declare ((record { field = record { spot = record { line = 21; column = 15 }; name = (codes "f14"); base = record { spot = record { line = 21; column = 3 }; frozen = false; obliv = true; kind = (base.Int KBool) }; stars = 0; dims = [] }; init = (Some (roll-Expr (record { spot = record { line = 21; column = 21 }; node = (Call' (codes "feedOblivBool") (tt ∷ tt ∷ []) (more_of-Expr (record { line = 21; column = 35 }) (Call' (codes "ocPrivate") (tt ∷ []) (more_of-Expr (record { line = 21; column = 45 }) (Number (record { kind = I32; value = 0; of_kind = refl })) end_of-Expr)) (more_of-Expr (record { line = 21; column = 49 }) (Number (record { kind = I32; value = 1; of_kind = refl })) end_of-Expr))) }))) }) ∷ [])) })) ∷ (roll-Stmt (record { spot = record { line = 22; column = 3 }; node = (Declare ((record { field = record { spot = record { line = 22; column = 26 }; name = (codes "f15"); base = record { spot = record { line = 22; column = 3 }; frozen = false; obliv = true; kind = (base.Int I16) }; stars = 0; dims = [] }; init = (Some (roll-Expr (record { spot = record { line = 22; column = 32 }; node = (Call' (codes "feedOblivShort") (tt ∷ tt ∷ []) (more_of-Expr (record { line = 22; column = 47 }) (Unary' Not tt (more_of-Expr (record { line = 22; column = 49 }) (Binary' LessEq tt (more_of-Expr (record { line = 22; column = 49 }) (Number (record { kind = I32; value = 13; of_kind = refl })) end_of-Expr) tt (more_of-Expr (record { line = 22; column = 55 }) (Number (record { kind = I32; value = 1; of_kind = refl })) end_of-Expr)) end_of-Expr)) (more_of-Expr (record { line = 22; column = 59 }) (Number (record { kind = I32; value = 1; of_kind = refl })) end_of-Expr))) }))) }) ∷ [])) })) ∷ (roll-Stmt (record { spot = record { line = 23; column = 3 }; node = (Declare ((record { field = record { spot = record { line = 23; column = 20 }; name = (codes "v16"); base = record { spot = record { line = 23; column = 3 }; frozen = false; obliv = false; kind = (base.Int I64) }; stars = 0; dims = [] }; init = (Some (roll-Expr (record { spot = record { line = 23; column = 26 }; node = (Number (record { kind = I32; value = 3; of_kind = refl })) }))) }) ∷ [])) })) ∷ (roll-Stmt (record { spot = record { line = 24; column = 3 }; node = (If' (roll-Expr (record { spot = record { line = 24; column = 7 }; node = (Binary' Rem tt (more_of-Expr (record { line = 24; column = 9 }) (Choose' tt (more_of-Expr (record { line = 24; column = 9 }) (Number (record { kind = I32; value = 15; of_kind = refl })) end_of-Expr) tt (more_of-Expr (record { line = 24; column = 15 }) (Named (codes "v16")) end_of-Expr) tt (more_of-Expr (record { line = 24; column = 21 }) (Named (codes "v16")) end_of-Expr)) end_of-Expr) tt (more_of-Expr (record { line = 24; column = 29 }) (Number (record { kind = I32; value = 1; of_kind = refl })) end_of-Expr)) })) tt (more_of-Stmt (record { line = 25; column = 3 }) (Block' (tt ∷ tt ∷ tt ∷ tt ∷ tt ∷ []) (more_of-Stmt (record { line = 26; column = 5 }) (Declare ((record { field = record { spot = record { line = 26; column = 20 }; name = (codes "h17"); base = record { spot = record { line = 26; column = 5 }; frozen = false; obliv = false; kind = (base.Int I64) }; stars = 1; dims = [] }; init = (Some (roll-Expr (record { spot = record { line = 26; column = 26 }; node = (Call' (codes "malloc") (tt ∷ []) (more_of-Expr (record { line = 26; column = 33 }) (Binary' Mul tt (more_of-Expr (record { line = 26; column = 33 }) (Number (record { kind = I32; value = 3; of_kind = refl })) end_of-Expr) tt (more_of-Expr (record { line = 26; column = 37 }) (SizeOf (record { base = record { spot = record { line = 26; column = 44 }; frozen = false; obliv = false; kind = (base.Int I64) }; stars = 0 })) end_of-Expr)) end_of-Expr)) }))) }) ∷ [])) (more_of-Stmt (record { line = 27; column = 5 }) (Express (roll-Expr (record { spot = record { line = 27; column = 5 }; node = (Assign' None tt (more_of-Expr (record { line = 27; column = 5 }) (Named (codes "v16")) end_of-Expr) tt (more_of-Expr (record { line = 27; column = 11 }) (Number (record { kind = I32; value = 100; of_kind = refl })) end_of-Expr)) }))) (more_of-Stmt (record { line = 28; column = 5 }) (Declare ((record { field = record { spot = record { line = 28; column = 23 }; name = (codes "v18"); base = record { spot = record { line = 28; column = 5 }; frozen = false; obliv = false; kind = (base.Int U64) }; stars = 0; dims = [] }; init = (Some (roll-Expr (record { spot = record { line = 28; column = 29 }; node = (Call' (codes "fn7") ([]) end_of-Expr) }))) }) ∷ [])) (more_of-Stmt (record { line = 29; column = 5 }) (Block' (tt ∷ []) (more_of-Stmt (record { line = 30; column = 7 }) (Express (roll-Expr (record { spot = record { line = 30; column = 7 }; node = (Assign' None tt (more_of-Expr (record { line = 30; column = 7 }) (Named (codes "f15")) end_of-Expr) tt (more_of-Expr (record { line = 30; column = 13 }) (Binary' Xor tt (more_of-Expr (record { line = 30; column = 15 }) (Assign' (Some Xor) tt (more_of-Expr (record { line = 30; column = 15 }) (Named (codes "v16")) end_of-Expr) tt (more_of-Expr (record { line = 30; column = 22 }) (Named (codes "v16")) end_of-Expr)) end_of-Expr) tt (more_of-Expr (record { line = 30; column = 30 }) (Binary' Shr tt (more_of-Expr (record { line = 30; column = 31 }) (Call' (codes "fn7") ([]) end_of-Expr) end_of-Expr) tt (more_of-Expr (record { line = 30; column = 42 }) (Cast' (record { base = record { spot = record { line = 30; column = 43 }; frozen = false; obliv = true; kind = (base.Int I32) }; stars = 0 }) tt (more_of-Expr (record { line = 30; column = 57 }) (Number (record { kind = I32; value = 0; of_kind = refl })) end_of-Expr)) end_of-Expr)) end_of-Expr)) end_of-Expr)) }))) end_of-Stmt)) (more_of-Stmt (record { line = 32; column = 5 }) (Express (roll-Expr (record { spot = record { line = 32; column = 5 }; node = (Call' (codes "printf") (tt ∷ tt ∷ []) (more_of-Expr (record { line = 32; column = 12 }) (Text (37 ∷ 99 ∷ 10 ∷ [])) (more_of-Expr (record { line = 32; column = 20 }) (Binary' Add tt (more_of-Expr (record { line = 32; column = 21 }) (Binary' And tt (more_of-Expr (record { line = 32; column = 22 }) (Cast' (record { base = record { spot = record { line = 32; column = 23 }; frozen = false; obliv = false; kind = (base.Int I32) }; stars = 0 }) tt (more_of-Expr (record { line = 32; column = 29 }) (Unary' Deref tt (more_of-Expr (record { line = 32; column = 30 }) (Named (codes "h17")) end_of-Expr)) end_of-Expr)) end_of-Expr) tt (more_of-Expr (record { line = 32; column = 39 }) (Number (record { kind = I32; value = 63; of_kind = refl })) end_of-Expr)) end_of-Expr) tt (more_of-Expr (record { line = 32; column = 45 }) (Number (record { kind = I32; value = 32; of_kind = refl })) end_of-Expr)) end_of-Expr))) }))) end_of-Stmt)))))) end_of-Stmt) (Some' tt (more_of-Stmt (record { line = 35; column = 3 }) (Block' (tt ∷ tt ∷ tt ∷ []) (more_of-Stmt (record { line = 36; column = 5 }) (Declare ((record { field = record { spot = record { line = 36; column = 15 }; name = (codes "v19"); base = record { spot = record { line = 36; column = 5 }; frozen = false; obliv = false; kind = (base.Int I64) }; stars = 0; dims = [] }; init = None }) ∷ [])) (more_of-Stmt (record { line = 37; column = 5 }) (Express (roll-Expr (record { spot = record { line = 37; column = 5 }; node = (Assign' None tt (more_of-Expr (record { line = 37; column = 5 }) (Named (codes "f14")) end_of-Expr) tt (more_of-Expr (record { line = 37; column = 11 }) (Call' (codes "ocPublic") (tt ∷ []) (more_of-Expr (record { line = 37; column = 20 }) (Number (record { kind = I32; value = 0; of_kind = refl })) end_of-Expr)) end_of-Expr)) }))) (more_of-Stmt (record { line = 38; column = 5 }) (Express (roll-Expr (record { spot = record { line = 38; column = 5 }; node = (Logic' false tt (more_of-Expr (record { line = 38; column = 5 }) (Named (codes "v19")) end_of-Expr) tt (more_of-Expr (record { line = 38; column = 12 }) (Binary' LessEq tt (more_of-Expr (record { line = 38; column = 12 }) (Named (codes "f13")) end_of-Expr) tt (more_of-Expr (record { line = 38; column = 20 }) (Binary' Add tt (more_of-Expr (record { line = 38; column = 20 }) (Number (record { kind = I32; value = 14; of_kind = refl })) end_of-Expr) tt (more_of-Expr (record { line = 38; column = 25 }) (Named (codes "v16")) end_of-Expr)) end_of-Expr)) end_of-Expr)) }))) end_of-Stmt)))) end_of-Stmt))) })) ∷ (roll-Stmt (record { spot = record { line = 40; column = 3 }; node = (Declare ((record { field = record { spot = record { line = 40; column = 18 }; name = (codes "a20"); base = record { spot = record { line = 40; column = 3 }; frozen = false; obliv = true; kind = (base.Int U32) }; stars = 0; dims = (2 ∷ 1 ∷ []) }; init = None }) ∷ [])) })) ∷ (roll-Stmt (record { spot = record { line = 41; column = 3 }; node = (If' (roll-Expr (record { spot = record { line = 41; column = 7 }; node = (Number (record { kind = I32; value = 0; of_kind = refl })) })) tt (more_of-Stmt (record { line = 42; column = 3 }) (Block' (tt ∷ []) (more_of-Stmt (record { line = 43; column = 5 }) (Express (roll-Expr (record { spot = record { line = 43; column = 5 }; node = (Call' (codes "printf") (tt ∷ tt ∷ []) (more_of-Expr (record { line = 43; column = 12 }) (Text (47 ∷ 42 ∷ 32 ∷ 110 ∷ 111 ∷ 32 ∷ 42 ∷ 47 ∷ 32 ∷ 37 ∷ 108 ∷ 108 ∷ 100 ∷ 10 ∷ [])) (more_of-Expr (record { line = 43; column = 31 }) (Named (codes "v16")) end_of-Expr))) }))) end_of-Stmt)) end_of-Stmt) (Some' tt (more_of-Stmt (record { line = 46; column = 3 }) (Block' (tt ∷ tt ∷ tt ∷ tt ∷ []) (more_of-Stmt (record { line = 47; column = 5 }) (Express (roll-Expr (record { spot = record { line = 47; column = 5 }; node = (Assign' None tt (more_of-Expr (record { line = 47; column = 5 }) (Named (codes "f15")) end_of-Expr) tt (more_of-Expr (record { line = 47; column = 11 }) (Binary' NotEqual tt (more_of-Expr (record { line = 47; column = 12 }) (Index' tt (more_of-Expr (record { line = 47; column = 12 }) (Index' tt (more_of-Expr (record { line = 47; column = 12 }) (Named (codes "a20")) end_of-Expr) tt (more_of-Expr (record { line = 47; column = 16 }) (Binary' And tt (more_of-Expr (record { line = 47; column = 17 }) (Number (record { kind = I32; value = 11; of_kind = refl })) end_of-Expr) tt (more_of-Expr (record { line = 47; column = 23 }) (Number (record { kind = I32; value = 1; of_kind = refl })) end_of-Expr)) end_of-Expr)) end_of-Expr) tt (more_of-Expr (record { line = 47; column = 26 }) (Number (record { kind = I32; value = 0; of_kind = refl })) end_of-Expr)) end_of-Expr) tt (more_of-Expr (record { line = 47; column = 33 }) (Binary' Rem tt (more_of-Expr (record { line = 47; column = 33 }) (Binary' Rem tt (more_of-Expr (record { line = 47; column = 33 }) (Named (codes "f14")) end_of-Expr) tt (more_of-Expr (record { line = 47; column = 39 }) (Named (codes "f14")) end_of-Expr)) end_of-Expr) tt (more_of-Expr (record { line = 47; column = 46 }) (Binary' Add tt (more_of-Expr (record { line = 47; column = 47 }) (Binary' And tt (more_of-Expr (record { line = 47; column = 47 }) (Unary' Neg tt (more_of-Expr (record { line = 47; column = 48 }) (Number (record { kind = I32; value = 0; of_kind = refl })) end_of-Expr)) end_of-Expr) tt (more_of-Expr (record { line = 47; column = 56 }) (Number (record { kind = I32; value = 7; of_kind = refl })) end_of-Expr)) end_of-Expr) tt (more_of-Expr (record { line = 47; column = 61 }) (Number (record { kind = I32; value = 1; of_kind = refl })) end_of-Expr)) end_of-Expr)) end_of-Expr)) end_of-Expr)) }))) (more_of-Stmt (record { line = 48; column = 5 }) (Declare ((record { field = record { spot = record { line = 48; column = 16 }; name = (codes "h21"); base = record { spot = record { line = 48; column = 5 }; frozen = false; obliv = true; kind = (base.Int I32) }; stars = 1; dims = [] }; init = (Some (roll-Expr (record { spot = record { line = 48; column = 22 }; node = (Call' (codes "malloc") (tt ∷ []) (more_of-Expr (record { line = 48; column = 29 }) (Binary' Mul tt (more_of-Expr (record { line = 48; column = 29 }) (SizeOf (record { base = record { spot = record { line = 48; column = 36 }; frozen = false; obliv = true; kind = (base.Int I32) }; stars = 0 })) end_of-Expr) tt (more_of-Expr (record { line = 48; column = 49 }) (Number (record { kind = I32; value = 3; of_kind = refl })) end_of-Expr)) end_of-Expr)) }))) }) ∷ [])) (more_of-Stmt (record { line = 49; column = 5 }) (Declare ((record { field = record { spot = record { line = 49; column = 26 }; name = (codes "v22"); base = record { spot = record { line = 49; column = 5 }; frozen = false; obliv = true; kind = (base.Int U16) }; stars = 0; dims = [] }; init = (Some (roll-Expr (record { spot = record { line = 49; column = 32 }; node = (Logic' true tt (more_of-Expr (record { line = 49; column = 33 }) (Binary' Equal tt (more_of-Expr (record { line = 49; column = 33 }) (Named (codes "f14")) end_of-Expr) tt (more_of-Expr (record { line = 49; column = 40 }) (Named (codes "f13")) end_of-Expr)) end_of-Expr) tt (more_of-Expr (record { line = 49; column = 49 }) (Binary' LessEq tt (more_of-Expr (record { line = 49; column = 49 }) (Named (codes "f14")) end_of-Expr) tt (more_of-Expr (record { line = 49; column = 58 }) (Unary' Deref tt (more_of-Expr (record { line = 49; column = 59 }) (Named (codes "h21")) end_of-Expr)) end_of-Expr)) end_of-Expr)) }))) }) ∷ [])) (more_of-Stmt (record { line = 50; column = 5 }) (OblivIf' (roll-Expr (record { spot = record { line = 50; column = 15 }; node = (Named (codes "v16")) })) tt (more_of-Stmt (record { line = 51; column = 5 }) (Block' (tt ∷ tt ∷ tt ∷ []) (more_of-Stmt (record { line = 52; column = 7 }) (For' (begin.Declare ((record { field = record { spot = record { line = 52; column = 16 }; name = (codes "i23"); base = record { spot = record { line = 52; column = 12 }; frozen = false; obliv = false; kind = (base.Int I32) }; stars = 0; dims = [] }; init = (Some (roll-Expr (record { spot = record { line = 52; column = 22 }; node = (Number (record { kind = I32; value = 0; of_kind = refl })) }))) }) ∷ [])) (Some (roll-Expr (record { spot = record { line = 52; column = 25 }; node = (Binary' Less tt (more_of-Expr (record { line = 52; column = 25 }) (Named (codes "i23")) end_of-Expr) tt (more_of-Expr (record { line = 52; column = 31 }) (Number (record { kind = I32; value = 1; of_kind = refl })) end_of-Expr)) }))) (Some (roll-Expr (record { spot = record { line = 52; column = 34 }; node = (Bump' true false tt (more_of-Expr (record { line = 52; column = 34 }) (Named (codes "i23")) end_of-Expr)) }))) tt (more_of-Stmt (record { line = 53; column = 7 }) (Block' (tt ∷ tt ∷ tt ∷ []) (more_of-Stmt (record { line = 54; column = 9 }) (Express (roll-Expr (record { spot = record { line = 54; column = 9 }; node = (Assign' None tt (more_of-Expr (record { line = 54; column = 9 }) (Named (codes "f15")) end_of-Expr) tt (more_of-Expr (record { line = 54; column = 15 }) (Cast' (record { base = record { spot = record { line = 54; column = 16 }; frozen = false; obliv = true; kind = (base.Int U32) }; stars = 0 }) tt (more_of-Expr (record { line = 54; column = 36 }) (Binary' Add tt (more_of-Expr (record { line = 54; column = 38 }) (Unary' Deref tt (more_of-Expr (record { line = 54; column = 39 }) (Named (codes "h21")) end_of-Expr)) end_of-Expr) tt (more_of-Expr (record { line = 54; column = 47 }) (Cast' (record { base = record { spot = record { line = 54; column = 48 }; frozen = false; obliv = true; kind = (base.Int U32) }; stars = 0 }) tt (more_of-Expr (record { line = 54; column = 63 }) (Named (codes "v22")) end_of-Expr)) end_of-Expr)) end_of-Expr)) end_of-Expr)) }))) (more_of-Stmt (record { line = 55; column = 9 }) (Declare ((record { field = record { spot = record { line = 55; column = 28 }; name = (codes "v24"); base = record { spot = record { line = 55; column = 9 }; frozen = false; obliv = true; kind = (base.Int U32) }; stars = 0; dims = [] }; init = (Some (roll-Expr (record { spot = record { line = 55; column = 34 }; node = (Binary' Div tt (more_of-Expr (record { line = 55; column = 35 }) (Binary' Div tt (more_of-Expr (record { line = 55; column = 35 }) (Index' tt (more_of-Expr (record { line = 55; column = 35 }) (Index' tt (more_of-Expr (record { line = 55; column = 35 }) (Named (codes "a20")) end_of-Expr) tt (more_of-Expr (record { line = 55; column = 39 }) (Number (record { kind = I32; value = 0; of_kind = refl })) end_of-Expr)) end_of-Expr) tt (more_of-Expr (record { line = 55; column = 42 }) (Number (record { kind = I32; value = 0; of_kind = refl })) end_of-Expr)) end_of-Expr) tt (more_of-Expr (record { line = 55; column = 48 }) (Binary' Add tt (more_of-Expr (record { line = 55; column = 49 }) (Binary' And tt (more_of-Expr (record { line = 55; column = 49 }) (Named (codes "v16")) end_of-Expr) tt (more_of-Expr (record { line = 55; column = 55 }) (Number (record { kind = I32; value = 7; of_kind = refl })) end_of-Expr)) end_of-Expr) tt (more_of-Expr (record { line = 55; column = 60 }) (Number (record { kind = U32; value = 1; of_kind = refl })) end_of-Expr)) end_of-Expr)) end_of-Expr) tt (more_of-Expr (record { line = 55; column = 67 }) (Number (record { kind = I32; value = 6; of_kind = refl })) end_of-Expr)) }))) }) ∷ [])) (more_of-Stmt (record { line = 56; column = 9 }) (Declare ((record { field = record { spot = record { line = 56; column = 28 }; name = (codes "a25"); base = record { spot = record { line = 56; column = 9 }; frozen = false; obliv = true; kind = (base.Int I16) }; stars = 0; dims = (4 ∷ 2 ∷ []) }; init = None }) ∷ [])) end_of-Stmt)))) end_of-Stmt)) (more_of-Stmt (record { line = 58; column = 7 }) (OblivIf' (roll-Expr (record { spot = record { line = 58; column = 17 }; node = (Number (record { kind = I32; value = 7; of_kind = refl })) })) tt (more_of-Stmt (record { line = 59; column = 7 }) (Block' (tt ∷ tt ∷ tt ∷ tt ∷ []) (more_of-Stmt (record { line = 60; column = 9 }) (Declare ((record { field = record { spot = record { line = 60; column = 22 }; name = (codes "v26"); base = record { spot = record { line = 60; column = 9 }; frozen = false; obliv = true; kind = (base.Int I32) }; stars = 0; dims = [] }; init = (Some (roll-Expr (record { spot = record { line = 60; column = 28 }; node = (Cast' (record { base = record { spot = record { line = 60; column = 29 }; frozen = false; obliv = true; kind = (base.Int U8) }; stars = 0 }) tt (more_of-Expr (record { line = 60; column = 50 }) (Index' tt (more_of-Expr (record { line = 60; column = 50 }) (Index' tt (more_of-Expr (record { line = 60; column = 50 }) (Named (codes "a20")) end_of-Expr) tt (more_of-Expr (record { line = 60; column = 54 }) (Binary' And tt (more_of-Expr (record { line = 60; column = 55 }) (Binary' Sub tt (more_of-Expr (record { line = 60; column = 56 }) (Number (record { kind = I32; value = 10; of_kind = refl })) end_of-Expr) tt (more_of-Expr (record { line = 60; column = 64 }) (Number (record { kind = I32; value = 2147483647; of_kind = refl })) end_of-Expr)) end_of-Expr) tt (more_of-Expr (record { line = 60; column = 78 }) (Number (record { kind = I32; value = 1; of_kind = refl })) end_of-Expr)) end_of-Expr)) end_of-Expr) tt (more_of-Expr (record { line = 60; column = 81 }) (Number (record { kind = I32; value = 0; of_kind = refl })) end_of-Expr)) end_of-Expr)) }))) }) ∷ [])) (more_of-Stmt (record { line = 61; column = 9 }) (Express (roll-Expr (record { spot = record { line = 61; column = 9 }; node = (Assign' None tt (more_of-Expr (record { line = 61; column = 9 }) (Named (codes "f13")) end_of-Expr) tt (more_of-Expr (record { line = 61; column = 15 }) (Unary' Flip tt (more_of-Expr (record { line = 61; column = 16 }) (Named (codes "v26")) end_of-Expr)) end_of-Expr)) }))) (more_of-Stmt (record { line = 62; column = 9 }) (Declare ((record { field = record { spot = record { line = 62; column = 13 }; name = (codes "w27"); base = record { spot = record { line = 62; column = 9 }; frozen = false; obliv = false; kind = (base.Int I32) }; stars = 0; dims = [] }; init = (Some (roll-Expr (record { spot = record { line = 62; column = 19 }; node = (Number (record { kind = I32; value = 1; of_kind = refl })) }))) }) ∷ [])) (more_of-Stmt (record { line = 63; column = 9 }) (While' (roll-Expr (record { spot = record { line = 63; column = 16 }; node = (Binary' Greater tt (more_of-Expr (record { line = 63; column = 16 }) (Bump' false false tt (more_of-Expr (record { line = 63; column = 16 }) (Named (codes "w27")) end_of-Expr)) end_of-Expr) tt (more_of-Expr (record { line = 63; column = 24 }) (Number (record { kind = I32; value = 0; of_kind = refl })) end_of-Expr)) })) tt (more_of-Stmt (record { line = 64; column = 9 }) (Block' (tt ∷ tt ∷ []) (more_of-Stmt (record { line = 65; column = 11 }) (Express (roll-Expr (record { spot = record { line = 65; column = 11 }; node = (Assign' None tt (more_of-Expr (record { line = 65; column = 11 }) (Named (codes "v22")) end_of-Expr) tt (more_of-Expr (record { line = 65; column = 17 }) (Logic' false tt (more_of-Expr (record { line = 65; column = 17 }) (Number (record { kind = I32; value = 17; of_kind = refl })) end_of-Expr) tt (more_of-Expr (record { line = 65; column = 25 }) (Choose' tt (more_of-Expr (record { line = 65; column = 25 }) (Named (codes "v16")) end_of-Expr) tt (more_of-Expr (record { line = 65; column = 31 }) (Binary' Shl tt (more_of-Expr (record { line = 65; column = 31 }) (Named (codes "f13")) end_of-Expr) tt (more_of-Expr (record { line = 65; column = 39 }) (Named (codes "w27")) end_of-Expr)) end_of-Expr) tt (more_of-Expr (record { line = 65; column = 47 }) (Binary' Add tt (more_of-Expr (record { line = 65; column = 47 }) (Named (codes "w27")) end_of-Expr) tt (more_of-Expr (record { line = 65; column = 53 }) (Named (codes "v22")) end_of-Expr)) end_of-Expr)) end_of-Expr)) end_of-Expr)) }))) (more_of-Stmt (record { line = 66; column = 11 }) (Express (roll-Expr (record { spot = record { line = 66; column = 11 }; node = (Assign' (Some Mul) tt (more_of-Expr (record { line = 66; column = 11 }) (Named (codes "f15")) end_of-Expr) tt (more_of-Expr (record { line = 66; column = 18 }) (Binary' LessEq tt (more_of-Expr (record { line = 66; column = 19 }) (Binary' GreaterEq tt (more_of-Expr (record { line = 66; column = 19 }) (Number (record { kind = I32; value = 2; of_kind = refl })) end_of-Expr) tt (more_of-Expr (record { line = 66; column = 24 }) (Named (codes "v22")) end_of-Expr)) end_of-Expr) tt (more_of-Expr (record { line = 66; column = 33 }) (Binary' LessEq tt (more_of-Expr (record { line = 66; column = 33 }) (Index' tt (more_of-Expr (record { line = 66; column = 33 }) (Index' tt (more_of-Expr (record { line = 66; column = 33 }) (Named (codes "a20")) end_of-Expr) tt (more_of-Expr (record { line = 66; column = 37 }) (Number (record { kind = I32; value = 1; of_kind = refl })) end_of-Expr)) end_of-Expr) tt (more_of-Expr (record { line = 66; column = 40 }) (Number (record { kind = I32; value = 0; of_kind = refl })) end_of-Expr)) end_of-Expr) tt (more_of-Expr (record { line = 66; column = 46 }) (Named (codes "v16")) end_of-Expr)) end_of-Expr)) end_of-Expr)) }))) end_of-Stmt))) end_of-Stmt)) end_of-Stmt))))) end_of-Stmt) None') (more_of-Stmt (record { line = 69; column = 7 }) (OblivIf' (roll-Expr (record { spot = record { line = 69; column = 18 }; node = (Choose' tt (more_of-Expr (record { line = 69; column = 19 }) (Logic' true tt (more_of-Expr (record { line = 69; column = 19 }) (Number (record { kind = I32; value = 7; of_kind = refl })) end_of-Expr) tt (more_of-Expr (record { line = 69; column = 26 }) (Named (codes "v16")) end_of-Expr)) end_of-Expr) tt (more_of-Expr (record { line = 69; column = 33 }) (Unary' Not tt (more_of-Expr (record { line = 69; column = 34 }) (Named (codes "f14")) end_of-Expr)) end_of-Expr) tt (more_of-Expr (record { line = 69; column = 41 }) (Unary' Not tt (more_of-Expr (record { line = 69; column = 44 }) (Unary' Deref tt (more_of-Expr (record { line = 69; column = 45 }) (Named (codes "h21")) end_of-Expr)) end_of-Expr)) end_of-Expr)) })) tt (more_of-Stmt (record { line = 70; column = 7 }) (Block' (tt ∷ []) (more_of-Stmt (record { line = 71; column = 9 }) (Express (roll-Expr (record { spot = record { line = 71; column = 9 }; node = (Assign' (Some Shr) tt (more_of-Expr (record { line = 71; column = 9 }) (Index' tt (more_of-Expr (record { line = 71; column = 9 }) (Index' tt (more_of-Expr (record { line = 71; column = 9 }) (Named (codes "a20")) end_of-Expr) tt (more_of-Expr (record { line = 71; column = 13 }) (Binary' Rem tt (more_of-Expr (record { line = 71; column = 13 }) (Cast' (record { base = record { spot = record { line = 71; column = 14 }; frozen = false; obliv = false; kind = (base.Int U32) }; stars = 0 }) tt (more_of-Expr (record { line = 71; column = 25 }) (Choose' tt (more_of-Expr (record { line = 71; column = 25 }) (Named (codes "v16")) end_of-Expr) tt (more_of-Expr (record { line = 71; column = 31 }) (Named (codes "v16")) end_of-Expr) tt (more_of-Expr (record { line = 71; column = 37 }) (Named (codes "v16")) end_of-Expr)) end_of-Expr)) end_of-Expr) tt (more_of-Expr (record { line = 71; column = 45 }) (Number (record { kind = U32; value = 2; of_kind = refl })) end_of-Expr)) end_of-Expr)) end_of-Expr) tt (more_of-Expr (record { line = 71; column = 49 }) (Number (record { kind = I32; value = 0; of_kind = refl })) end_of-Expr)) end_of-Expr) tt (more_of-Expr (record { line = 71; column = 56 }) (Binary' Div tt (more_of-Expr (record { line = 71; column = 57 }) (Binary' And tt (more_of-Expr (record { line = 71; column = 57 }) (Number (record { kind = U32; value = 2147483648; of_kind = refl })) end_of-Expr) tt (more_of-Expr (record { line = 71; column = 72 }) (Named (codes "f13")) end_of-Expr)) end_of-Expr) tt (more_of-Expr (record { line = 71; column = 79 }) (Number (record { kind = I32; value = 11; of_kind = refl })) end_of-Expr)) end_of-Expr)) }))) end_of-Stmt)) end_of-Stmt) None') end_of-Stmt)))) end_of-Stmt) (Some' tt (more_of-Stmt (record { line = 75; column = 5 }) (Block' (tt ∷ tt ∷ []) (more_of-Stmt (record { line = 76; column = 7 }) (Express (roll-Expr (record { spot = record { line = 76; column = 7 }; node = (Assign' None tt (more_of-Expr (record { line = 76; column = 7 }) (Named (codes "f14")) end_of-Expr) tt (more_of-Expr (record { line = 76; column = 13 }) (Cast' (record { base = record { spot = record { line = 76; column = 14 }; frozen = false; obliv = true; kind = (base.Int I32) }; stars = 0 }) tt (more_of-Expr (record { line = 76; column = 31 }) (Number (record { kind = I32; value = 5; of_kind = refl })) end_of-Expr)) end_of-Expr)) }))) (more_of-Stmt (record { line = 77; column = 7 }) (Express (roll-Expr (record { spot = record { line = 77; column = 7 }; node = (Assign' (Some Shr) tt (more_of-Expr (record { line = 77; column = 7 }) (Index' tt (more_of-Expr (record { line = 77; column = 7 }) (Named (codes "h21")) end_of-Expr) tt (more_of-Expr (record { line = 77; column = 11 }) (Number (record { kind = I32; value = 0; of_kind = refl })) end_of-Expr)) end_of-Expr) tt (more_of-Expr (record { line = 77; column = 18 }) (Named (codes "f15")) end_of-Expr)) }))) end_of-Stmt))) end_of-Stmt))) end_of-Stmt))))) end_of-Stmt))) })) ∷ (roll-Stmt (record { spot = record { line = 80; column = 3 }; node = (Express (roll-Expr (record { spot = record { line = 80; column = 3 }; node = (Assign' None tt (more_of-Expr (record { line = 80; column = 3 }) (Named (codes "v16")) end_of-Expr) tt (more_of-Expr (record { line = 80; column = 9 }) (Binary' Sub tt (more_of-Expr (record { line = 80; column = 10 }) (Binary' LessEq tt (more_of-Expr (record { line = 80; column = 10 }) (Named (codes "v16")) end_of-Expr) tt (more_of-Expr (record { line = 80; column = 18 }) (Binary' Greater tt (more_of-Expr (record { line = 80; column = 18 }) (Named (codes "v16")) end_of-Expr) tt (more_of-Expr (record { line = 80; column = 24 }) (Number (record { kind = I32; value = 31; of_kind = refl })) end_of-Expr)) end_of-Expr)) end_of-Expr) tt (more_of-Expr (record { line = 80; column = 34 }) (Cast' (record { base = record { spot = record { line = 80; column = 35 }; frozen = false; obliv = false; kind = (base.Int I64) }; stars = 0 }) tt (more_of-Expr (record { line = 80; column = 46 }) (Unary' Not tt (more_of-Expr (record { line = 80; column = 47 }) (Named (codes "v16")) end_of-Expr)) end_of-Expr)) end_of-Expr)) end_of-Expr)) }))) })) ∷ (roll-Stmt (record { spot = record { line = 81; column = 3 }; node = (Express (roll-Expr (record { spot = record { line = 81; column = 3 }; node = (Assign' (Some Or) tt (more_of-Expr (record { line = 81; column = 3 }) (Named (codes "v16")) end_of-Expr) tt (more_of-Expr (record { line = 81; column = 10 }) (Number (record { kind = U64; value = 9223372036854775807; of_kind = refl })) end_of-Expr)) }))) })) ∷ (roll-Stmt (record { spot = record { line = 82; column = 3 }; node = (Declare ((record { field = record { spot = record { line = 82; column = 16 }; name = (codes "h28"); base = record { spot = record { line = 82; column = 3 }; frozen = false; obliv = true; kind = (base.Int I16) }; stars = 1; dims = [] }; init = (Some (roll-Expr (record { spot = record { line = 82; column = 22 }; node = (Call' (codes "malloc") (tt ∷ []) (more_of-Expr (record { line = 82; column = 29 }) (Binary' Mul tt (more_of-Expr (record { line = 82; column = 29 }) (SizeOf (record { base = record { spot = record { line = 82; column = 36 }; frozen = false; obliv = true; kind = (base.Int I16) }; stars = 0 })) end_of-Expr) tt (more_of-Expr (record { line = 82; column = 51 }) (Number (record { kind = I32; value = 2; of_kind = refl })) end_of-Expr)) end_of-Expr)) }))) }) ∷ [])) })) ∷ (roll-Stmt (record { spot = record { line = 83; column = 3 }; node = (Block' (tt ∷ tt ∷ tt ∷ []) (more_of-Stmt (record { line = 84; column = 5 }) (Express (roll-Expr (record { spot = record { line = 84; column = 5 }; node = (Assign' None tt (more_of-Expr (record { line = 84; column = 5 }) (Named (codes "f14")) end_of-Expr) tt (more_of-Expr (record { line = 84; column = 11 }) (Named (codes "f14")) end_of-Expr)) }))) (more_of-Stmt (record { line = 85; column = 5 }) (OblivIf' (roll-Expr (record { spot = record { line = 85; column = 15 }; node = (Index' tt (more_of-Expr (record { line = 85; column = 15 }) (Named (codes "h28")) end_of-Expr) tt (more_of-Expr (record { line = 85; column = 19 }) (Number (record { kind = I32; value = 0; of_kind = refl })) end_of-Expr)) })) tt (more_of-Stmt (record { line = 86; column = 5 }) (Block' (tt ∷ []) (more_of-Stmt (record { line = 87; column = 7 }) (Express (roll-Expr (record { spot = record { line = 87; column = 7 }; node = (Assign' None tt (more_of-Expr (record { line = 87; column = 7 }) (Named (codes "f13")) end_of-Expr) tt (more_of-Expr (record { line = 87; column = 13 }) (Cast' (record { base = record { spot = record { line = 87; column = 14 }; frozen = false; obliv = true; kind = (base.Int I16) }; stars = 0 }) tt (more_of-Expr (record { line = 87; column = 33 }) (Named (codes "f15")) end_of-Expr)) end_of-Expr)) }))) end_of-Stmt)) end_of-Stmt) (Some' tt (more_of-Stmt (record { line = 90; column = 5 }) (Block' (tt ∷ tt ∷ []) (more_of-Stmt (record { line = 91; column = 7 }) (Express (roll-Expr (record { spot = record { line = 91; column = 7 }; node = (Assign' None tt (more_of-Expr (record { line = 91; column = 7 }) (Named (codes "f14")) end_of-Expr) tt (more_of-Expr (record { line = 91; column = 13 }) (Binary' NotEqual tt (more_of-Expr (record { line = 91; column = 14 }) (Cast' (record { base = record { spot = record { line = 91; column = 15 }; frozen = false; obliv = true; kind = (base.Int I64) }; stars = 0 }) tt (more_of-Expr (record { line = 91; column = 27 }) (Bump' false false tt (more_of-Expr (record { line = 91; column = 27 }) (Named (codes "f13")) end_of-Expr)) end_of-Expr)) end_of-Expr) tt (more_of-Expr (record { line = 91; column = 39 }) (Cast' (record { base = record { spot = record { line = 91; column = 40 }; frozen = false; obliv = true; kind = (base.Int I8) }; stars = 0 }) tt (more_of-Expr (record { line = 91; column = 59 }) (Call' (codes "fn3") (tt ∷ tt ∷ tt ∷ []) (more_of-Expr (record { line = 91; column = 64 }) (Choose' tt (more_of-Expr (record { line = 91; column = 64 }) (Named (codes "v16")) end_of-Expr) tt (more_of-Expr (record { line = 91; column = 70 }) (Named (codes "f15")) end_of-Expr) tt (more_of-Expr (record { line = 91; column = 76 }) (Named (codes "f15")) end_of-Expr)) (more_of-Expr (record { line = 91; column = 82 }) (Binary' NotEqual tt (more_of-Expr (record { line = 91; column = 83 }) (Unary' Deref tt (more_of-Expr (record { line = 91; column = 84 }) (Named (codes "h28")) end_of-Expr)) end_of-Expr) tt (more_of-Expr (record { line = 91; column = 92 }) (Index' tt (more_of-Expr (record { line = 91; column = 92 }) (Index' tt (more_of-Expr (record { line = 91; column = 92 }) (Named (codes "a20")) end_of-Expr) tt (more_of-Expr (record { line = 91; column = 96 }) (Number (record { kind = I32; value = 1; of_kind = refl })) end_of-Expr)) end_of-Expr) tt (more_of-Expr (record { line = 91; column = 99 }) (Number (record { kind = I32; value = 0; of_kind = refl })) end_of-Expr)) end_of-Expr)) (more_of-Expr (record { line = 91; column = 103 }) (Unary' Neg tt (more_of-Expr (record { line = 91; column = 104 }) (Named (codes "f15")) end_of-Expr)) end_of-Expr)))) end_of-Expr)) end_of-Expr)) end_of-Expr)) }))) (more_of-Stmt (record { line = 92; column = 7 }) (Declare ((record { field = record { spot = record { line = 92; column = 14 }; name = (codes "a29"); base = record { spot = record { line = 92; column = 7 }; frozen = false; obliv = false; kind = (base.Int I32) }; stars = 0; dims = (4 ∷ []) }; init = None }) ∷ [])) end_of-Stmt))) end_of-Stmt))) (more_of-Stmt (record { line = 94; column = 5 }) (Declare ((record { field = record { spot = record { line = 94; column = 16 }; name = (codes "v30"); base = record { spot = record { line = 94; column = 5 }; frozen = false; obliv = false; kind = (base.Int I32) }; stars = 0; dims = [] }; init = (Some (roll-Expr (record { spot = record { line = 94; column = 22 }; node = (Logic' true tt (more_of-Expr (record { line = 94; column = 23 }) (Binary' Div tt (more_of-Expr (record { line = 94; column = 23 }) (Named (codes "v16")) end_of-Expr) tt (more_of-Expr (record { line = 94; column = 29 }) (Number (record { kind = I32; value = 10; of_kind = refl })) end_of-Expr)) end_of-Expr) tt (more_of-Expr (record { line = 94; column = 37 }) (Call' (codes "ocPublicCount") ([]) end_of-Expr) end_of-Expr)) }))) }) ∷ [])) end_of-Stmt)))) })) ∷ (roll-Stmt (record { spot = record { line = 96; column = 3 }; node = (Express (roll-Expr (record { spot = record { line = 96; column = 3 }; node = (Assign' (Some Xor) tt (more_of-Expr (record { line = 96; column = 3 }) (Named (codes "f14")) end_of-Expr) tt (more_of-Expr (record { line = 96; column = 11 }) (Choose' tt (more_of-Expr (record { line = 96; column = 12 }) (Binary' NotEqual tt (more_of-Expr (record { line = 96; column = 12 }) (Number (record { kind = I32; value = 128; of_kind = refl })) end_of-Expr) tt (more_of-Expr (record { line = 96; column = 19 }) (Named (codes "v16")) end_of-Expr)) end_of-Expr) tt (more_of-Expr (record { line = 96; column = 27 }) (Choose' tt (more_of-Expr (record { line = 96; column = 27 }) (Named (codes "v16")) end_of-Expr) tt (more_of-Expr (record { line = 96; column = 33 }) (Named (codes "v16")) end_of-Expr) tt (more_of-Expr (record { line = 96; column = 39 }) (Named (codes "f14")) end_of-Expr)) end_of-Expr) tt (more_of-Expr (record { line = 96; column = 47 }) (Unary' Neg tt (more_of-Expr (record { line = 96; column = 48 }) (Named (codes "v16")) end_of-Expr)) end_of-Expr)) end_of-Expr)) }))) })) ∷ (roll-Stmt (record { spot = record { line = 97; column = 3 }; node = (Express (roll-Expr (record { spot = record { line = 97; column = 3 }; node = (Call' (codes "free") (tt ∷ []) (more_of-Expr (record { line = 97; column = 8 }) (Named (codes "h28")) end_of-Expr)) }))) })) ∷ (roll-Stmt (record { spot = record { line = 98; column = 3 }; node = (Declare ((record { field = record { spot = record { line = 98; column = 8 }; name = (codes "z31"); base = record { spot = record { line = 98; column = 3 }; frozen = false; obliv = false; kind = (base.Int KBool) }; stars = 0; dims = [] }; init = None }) ∷ [])) })) ∷ (roll-Stmt (record { spot = record { line = 99; column = 3 }; node = (Express (roll-Expr (record { spot = record { line = 99; column = 3 }; node = (Call' (codes "revealOblivBool") (tt ∷ tt ∷ tt ∷ []) (more_of-Expr (record { line = 99; column = 19 }) (Unary' Address tt (more_of-Expr (record { line = 99; column = 20 }) (Named (codes "z31")) end_of-Expr)) (more_of-Expr (record { line = 99; column = 25 }) (Named (codes "f13")) (more_of-Expr (record { line = 99; column = 30 }) (Number (record { kind = I32; value = 0; of_kind = refl })) end_of-Expr)))) }))) })) ∷ (roll-Stmt (record { spot = record { line = 100; column = 3 }; node = (Express (roll-Expr (record { spot = record { line = 100; column = 3 }; node = (Call' (codes "printf") (tt ∷ tt ∷ []) (more_of-Expr (record { line = 100; column = 10 }) (Text (37 ∷ 100 ∷ 10 ∷ [])) (more_of-Expr (record { line = 100; column = 18 }) (Named (codes "z31")) end_of-Expr))) }))) })) ∷ (roll-Stmt (record { spot = record { line = 101; column = 3 }; node = (Express (roll-Expr (record { spot = record { line = 101; column = 3 }; node = (Call' (codes "ocResult") (tt ∷ tt ∷ []) (more_of-Expr (record { line = 101; column = 12 }) (Named (codes "f14")) (more_of-Expr (record { line = 101; column = 17 }) (Number (record { kind = I32; value = 1; of_kind = refl })) end_of-Expr))) }))) })) ∷ (roll-Stmt (record { spot = record { line = 102; column = 3 }; node = (Declare ((record { field = record { spot = record { line = 102; column = 13 }; name = (codes "z32"); base = record { spot = record { line = 102; column = 3 }; frozen = false; obliv = false; kind = (base.Int I16) }; stars = 0; dims = [] }; init = None }) ∷ [])) })) ∷ (roll-Stmt (record { spot = record { line = 103; column = 3 }; node = (Express (roll-Expr (record { spot = record { line = 103; column = 3 }; node = (Call' (codes "revealOblivShort") (tt ∷ tt ∷ tt ∷ []) (more_of-Expr (record { line = 103; column = 20 }) (Unary' Address tt (more_of-Expr (record { line = 103; column = 21 }) (Named (codes "z32")) end_of-Expr)) (more_of-Expr (record { line = 103; column = 26 }) (Named (codes "f15")) (more_of-Expr (record { line = 103; column = 31 }) (Number (record { kind = I32; value = 0; of_kind = refl })) end_of-Expr)))) }))) })) ∷ (roll-Stmt (record { spot = record { line = 104; column = 3 }; node = (Express (roll-Expr (record { spot = record { line = 104; column = 3 }; node = (Call' (codes "printf") (tt ∷ tt ∷ []) (more_of-Expr (record { line = 104; column = 10 }) (Text (37 ∷ 100 ∷ 10 ∷ [])) (more_of-Expr (record { line = 104; column = 18 }) (Named (codes "z32")) end_of-Expr))) }))) })) ∷ (roll-Stmt (record { spot = record { line = 105; column = 3 }; node = (Express (roll-Expr (record { spot = record { line = 105; column = 3 }; node = (Call' (codes "printf") (tt ∷ tt ∷ []) (more_of-Expr (record { line = 105; column = 10 }) (Text (37 ∷ 108 ∷ 108 ∷ 100 ∷ 10 ∷ [])) (more_of-Expr (record { line = 105; column = 20 }) (Named (codes "v16")) end_of-Expr))) }))) })) ∷ [])) }) ∷ []); end = record { line = 107; column = 1 } }

abbrev setup : ClearSetup
setup = record { public = ((pos 127) ∷ (pos 100) ∷ []); first = ((negsuc 9223372036854775807) ∷ []); second = ((pos 2147483648) ∷ (pos 1) ∷ (pos 4294967295) ∷ []); dealt = 1048576; budget = 3000 }

clear : Means (typed_program source) setup (Revealed KBool (pos 0) ∷ Printed (48 ∷ 10 ∷ []) ∷ Given 1 KBool (pos 1) ∷ Revealed I16 (pos 0) ∷ Printed (48 ∷ 10 ∷ []) ∷ Printed (57 ∷ 50 ∷ 50 ∷ 51 ∷ 51 ∷ 55 ∷ 50 ∷ 48 ∷ 51 ∷ 54 ∷ 56 ∷ 53 ∷ 52 ∷ 55 ∷ 55 ∷ 53 ∷ 56 ∷ 48 ∷ 55 ∷ 10 ∷ []) ∷ []) Done
unfolding next typed_program typed_value typed_alone digits hidden-the_row-TExpr-0 hidden-the_row-TExpr-1 hidden-the_row-TPlace-2 hidden-the_row-TStmt-0 hidden-the_row-TStmt-1 hidden-the_row-CType-0 hidden
clear = (refl, refl)

events : Makes (typed_program source) setup ((pos 0) ∷ (pos 0) ∷ [])
    (Feed 2 KBool 0 ∷ Feed 1 KBool 0 ∷ Turn KBool I64 (Of 0) ∷ Op LessEq I64 (Of 2) (Fix I64 (pos 17)) ∷ Op Or KBool (Fix KBool (pos 0)) (Of 3) ∷ Turn KBool I32 (Fix KBool (pos 1)) ∷ Turn KBool I32 (Fix KBool (pos 1)) ∷ Op Rem I32 (Of 5) (Of 6) ∷ Op Rem I32 (Of 7) (Fix I32 (pos 1)) ∷ Turn I32 U32 (Of 8) ∷ Op NotEqual U32 (Fix U32 (pos 0)) (Of 9) ∷ Turn KBool I16 (Of 10) ∷ Turn KBool I32 (Fix KBool (pos 1)) ∷ Turn KBool I32 (Of 0) ∷ Op Equal I32 (Of 12) (Of 13) ∷ Turn KBool I32 (Fix KBool (pos 1)) ∷ Op LessEq I32 (Of 15) (Fix I32 (pos 0)) ∷ Op And KBool (Of 14) (Of 16) ∷ Turn KBool U16 (Of 17) ∷ Turn I32 U32 (Fix I32 (pos 0)) ∷ Turn U16 U32 (Of 18) ∷ Op Add U32 (Of 19) (Of 20) ∷ Turn U32 U32 (Of 21) ∷ Turn U32 I16 (Of 22) ∷ Pick I16 (Fix KBool (pos 1)) (Of 23) (Of 11) ∷ Turn U32 I64 (Fix U32 (pos 0)) ∷ Op Div I64 (Of 25) (Fix I64 (pos 4)) ∷ Op Div I64 (Of 26) (Fix I64 (pos 6)) ∷ Turn I64 U32 (Of 27) ∷ Op And KBool (Fix KBool (pos 1)) (Fix KBool (pos 1)) ∷ Turn U32 U8 (Fix U32 (pos 0)) ∷ Turn U8 I32 (Of 30) ∷ One one.Flip I32 (Of 31) ∷ Turn I32 KBool (Of 32) ∷ Pick KBool (Of 29) (Of 33) (Of 0) ∷ Turn KBool I32 (Of 34) ∷ ShiftBy Shl I32 (Of 35) (pos 0) ∷ Turn I32 KBool (Of 36) ∷ Op Or KBool (Fix KBool (pos 1)) (Of 37) ∷ Turn KBool U16 (Of 38) ∷ Pick U16 (Of 29) (Of 39) (Of 18) ∷ Turn U16 I32 (Of 40) ∷ Op GreaterEq I32 (Fix I32 (pos 2)) (Of 41) ∷ Turn KBool I32 (Of 42) ∷ Turn U32 I64 (Fix U32 (pos 0)) ∷ Op LessEq I64 (Of 44) (Fix I64 (pos 3)) ∷ Turn KBool I32 (Of 45) ∷ Op LessEq I32 (Of 43) (Of 46) ∷ Turn KBool I32 (Of 47) ∷ Turn I16 I32 (Of 24) ∷ Op Mul I32 (Of 49) (Of 48) ∷ Turn I32 I16 (Of 50) ∷ Pick I16 (Of 29) (Of 51) (Of 24) ∷ Op Xor KBool (Fix KBool (pos 1)) (Of 29) ∷ One one.Not KBool (Fix KBool (pos 1)) ∷ Turn KBool I32 (Of 54) ∷ Turn I32 KBool (Of 55) ∷ Op And KBool (Fix KBool (pos 1)) (Of 56) ∷ Turn KBool U32 (Of 34) ∷ Op And U32 (Fix U32 (pos 2147483648)) (Of 58) ∷ Op Div U32 (Of 59) (Fix U32 (pos 11)) ∷ Op Shr U32 (Fix U32 (pos 0)) (Of 60) ∷ Pick U32 (Of 57) (Of 61) (Fix U32 (pos 0)) ∷ Op Xor KBool (Fix KBool (pos 1)) (Of 57) ∷ One one.Flip KBool (Fix KBool (pos 1)) ∷ Turn I32 KBool (Fix I32 (pos 5)) ∷ Pick KBool (Of 64) (Of 65) (Fix KBool (pos 1)) ∷ Turn I16 I32 (Of 52) ∷ Op Shr I32 (Fix I32 (pos 0)) (Of 67) ∷ Pick I32 (Of 64) (Of 68) (Fix I32 (pos 0)) ∷ Turn I16 KBool (Fix I16 (pos 0)) ∷ Turn I16 I16 (Of 52) ∷ Turn I16 KBool (Of 71) ∷ Pick KBool (Of 70) (Of 72) (Of 34) ∷ One one.Flip KBool (Of 70) ∷ Turn KBool I32 (Of 73) ∷ Op Sub I32 (Of 75) (Fix I32 (pos 1)) ∷ Turn I32 KBool (Of 76) ∷ Pick KBool (Of 74) (Of 77) (Of 73) ∷ Turn KBool I64 (Of 73) ∷ Turn I16 I32 (Of 52) ∷ Turn I32 U8 (Of 80) ∷ Turn I16 U32 (Fix I16 (pos 0)) ∷ Op NotEqual U32 (Of 82) (Of 62) ∷ Turn KBool I32 (Of 83) ∷ Turn I16 I32 (Of 52) ∷ One one.Neg I32 (Of 85) ∷ Turn I32 I64 (Of 86) ∷ Turn U8 I32 (Of 81) ∷ Op Add I32 (Of 88) (Fix I32 (pos 1)) ∷ Turn I32 U8 (Of 89) ∷ Pick U8 (Of 74) (Of 90) (Of 81) ∷ Turn U8 I64 (Of 81) ∷ Pick I64 (Of 74) (Of 92) (Of 87) ∷ Turn U8 I64 (Of 91) ∷ Op Sub I64 (Of 94) (Fix I64 (pos 0)) ∷ Turn I64 U8 (Of 95) ∷ Pick U8 (Of 74) (Of 96) (Of 91) ∷ Turn U8 I32 (Of 97) ∷ Pick I32 (Of 74) (Of 98) (Of 84) ∷ Turn U8 I32 (Of 97) ∷ Op Less I32 (Of 100) (Fix I32 (pos 4)) ∷ Turn KBool I32 (Of 101) ∷ Op Or I32 (Of 99) (Of 102) ∷ Turn I32 I8 (Of 103) ∷ Turn I8 I8 (Of 104) ∷ Turn I8 I64 (Of 105) ∷ Op NotEqual I64 (Of 79) (Of 106) ∷ Pick KBool (Of 74) (Of 107) (Of 66) ∷ Turn KBool I64 (Of 108) ∷ Op Xor I64 (Of 109) (Fix I64 (pos 9223372036854775807)) ∷ Turn I64 KBool (Of 110) ∷ Reveal KBool (Of 78) ∷ Print (48 ∷ 10 ∷ []) ∷ Give 1 KBool (Of 111) ∷ Reveal I16 (Of 52) ∷ Print (48 ∷ 10 ∷ []) ∷ Print (57 ∷ 50 ∷ 50 ∷ 51 ∷ 51 ∷ 55 ∷ 50 ∷ 48 ∷ 51 ∷ 54 ∷ 56 ∷ 53 ∷ 52 ∷ 55 ∷ 55 ∷ 53 ∷ 56 ∷ 48 ∷ 55 ∷ 10 ∷ []) ∷ []) Done
unfolding next typed_program typed_value typed_alone digits hidden-the_row-TExpr-0 hidden-the_row-TExpr-1 hidden-the_row-TPlace-2 hidden-the_row-TStmt-0 hidden-the_row-TStmt-1 hidden-the_row-CType-0 hidden
events = (refl, refl)

typed : Passes (typed_program source)
unfolding next typed_program typed_value typed_alone digits hidden-the_row-TExpr-0 hidden-the_row-TExpr-1 hidden-the_row-TPlace-2 hidden-the_row-TStmt-0 hidden-the_row-TStmt-1 hidden-the_row-CType-0 hidden
typed = refl
