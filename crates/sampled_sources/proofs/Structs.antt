-- A source with structs, loops, conditions and many prints.
-- What its run shows and its events were made by an independent model.
use Rattle.std.proofs.Common.{refl, pos, negsuc, [], ◌∷◌, Some, None, true, false}
use Rattle.std.specs.Prelude.{codes}
use Rattle.oc_values.specs.declared.integers.IntKind.TheVariants.{Bool as KBool, I8, I16, U16, I32, U32, I64, U64}
use Rattle.oc_values.specs.declared.integers.BinaryOp.TheVariants.{Add, Sub, Mul, Div, Rem, Shl, Shr, And, Or, Xor, Less, LessEq, Greater, GreaterEq, Equal, NotEqual}
use Rattle.oc_cells.specs.declared.types.CType.TheBlock.{hidden-the_row-CType-0}
use denote.Hole.Carrier.{hidden}
use Rattle.oc_source.specs.declared.parsed.BaseKind.TheVariants as base
use Rattle.oc_source.specs.declared.parsed.ParamArray.TheVariants as array
use Rattle.oc_source.specs.declared.parsed.UnaryOp.TheVariants.{Neg, Plus, Not, Flip, Deref, Address}
use Rattle.oc_source.specs.declared.parsed.Expr.{roll-Expr}
use Rattle.oc_source.specs.declared.parsed.ExprNode.{Number, Text, Named, Unary', Bump', Binary', Logic', Choose', Assign', Index', Call', Cast', end_of-Expr, more_of-Expr}
use Rattle.oc_source.specs.declared.parsed.Stmt.{roll-Stmt}
use Rattle.oc_source.specs.declared.parsed.StmtNode.{Declare, Express, Block', If', OblivIf', While', For', Return, end_of-Stmt, more_of-Stmt, None', Some'}
use Rattle.oc_source.specs.declared.parsed.ForInit.TheVariants as begin
use Rattle.oc_source.specs.declared.parsed.Program.{Program}
use Rattle.type_rules.specs.Judging.{next}
use Rattle.type_rules.specs.Rules.{typed_value, typed_alone}
use Rattle.type_rules.specs.ProgramRules.{typed_program}
use Rattle.std.specs.Fmt.{digits}
use Rattle.oc_values.specs.declared.integers.OneOp.TheVariants as one
use Rattle.oc_typed.specs.declared.typed.TExprNode.TheBlock.{hidden-the_row-TExpr-0, hidden-the_row-TExpr-1, hidden-the_row-TPlace-2}
use Rattle.oc_typed.specs.declared.typed.TStmtNode.TheBlock.{hidden-the_row-TStmt-0, hidden-the_row-TStmt-1}
use Rattle.oc_walk.specs.declared.run.ShownItem.TheVariants.{Print as Printed, Reveal as Revealed, Give as Given}
use Rattle.oc_walk.specs.declared.run.ClearSetup.{ClearSetup}
use Rattle.oc_walk.specs.declared.run.Outcome.TheVariants.{Done}
use Rattle.oc_meanings.specs.Events.{Fix, Of, Feed, Op, One, Turn, Pick, Reveal, Give, Print}
use Rattle.sampled_sources.proofs.Means.{Means, Makes, Passes}

abbrev source : Program
source = record { structs = ((record { spot = record { line = 5; column = 8 }; name = (codes "Q"); fields = ((record { spot = record { line = 5; column = 16 }; name = (codes "x"); base = record { spot = record { line = 5; column = 12 }; frozen = false; obliv = false; kind = (base.Int I32) }; stars = 0; dims = [] }) ∷ (record { spot = record { line = 5; column = 29 }; name = (codes "h"); base = record { spot = record { line = 5; column = 19 }; frozen = false; obliv = true; kind = (base.Int I32) }; stars = 0; dims = [] }) ∷ []) }) ∷ (record { spot = record { line = 6; column = 8 }; name = (codes "W"); fields = ((record { spot = record { line = 6; column = 17 }; name = (codes "p"); base = record { spot = record { line = 6; column = 12 }; frozen = false; obliv = false; kind = (base.Int I32) }; stars = 1; dims = [] }) ∷ (record { spot = record { line = 6; column = 30 }; name = (codes "h"); base = record { spot = record { line = 6; column = 20 }; frozen = false; obliv = true; kind = (base.Int I32) }; stars = 0; dims = [] }) ∷ []) }) ∷ (record { spot = record { line = 7; column = 8 }; name = (codes "V"); fields = ((record { spot = record { line = 7; column = 22 }; name = (codes "h"); base = record { spot = record { line = 7; column = 12 }; frozen = false; obliv = true; kind = (base.Int I32) }; stars = 0; dims = [] }) ∷ (record { spot = record { line = 7; column = 35 }; name = (codes "k"); base = record { spot = record { line = 7; column = 25 }; frozen = false; obliv = true; kind = (base.Int I32) }; stars = 0; dims = (2 ∷ []) }) ∷ []) }) ∷ []); functions = ((record { spot = record { line = 8; column = 5 }; name = (codes "one"); result = (Some (record { base = record { spot = record { line = 8; column = 1 }; frozen = false; obliv = false; kind = (base.Int I32) }; stars = 0 })); params = ((record { spot = record { line = 8; column = 13 }; name = (codes "a"); base = record { spot = record { line = 8; column = 9 }; frozen = false; obliv = false; kind = (base.Int I32) }; stars = 0; array = array.Plain }) ∷ []); obliv = false; body = (Some ((roll-Stmt (record { spot = record { line = 8; column = 18 }; node = (Return (Some (roll-Expr (record { spot = record { line = 8; column = 25 }; node = (Named (codes "a")) })))) })) ∷ [])) }) ∷ (record { spot = record { line = 9; column = 6 }; name = (codes "none"); result = None; params = []; obliv = false; body = (Some []) }) ∷ (record { spot = record { line = 10; column = 5 }; name = (codes "proto"); result = (Some (record { base = record { spot = record { line = 10; column = 1 }; frozen = false; obliv = false; kind = (base.Int I32) }; stars = 0 })); params = ((record { spot = record { line = 10; column = 15 }; name = (codes "a"); base = record { spot = record { line = 10; column = 11 }; frozen = false; obliv = false; kind = (base.Int I32) }; stars = 0; array = array.Plain }) ∷ []); obliv = false; body = None }) ∷ (record { spot = record { line = 11; column = 6 }; name = (codes "takes"); result = None; params = ((record { spot = record { line = 11; column = 17 }; name = (codes "p"); base = record { spot = record { line = 11; column = 12 }; frozen = false; obliv = false; kind = (base.Int I32) }; stars = 1; array = array.Plain }) ∷ []); obliv = false; body = (Some []) }) ∷ (record { spot = record { line = 12; column = 6 }; name = (codes "sees"); result = None; params = ((record { spot = record { line = 12; column = 23 }; name = (codes "p"); base = record { spot = record { line = 12; column = 11 }; frozen = true; obliv = false; kind = (base.Int I32) }; stars = 1; array = array.Plain }) ∷ []); obliv = false; body = (Some []) }) ∷ (record { spot = record { line = 13; column = 6 }; name = (codes "mark"); result = None; params = ((record { spot = record { line = 13; column = 16 }; name = (codes "p"); base = record { spot = record { line = 13; column = 11 }; frozen = false; obliv = false; kind = (base.Int I32) }; stars = 1; array = array.Plain }) ∷ []); obliv = true; body = (Some ((roll-Stmt (record { spot = record { line = 13; column = 27 }; node = (Express (roll-Expr (record { spot = record { line = 13; column = 27 }; node = (Assign' None tt (more_of-Expr (record { line = 13; column = 27 }) (Unary' Deref tt (more_of-Expr (record { line = 13; column = 28 }) (Named (codes "p")) end_of-Expr)) end_of-Expr) tt (more_of-Expr (record { line = 13; column = 32 }) (Number (record { kind = I32; value = 1; of_kind = refl })) end_of-Expr)) }))) })) ∷ [])) }) ∷ (record { spot = record { line = 14; column = 6 }; name = (codes "markh"); result = None; params = ((record { spot = record { line = 14; column = 23 }; name = (codes "p"); base = record { spot = record { line = 14; column = 12 }; frozen = false; obliv = true; kind = (base.Int I32) }; stars = 1; array = array.Plain }) ∷ []); obliv = true; body = (Some ((roll-Stmt (record { spot = record { line = 14; column = 34 }; node = (Express (roll-Expr (record { spot = record { line = 14; column = 34 }; node = (Assign' None tt (more_of-Expr (record { line = 14; column = 34 }) (Unary' Deref tt (more_of-Expr (record { line = 14; column = 35 }) (Named (codes "p")) end_of-Expr)) end_of-Expr) tt (more_of-Expr (record { line = 14; column = 39 }) (Number (record { kind = I32; value = 1; of_kind = refl })) end_of-Expr)) }))) })) ∷ [])) }) ∷ (record { spot = record { line = 15; column = 6 }; name = (codes "markv"); result = None; params = ((record { spot = record { line = 15; column = 22 }; name = (codes "p"); base = record { spot = record { line = 15; column = 12 }; frozen = false; obliv = true; kind = (base.Int I32) }; stars = 0; array = array.Plain }) ∷ []); obliv = true; body = (Some ((roll-Stmt (record { spot = record { line = 15; column = 33 }; node = (Express (roll-Expr (record { spot = record { line = 15; column = 33 }; node = (Assign' None tt (more_of-Expr (record { line = 15; column = 33 }) (Named (codes "p")) end_of-Expr) tt (more_of-Expr (record { line = 15; column = 37 }) (Number (record { kind = I32; value = 1; of_kind = refl })) end_of-Expr)) }))) })) ∷ [])) }) ∷ (record { spot = record { line = 16; column = 5 }; name = (codes "i0"); result = (Some (record { base = record { spot = record { line = 16; column = 1 }; frozen = false; obliv = false; kind = (base.Int I32) }; stars = 0 })); params = ((record { spot = record { line = 16; column = 12 }; name = (codes "n"); base = record { spot = record { line = 16; column = 8 }; frozen = false; obliv = false; kind = (base.Int I32) }; stars = 0; array = array.Plain }) ∷ []); obliv = false; body = (Some ((roll-Stmt (record { spot = record { line = 16; column = 17 }; node = (Return (Some (roll-Expr (record { spot = record { line = 16; column = 24 }; node = (Number (record { kind = I32; value = 0; of_kind = refl })) })))) })) ∷ [])) }) ∷ (record { spot = record { line = 17; column = 5 }; name = (codes "recur"); result = (Some (record { base = record { spot = record { line = 17; column = 1 }; frozen = false; obliv = false; kind = (base.Int I32) }; stars = 0 })); params = ((record { spot = record { line = 17; column = 15 }; name = (codes "n"); base = record { spot = record { line = 17; column = 11 }; frozen = false; obliv = false; kind = (base.Int I32) }; stars = 0; array = array.Plain }) ∷ []); obliv = false; body = (Some ((roll-Stmt (record { spot = record { line = 17; column = 20 }; node = (If' (roll-Expr (record { spot = record { line = 17; column = 24 }; node = (Binary' LessEq tt (more_of-Expr (record { line = 17; column = 24 }) (Named (codes "n")) end_of-Expr) tt (more_of-Expr (record { line = 17; column = 29 }) (Number (record { kind = I32; value = 0; of_kind = refl })) end_of-Expr)) })) tt (more_of-Stmt (record { line = 17; column = 32 }) (Return (Some (roll-Expr (record { spot = record { line = 17; column = 39 }; node = (Number (record { kind = I32; value = 0; of_kind = refl })) })))) end_of-Stmt) None') })) ∷ (roll-Stmt (record { spot = record { line = 17; column = 42 }; node = (Return (Some (roll-Expr (record { spot = record { line = 17; column = 49 }; node = (Binary' Add tt (more_of-Expr (record { line = 17; column = 49 }) (Number (record { kind = I32; value = 1; of_kind = refl })) end_of-Expr) tt (more_of-Expr (record { line = 17; column = 53 }) (Call' (codes "recur") (tt ∷ []) (more_of-Expr (record { line = 17; column = 59 }) (Binary' Sub tt (more_of-Expr (record { line = 17; column = 59 }) (Named (codes "n")) end_of-Expr) tt (more_of-Expr (record { line = 17; column = 63 }) (Number (record { kind = I32; value = 1; of_kind = refl })) end_of-Expr)) end_of-Expr)) end_of-Expr)) })))) })) ∷ [])) }) ∷ (record { spot = record { line = 18; column = 6 }; name = (codes "ocmark"); result = None; params = ((record { spot = record { line = 18; column = 24 }; name = (codes "p"); base = record { spot = record { line = 18; column = 13 }; frozen = false; obliv = true; kind = (base.Int I32) }; stars = 1; array = array.Plain }) ∷ []); obliv = true; body = (Some ((roll-Stmt (record { spot = record { line = 18; column = 35 }; node = (OblivIf' (roll-Expr (record { spot = record { line = 18; column = 45 }; node = (Binary' Greater tt (more_of-Expr (record { line = 18; column = 45 }) (Unary' Deref tt (more_of-Expr (record { line = 18; column = 46 }) (Named (codes "p")) end_of-Expr)) end_of-Expr) tt (more_of-Expr (record { line = 18; column = 50 }) (Number (record { kind = I32; value = 4; of_kind = refl })) end_of-Expr)) })) tt (more_of-Stmt (record { line = 18; column = 53 }) (Block' (tt ∷ []) (more_of-Stmt (record { line = 18; column = 55 }) (Express (roll-Expr (record { spot = record { line = 18; column = 55 }; node = (Assign' None tt (more_of-Expr (record { line = 18; column = 55 }) (Unary' Deref tt (more_of-Expr (record { line = 18; column = 56 }) (Named (codes "p")) end_of-Expr)) end_of-Expr) tt (more_of-Expr (record { line = 18; column = 60 }) (Binary' Add tt (more_of-Expr (record { line = 18; column = 60 }) (Unary' Deref tt (more_of-Expr (record { line = 18; column = 61 }) (Named (codes "p")) end_of-Expr)) end_of-Expr) tt (more_of-Expr (record { line = 18; column = 65 }) (Number (record { kind = I32; value = 10; of_kind = refl })) end_of-Expr)) end_of-Expr)) }))) end_of-Stmt)) end_of-Stmt) (Some' tt (more_of-Stmt (record { line = 18; column = 76 }) (Express (roll-Expr (record { spot = record { line = 18; column = 76 }; node = (Assign' None tt (more_of-Expr (record { line = 18; column = 76 }) (Unary' Deref tt (more_of-Expr (record { line = 18; column = 77 }) (Named (codes "p")) end_of-Expr)) end_of-Expr) tt (more_of-Expr (record { line = 18; column = 81 }) (Number (record { kind = I32; value = 0; of_kind = refl })) end_of-Expr)) }))) end_of-Stmt))) })) ∷ [])) }) ∷ (record { spot = record { line = 19; column = 22 }; name = (codes "fn2"); result = (Some (record { base = record { spot = record { line = 19; column = 1 }; frozen = false; obliv = true; kind = (base.Int U16) }; stars = 0 })); params = ((record { spot = record { line = 19; column = 36 }; name = (codes "x3"); base = record { spot = record { line = 19; column = 26 }; frozen = false; obliv = true; kind = (base.Int I32) }; stars = 0; array = array.Plain }) ∷ (record { spot = record { line = 19; column = 50 }; name = (codes "x4"); base = record { spot = record { line = 19; column = 40 }; frozen = false; obliv = true; kind = (base.Int I32) }; stars = 0; array = array.Plain }) ∷ []); obliv = false; body = (Some ((roll-Stmt (record { spot = record { line = 20; column = 3 }; node = (Declare ((record { field = record { spot = record { line = 20; column = 7 }; name = (codes "v5"); base = record { spot = record { line = 20; column = 3 }; frozen = false; obliv = false; kind = (base.Int I32) }; stars = 0; dims = [] }; init = None }) ∷ [])) })) ∷ (roll-Stmt (record { spot = record { line = 21; column = 3 }; node = (Return (Some (roll-Expr (record { spot = record { line = 21; column = 10 }; node = (Call' (codes "ocPrivateCount") (tt ∷ []) (more_of-Expr (record { line = 21; column = 25 }) (Number (record { kind = I32; value = 1; of_kind = refl })) end_of-Expr)) })))) })) ∷ [])) }) ∷ (record { spot = record { line = 23; column = 20 }; name = (codes "fn6"); result = (Some (record { base = record { spot = record { line = 23; column = 1 }; frozen = false; obliv = false; kind = (base.Int U16) }; stars = 0 })); params = []; obliv = false; body = None }) ∷ (record { spot = record { line = 24; column = 20 }; name = (codes "fn6"); result = (Some (record { base = record { spot = record { line = 24; column = 1 }; frozen = false; obliv = false; kind = (base.Int U16) }; stars = 0 })); params = []; obliv = false; body = (Some ((roll-Stmt (record { spot = record { line = 25; column = 3 }; node = (OblivIf' (roll-Expr (record { spot = record { line = 25; column = 13 }; node = (Number (record { kind = I32; value = 18; of_kind = refl })) })) tt (more_of-Stmt (record { line = 26; column = 3 }) (Block' (tt ∷ tt ∷ []) (more_of-Stmt (record { line = 27; column = 5 }) (OblivIf' (roll-Expr (record { spot = record { line = 27; column = 15 }; node = (Number (record { kind = I32; value = 34; of_kind = refl })) })) tt (more_of-Stmt (record { line = 28; column = 5 }) (Block' (tt ∷ tt ∷ tt ∷ tt ∷ []) (more_of-Stmt (record { line = 29; column = 7 }) (Declare ((record { field = record { spot = record { line = 29; column = 16 }; name = (codes "v7"); base = record { spot = record { line = 29; column = 7 }; frozen = false; obliv = false; kind = (base.Int U32) }; stars = 0; dims = [] }; init = (Some (roll-Expr (record { spot = record { line = 29; column = 21 }; node = (Binary' NotEqual tt (more_of-Expr (record { line = 29; column = 21 }) (Binary' Sub tt (more_of-Expr (record { line = 29; column = 21 }) (Binary' Sub tt (more_of-Expr (record { line = 29; column = 21 }) (Number (record { kind = I32; value = 255; of_kind = refl })) end_of-Expr) tt (more_of-Expr (record { line = 29; column = 28 }) (Number (record { kind = I32; value = 32768; of_kind = refl })) end_of-Expr)) end_of-Expr) tt (more_of-Expr (record { line = 29; column = 37 }) (Number (record { kind = I32; value = 3; of_kind = refl })) end_of-Expr)) end_of-Expr) tt (more_of-Expr (record { line = 29; column = 42 }) (Number (record { kind = I32; value = 63; of_kind = refl })) end_of-Expr)) }))) }) ∷ [])) (more_of-Stmt (record { line = 30; column = 7 }) (Declare ((record { field = record { spot = record { line = 30; column = 24 }; name = (codes "v8"); base = record { spot = record { line = 30; column = 7 }; frozen = false; obliv = true; kind = (base.Int I32) }; stars = 0; dims = [] }; init = (Some (roll-Expr (record { spot = record { line = 30; column = 29 }; node = (Named (codes "v7")) }))) }) ∷ [])) (more_of-Stmt (record { line = 31; column = 7 }) (Declare ((record { field = record { spot = record { line = 31; column = 11 }; name = (codes "i9"); base = record { spot = record { line = 31; column = 7 }; frozen = false; obliv = false; kind = (base.Int I32) }; stars = 0; dims = [] }; init = (Some (roll-Expr (record { spot = record { line = 31; column = 16 }; node = (Number (record { kind = I32; value = 9; of_kind = refl })) }))) }) ∷ [])) (more_of-Stmt (record { line = 32; column = 7 }) (For' (begin.Express (roll-Expr (record { spot = record { line = 32; column = 12 }; node = (Assign' None tt (more_of-Expr (record { line = 32; column = 12 }) (Named (codes "i9")) end_of-Expr) tt (more_of-Expr (record { line = 32; column = 17 }) (Number (record { kind = I32; value = 0; of_kind = refl })) end_of-Expr)) }))) (Some (roll-Expr (record { spot = record { line = 32; column = 20 }; node = (Binary' Less tt (more_of-Expr (record { line = 32; column = 20 }) (Named (codes "i9")) end_of-Expr) tt (more_of-Expr (record { line = 32; column = 25 }) (Number (record { kind = I32; value = 2; of_kind = refl })) end_of-Expr)) }))) (Some (roll-Expr (record { spot = record { line = 32; column = 28 }; node = (Assign' None tt (more_of-Expr (record { line = 32; column = 28 }) (Named (codes "i9")) end_of-Expr) tt (more_of-Expr (record { line = 32; column = 33 }) (Binary' Add tt (more_of-Expr (record { line = 32; column = 33 }) (Named (codes "i9")) end_of-Expr) tt (more_of-Expr (record { line = 32; column = 38 }) (Number (record { kind = I32; value = 1; of_kind = refl })) end_of-Expr)) end_of-Expr)) }))) tt (more_of-Stmt (record { line = 33; column = 7 }) (Block' (tt ∷ tt ∷ tt ∷ []) (more_of-Stmt (record { line = 34; column = 9 }) (Express (roll-Expr (record { spot = record { line = 34; column = 9 }; node = (Assign' (Some Or) tt (more_of-Expr (record { line = 34; column = 9 }) (Named (codes "v8")) end_of-Expr) tt (more_of-Expr (record { line = 34; column = 15 }) (Binary' Shl tt (more_of-Expr (record { line = 34; column = 16 }) (Number (record { kind = I32; value = 32; of_kind = refl })) end_of-Expr) tt (more_of-Expr (record { line = 34; column = 25 }) (Binary' GreaterEq tt (more_of-Expr (record { line = 34; column = 25 }) (Number (record { kind = U32; value = 1; of_kind = refl })) end_of-Expr) tt (more_of-Expr (record { line = 34; column = 32 }) (Named (codes "i9")) end_of-Expr)) end_of-Expr)) end_of-Expr)) }))) (more_of-Stmt (record { line = 35; column = 9 }) (Express (roll-Expr (record { spot = record { line = 35; column = 9 }; node = (Assign' None tt (more_of-Expr (record { line = 35; column = 9 }) (Named (codes "v7")) end_of-Expr) tt (more_of-Expr (record { line = 35; column = 14 }) (Binary' Rem tt (more_of-Expr (record { line = 35; column = 15 }) (Unary' Neg tt (more_of-Expr (record { line = 35; column = 17 }) (Unary' Neg tt (more_of-Expr (record { line = 35; column = 18 }) (Named (codes "i9")) end_of-Expr)) end_of-Expr)) end_of-Expr) tt (more_of-Expr (record { line = 35; column = 25 }) (Number (record { kind = I32; value = 11; of_kind = refl })) end_of-Expr)) end_of-Expr)) }))) (more_of-Stmt (record { line = 36; column = 9 }) (If' (roll-Expr (record { spot = record { line = 36; column = 13 }; node = (Binary' NotEqual tt (more_of-Expr (record { line = 36; column = 13 }) (Named (codes "v7")) end_of-Expr) tt (more_of-Expr (record { line = 36; column = 19 }) (Binary' Sub tt (more_of-Expr (record { line = 36; column = 19 }) (Named (codes "i9")) end_of-Expr) tt (more_of-Expr (record { line = 36; column = 24 }) (Named (codes "v7")) end_of-Expr)) end_of-Expr)) })) tt (more_of-Stmt (record { line = 37; column = 9 }) (Block' (tt ∷ tt ∷ tt ∷ []) (more_of-Stmt (record { line = 38; column = 11 }) (Express (roll-Expr (record { spot = record { line = 38; column = 11 }; node = (Assign' (Some Shr) tt (more_of-Expr (record { line = 38; column = 11 }) (Named (codes "v8")) end_of-Expr) tt (more_of-Expr (record { line = 38; column = 18 }) (Binary' Sub tt (more_of-Expr (record { line = 38; column = 19 }) (Binary' Mul tt (more_of-Expr (record { line = 38; column = 19 }) (Named (codes "v7")) end_of-Expr) tt (more_of-Expr (record { line = 38; column = 24 }) (Named (codes "v7")) end_of-Expr)) end_of-Expr) tt (more_of-Expr (record { line = 38; column = 32 }) (Choose' tt (more_of-Expr (record { line = 38; column = 32 }) (Named (codes "i9")) end_of-Expr) tt (more_of-Expr (record { line = 38; column = 37 }) (Named (codes "v8")) end_of-Expr) tt (more_of-Expr (record { line = 38; column = 42 }) (Named (codes "v8")) end_of-Expr)) end_of-Expr)) end_of-Expr)) }))) (more_of-Stmt (record { line = 39; column = 11 }) (Express (roll-Expr (record { spot = record { line = 39; column = 11 }; node = (Assign' None tt (more_of-Expr (record { line = 39; column = 11 }) (Named (codes "v7")) end_of-Expr) tt (more_of-Expr (record { line = 39; column = 16 }) (Cast' (record { base = record { spot = record { line = 39; column = 17 }; frozen = false; obliv = false; kind = (base.Int I32) }; stars = 0 }) tt (more_of-Expr (record { line = 39; column = 23 }) (Choose' tt (more_of-Expr (record { line = 39; column = 23 }) (Named (codes "i9")) end_of-Expr) tt (more_of-Expr (record { line = 39; column = 28 }) (Binary' Sub tt (more_of-Expr (record { line = 39; column = 28 }) (Named (codes "v7")) end_of-Expr) tt (more_of-Expr (record { line = 39; column = 33 }) (Named (codes "v7")) end_of-Expr)) end_of-Expr) tt (more_of-Expr (record { line = 39; column = 39 }) (Unary' Flip tt (more_of-Expr (record { line = 39; column = 40 }) (Named (codes "v7")) end_of-Expr)) end_of-Expr)) end_of-Expr)) end_of-Expr)) }))) (more_of-Stmt (record { line = 40; column = 11 }) (Express (roll-Expr (record { spot = record { line = 40; column = 11 }; node = (Assign' None tt (more_of-Expr (record { line = 40; column = 11 }) (Named (codes "v8")) end_of-Expr) tt (more_of-Expr (record { line = 40; column = 17 }) (Assign' (Some And) tt (more_of-Expr (record { line = 40; column = 17 }) (Named (codes "v7")) end_of-Expr) tt (more_of-Expr (record { line = 40; column = 23 }) (Binary' Less tt (more_of-Expr (record { line = 40; column = 23 }) (Named (codes "i9")) end_of-Expr) tt (more_of-Expr (record { line = 40; column = 28 }) (Number (record { kind = I32; value = 6; of_kind = refl })) end_of-Expr)) end_of-Expr)) end_of-Expr)) }))) end_of-Stmt)))) end_of-Stmt) None') end_of-Stmt)))) end_of-Stmt)) end_of-Stmt))))) end_of-Stmt) (Some' tt (more_of-Stmt (record { line = 45; column = 5 }) (Block' (tt ∷ []) (more_of-Stmt (record { line = 46; column = 7 }) (If' (roll-Expr (record { spot = record { line = 46; column = 12 }; node = (Choose' tt (more_of-Expr (record { line = 46; column = 13 }) (Unary' Flip tt (more_of-Expr (record { line = 46; column = 14 }) (Number (record { kind = I32; value = 65536; of_kind = refl })) end_of-Expr)) end_of-Expr) tt (more_of-Expr (record { line = 46; column = 25 }) (Binary' Equal tt (more_of-Expr (record { line = 46; column = 25 }) (Number (record { kind = I32; value = 65536; of_kind = refl })) end_of-Expr) tt (more_of-Expr (record { line = 46; column = 36 }) (Number (record { kind = I32; value = 9; of_kind = refl })) end_of-Expr)) end_of-Expr) tt (more_of-Expr (record { line = 46; column = 41 }) (Unary' Plus tt (more_of-Expr (record { line = 46; column = 42 }) (Number (record { kind = I32; value = 31; of_kind = refl })) end_of-Expr)) end_of-Expr)) })) tt (more_of-Stmt (record { line = 47; column = 7 }) (Block' (tt ∷ tt ∷ []) (more_of-Stmt (record { line = 48; column = 9 }) (Declare ((record { field = record { spot = record { line = 48; column = 19 }; name = (codes "v10"); base = record { spot = record { line = 48; column = 9 }; frozen = false; obliv = true; kind = (base.Int I32) }; stars = 0; dims = [] }; init = (Some (roll-Expr (record { spot = record { line = 48; column = 25 }; node = (Number (record { kind = I32; value = 256; of_kind = refl })) }))) }) ∷ (record { field = record { spot = record { line = 48; column = 30 }; name = (codes "v11"); base = record { spot = record { line = 48; column = 9 }; frozen = false; obliv = true; kind = (base.Int I32) }; stars = 0; dims = [] }; init = None }) ∷ [])) (more_of-Stmt (record { line = 49; column = 9 }) (Declare ((record { field = record { spot = record { line = 49; column = 24 }; name = (codes "a12"); base = record { spot = record { line = 49; column = 9 }; frozen = false; obliv = false; kind = (base.Int U16) }; stars = 0; dims = (3 ∷ 2 ∷ []) }; init = None }) ∷ [])) end_of-Stmt))) end_of-Stmt) None') end_of-Stmt)) end_of-Stmt))) (more_of-Stmt (record { line = 52; column = 5 }) (Declare ((record { field = record { spot = record { line = 52; column = 14 }; name = (codes "v13"); base = record { spot = record { line = 52; column = 5 }; frozen = false; obliv = false; kind = (base.Int U32) }; stars = 0; dims = [] }; init = None }) ∷ [])) end_of-Stmt))) end_of-Stmt) (Some' tt (more_of-Stmt (record { line = 55; column = 3 }) (Block' (tt ∷ tt ∷ []) (more_of-Stmt (record { line = 56; column = 5 }) (Declare ((record { field = record { spot = record { line = 56; column = 19 }; name = (codes "v14"); base = record { spot = record { line = 56; column = 5 }; frozen = false; obliv = false; kind = (base.Int U64) }; stars = 0; dims = [] }; init = (Some (roll-Expr (record { spot = record { line = 56; column = 25 }; node = (Number (record { kind = I32; value = 6; of_kind = refl })) }))) }) ∷ [])) (more_of-Stmt (record { line = 57; column = 5 }) (Express (roll-Expr (record { spot = record { line = 57; column = 5 }; node = (Assign' None tt (more_of-Expr (record { line = 57; column = 5 }) (Named (codes "v14")) end_of-Expr) tt (more_of-Expr (record { line = 57; column = 11 }) (Binary' Sub tt (more_of-Expr (record { line = 57; column = 12 }) (Unary' Not tt (more_of-Expr (record { line = 57; column = 14 }) (Binary' Mul tt (more_of-Expr (record { line = 57; column = 14 }) (Named (codes "v14")) end_of-Expr) tt (more_of-Expr (record { line = 57; column = 20 }) (Named (codes "v14")) end_of-Expr)) end_of-Expr)) end_of-Expr) tt (more_of-Expr (record { line = 57; column = 28 }) (Named (codes "v14")) end_of-Expr)) end_of-Expr)) }))) end_of-Stmt))) end_of-Stmt))) })) ∷ (roll-Stmt (record { spot = record { line = 59; column = 3 }; node = (Return (Some (roll-Expr (record { spot = record { line = 59; column = 10 }; node = (Binary' Shr tt (more_of-Expr (record { line = 59; column = 11 }) (Binary' And tt (more_of-Expr (record { line = 59; column = 11 }) (Number (record { kind = I32; value = 26; of_kind = refl })) end_of-Expr) tt (more_of-Expr (record { line = 59; column = 16 }) (Number (record { kind = U64; value = 9223372036854775808; of_kind = refl })) end_of-Expr)) end_of-Expr) tt (more_of-Expr (record { line = 59; column = 40 }) (Call' (codes "ocPrivateCount") (tt ∷ []) (more_of-Expr (record { line = 59; column = 55 }) (Number (record { kind = I32; value = 1; of_kind = refl })) end_of-Expr)) end_of-Expr)) })))) })) ∷ [])) }) ∷ (record { spot = record { line = 61; column = 6 }; name = (codes "oc_main"); result = None; params = []; obliv = false; body = (Some ((roll-Stmt (record { spot = record { line = 62; column = 3 }; node = (Declare ((record { field = record { spot = record { line = 62; column = 13 }; name = (codes "f15"); base = record { spot = record { line = 62; column = 3 }; frozen = false; obliv = true; kind = (base.Int I32) }; stars = 0; dims = [] }; init = (Some (roll-Expr (record { spot = record { line = 62; column = 19 }; node = (Call' (codes "feedOblivInt") (tt ∷ tt ∷ []) (more_of-Expr (record { line = 62; column = 32 }) (Call' (codes "ocPrivate") (tt ∷ []) (more_of-Expr (record { line = 62; column = 42 }) (Number (record { kind = I32; value = 2; of_kind = refl })) end_of-Expr)) (more_of-Expr (record { line = 62; column = 46 }) (Number (record { kind = I32; value = 2; of_kind = refl })) end_of-Expr))) }))) }) ∷ [])) })) ∷ (roll-Stmt (record { spot = record { line = 63; column = 3 }; node = (Declare ((record { field = record { spot = record { line = 63; column = 26 }; name = (codes "f16"); base = record { spot = record { line = 63; column = 3 }; frozen = false; obliv = true; kind = (base.Int I16) }; stars = 0; dims = [] }; init = (Some (roll-Expr (record { spot = record { line = 63; column = 32 }; node = (Call' (codes "feedOblivShort") (tt ∷ tt ∷ []) (more_of-Expr (record { line = 63; column = 47 }) (Call' (codes "ocPrivate") (tt ∷ []) (more_of-Expr (record { line = 63; column = 57 }) (Number (record { kind = I32; value = 0; of_kind = refl })) end_of-Expr)) (more_of-Expr (record { line = 63; column = 61 }) (Number (record { kind = I32; value = 1; of_kind = refl })) end_of-Expr))) }))) }) ∷ [])) })) ∷ (roll-Stmt (record { spot = record { line = 64; column = 3 }; node = (Declare ((record { field = record { spot = record { line = 64; column = 23 }; name = (codes "f17"); base = record { spot = record { line = 64; column = 3 }; frozen = false; obliv = true; kind = (base.Int I64) }; stars = 0; dims = [] }; init = (Some (roll-Expr (record { spot = record { line = 64; column = 29 }; node = (Call' (codes "feedOblivLLong") (tt ∷ tt ∷ []) (more_of-Expr (record { line = 64; column = 44 }) (Call' (codes "ocPrivate") (tt ∷ []) (more_of-Expr (record { line = 64; column = 54 }) (Number (record { kind = I32; value = 1; of_kind = refl })) end_of-Expr)) (more_of-Expr (record { line = 64; column = 58 }) (Number (record { kind = I32; value = 1; of_kind = refl })) end_of-Expr))) }))) }) ∷ [])) })) ∷ (roll-Stmt (record { spot = record { line = 65; column = 3 }; node = (Express (roll-Expr (record { spot = record { line = 65; column = 3 }; node = (Assign' None tt (more_of-Expr (record { line = 65; column = 3 }) (Named (codes "f16")) end_of-Expr) tt (more_of-Expr (record { line = 65; column = 9 }) (Call' (codes "fn6") ([]) end_of-Expr) end_of-Expr)) }))) })) ∷ (roll-Stmt (record { spot = record { line = 66; column = 3 }; node = (Declare ((record { field = record { spot = record { line = 66; column = 20 }; name = (codes "v18"); base = record { spot = record { line = 66; column = 3 }; frozen = false; obliv = false; kind = (base.Int I64) }; stars = 0; dims = [] }; init = (Some (roll-Expr (record { spot = record { line = 66; column = 26 }; node = (Binary' Rem tt (more_of-Expr (record { line = 66; column = 26 }) (Cast' (record { base = record { spot = record { line = 66; column = 27 }; frozen = false; obliv = false; kind = (base.Int I16) }; stars = 0 }) tt (more_of-Expr (record { line = 66; column = 40 }) (Number (record { kind = I32; value = 11; of_kind = refl })) end_of-Expr)) end_of-Expr) tt (more_of-Expr (record { line = 66; column = 45 }) (Number (record { kind = I32; value = 5; of_kind = refl })) end_of-Expr)) }))) }) ∷ [])) })) ∷ (roll-Stmt (record { spot = record { line = 67; column = 3 }; node = (Express (roll-Expr (record { spot = record { line = 67; column = 3 }; node = (Assign' None tt (more_of-Expr (record { line = 67; column = 3 }) (Named (codes "f15")) end_of-Expr) tt (more_of-Expr (record { line = 67; column = 9 }) (Named (codes "v18")) end_of-Expr)) }))) })) ∷ (roll-Stmt (record { spot = record { line = 68; column = 3 }; node = (Declare ((record { field = record { spot = record { line = 68; column = 7 }; name = (codes "w19"); base = record { spot = record { line = 68; column = 3 }; frozen = false; obliv = false; kind = (base.Int I32) }; stars = 0; dims = [] }; init = (Some (roll-Expr (record { spot = record { line = 68; column = 13 }; node = (Number (record { kind = I32; value = 2; of_kind = refl })) }))) }) ∷ [])) })) ∷ (roll-Stmt (record { spot = record { line = 69; column = 3 }; node = (While' (roll-Expr (record { spot = record { line = 69; column = 10 }; node = (Binary' Greater tt (more_of-Expr (record { line = 69; column = 10 }) (Bump' false false tt (more_of-Expr (record { line = 69; column = 10 }) (Named (codes "w19")) end_of-Expr)) end_of-Expr) tt (more_of-Expr (record { line = 69; column = 18 }) (Number (record { kind = I32; value = 0; of_kind = refl })) end_of-Expr)) })) tt (more_of-Stmt (record { line = 70; column = 3 }) (Block' (tt ∷ tt ∷ tt ∷ tt ∷ []) (more_of-Stmt (record { line = 71; column = 5 }) (Declare ((record { field = record { spot = record { line = 71; column = 21 }; name = (codes "v20"); base = record { spot = record { line = 71; column = 5 }; frozen = false; obliv = true; kind = (base.Int I64) }; stars = 0; dims = [] }; init = (Some (roll-Expr (record { spot = record { line = 71; column = 28 }; node = (Choose' tt (more_of-Expr (record { line = 71; column = 29 }) (Number (record { kind = I32; value = 92; of_kind = refl })) end_of-Expr) tt (more_of-Expr (record { line = 71; column = 38 }) (Choose' tt (more_of-Expr (record { line = 71; column = 38 }) (Named (codes "v18")) end_of-Expr) tt (more_of-Expr (record { line = 71; column = 44 }) (Number (record { kind = I32; value = 5; of_kind = refl })) end_of-Expr) tt (more_of-Expr (record { line = 71; column = 50 }) (Named (codes "f17")) end_of-Expr)) end_of-Expr) tt (more_of-Expr (record { line = 71; column = 58 }) (Unary' Plus tt (more_of-Expr (record { line = 71; column = 59 }) (Named (codes "f15")) end_of-Expr)) end_of-Expr)) }))) }) ∷ [])) (more_of-Stmt (record { line = 72; column = 5 }) (Declare ((record { field = record { spot = record { line = 72; column = 19 }; name = (codes "r21"); base = record { spot = record { line = 72; column = 5 }; frozen = false; obliv = false; kind = (base.Int I64) }; stars = 0; dims = [] }; init = None }) ∷ [])) (more_of-Stmt (record { line = 73; column = 5 }) (Express (roll-Expr (record { spot = record { line = 73; column = 5 }; node = (Call' (codes "revealOblivLLong") (tt ∷ tt ∷ tt ∷ []) (more_of-Expr (record { line = 73; column = 22 }) (Unary' Address tt (more_of-Expr (record { line = 73; column = 23 }) (Named (codes "r21")) end_of-Expr)) (more_of-Expr (record { line = 73; column = 28 }) (Call' (codes "ocPublicCount") ([]) end_of-Expr) (more_of-Expr (record { line = 73; column = 45 }) (Number (record { kind = I32; value = 0; of_kind = refl })) end_of-Expr)))) }))) (more_of-Stmt (record { line = 74; column = 5 }) (Express (roll-Expr (record { spot = record { line = 74; column = 5 }; node = (Call' (codes "printf") (tt ∷ tt ∷ []) (more_of-Expr (record { line = 74; column = 12 }) (Text (37 ∷ 108 ∷ 108 ∷ 100 ∷ 10 ∷ [])) (more_of-Expr (record { line = 74; column = 22 }) (Named (codes "r21")) end_of-Expr))) }))) end_of-Stmt))))) end_of-Stmt)) })) ∷ (roll-Stmt (record { spot = record { line = 76; column = 3 }; node = (Express (roll-Expr (record { spot = record { line = 76; column = 3 }; node = (Assign' None tt (more_of-Expr (record { line = 76; column = 3 }) (Named (codes "f16")) end_of-Expr) tt (more_of-Expr (record { line = 76; column = 9 }) (Cast' (record { base = record { spot = record { line = 76; column = 10 }; frozen = false; obliv = true; kind = (base.Int U32) }; stars = 0 }) tt (more_of-Expr (record { line = 76; column = 25 }) (Cast' (record { base = record { spot = record { line = 76; column = 26 }; frozen = false; obliv = true; kind = (base.Int U16) }; stars = 0 }) tt (more_of-Expr (record { line = 76; column = 48 }) (Binary' And tt (more_of-Expr (record { line = 76; column = 48 }) (Number (record { kind = I32; value = 1; of_kind = refl })) end_of-Expr) tt (more_of-Expr (record { line = 76; column = 55 }) (Named (codes "f15")) end_of-Expr)) end_of-Expr)) end_of-Expr)) end_of-Expr)) }))) })) ∷ (roll-Stmt (record { spot = record { line = 77; column = 3 }; node = (Declare ((record { field = record { spot = record { line = 77; column = 26 }; name = (codes "v22"); base = record { spot = record { line = 77; column = 3 }; frozen = false; obliv = true; kind = (base.Int I16) }; stars = 0; dims = [] }; init = (Some (roll-Expr (record { spot = record { line = 77; column = 33 }; node = (Assign' (Some Sub) tt (more_of-Expr (record { line = 77; column = 33 }) (Named (codes "v18")) end_of-Expr) tt (more_of-Expr (record { line = 77; column = 41 }) (Bump' false true tt (more_of-Expr (record { line = 77; column = 43 }) (Named (codes "v18")) end_of-Expr)) end_of-Expr)) }))) }) ∷ (record { field = record { spot = record { line = 77; column = 50 }; name = (codes "v23"); base = record { spot = record { line = 77; column = 3 }; frozen = false; obliv = true; kind = (base.Int I16) }; stars = 0; dims = [] }; init = (Some (roll-Expr (record { spot = record { line = 77; column = 56 }; node = (Binary' Div tt (more_of-Expr (record { line = 77; column = 56 }) (Number (record { kind = I64; value = 65535; of_kind = refl })) end_of-Expr) tt (more_of-Expr (record { line = 77; column = 68 }) (Number (record { kind = I32; value = 2; of_kind = refl })) end_of-Expr)) }))) }) ∷ [])) })) ∷ (roll-Stmt (record { spot = record { line = 78; column = 3 }; node = (Declare ((record { field = record { spot = record { line = 78; column = 15 }; name = (codes "f24"); base = record { spot = record { line = 78; column = 3 }; frozen = false; obliv = true; kind = (base.Int KBool) }; stars = 0; dims = [] }; init = (Some (roll-Expr (record { spot = record { line = 78; column = 21 }; node = (Call' (codes "feedOblivBool") (tt ∷ tt ∷ []) (more_of-Expr (record { line = 78; column = 35 }) (Call' (codes "ocPrivate") (tt ∷ []) (more_of-Expr (record { line = 78; column = 45 }) (Number (record { kind = I32; value = 1; of_kind = refl })) end_of-Expr)) (more_of-Expr (record { line = 78; column = 49 }) (Number (record { kind = I32; value = 2; of_kind = refl })) end_of-Expr))) }))) }) ∷ [])) })) ∷ (roll-Stmt (record { spot = record { line = 79; column = 3 }; node = (Express (roll-Expr (record { spot = record { line = 79; column = 3 }; node = (Assign' (Some Add) tt (more_of-Expr (record { line = 79; column = 3 }) (Named (codes "f15")) end_of-Expr) tt (more_of-Expr (record { line = 79; column = 10 }) (Unary' Neg tt (more_of-Expr (record { line = 79; column = 12 }) (Logic' false tt (more_of-Expr (record { line = 79; column = 12 }) (Number (record { kind = I32; value = 0; of_kind = refl })) end_of-Expr) tt (more_of-Expr (record { line = 79; column = 17 }) (Named (codes "f16")) end_of-Expr)) end_of-Expr)) end_of-Expr)) }))) })) ∷ (roll-Stmt (record { spot = record { line = 80; column = 3 }; node = (Express (roll-Expr (record { spot = record { line = 80; column = 3 }; node = (Bump' false true tt (more_of-Expr (record { line = 80; column = 5 }) (Named (codes "f17")) end_of-Expr)) }))) })) ∷ (roll-Stmt (record { spot = record { line = 81; column = 3 }; node = (Express (roll-Expr (record { spot = record { line = 81; column = 3 }; node = (Assign' (Some Mul) tt (more_of-Expr (record { line = 81; column = 3 }) (Named (codes "f16")) end_of-Expr) tt (more_of-Expr (record { line = 81; column = 11 }) (Bump' true true tt (more_of-Expr (record { line = 81; column = 13 }) (Named (codes "f16")) end_of-Expr)) end_of-Expr)) }))) })) ∷ (roll-Stmt (record { spot = record { line = 82; column = 3 }; node = (Express (roll-Expr (record { spot = record { line = 82; column = 3 }; node = (Assign' (Some Or) tt (more_of-Expr (record { line = 82; column = 3 }) (Named (codes "f16")) end_of-Expr) tt (more_of-Expr (record { line = 82; column = 10 }) (Number (record { kind = I64; value = 4294967295; of_kind = refl })) end_of-Expr)) }))) })) ∷ (roll-Stmt (record { spot = record { line = 83; column = 3 }; node = (Declare ((record { field = record { spot = record { line = 83; column = 12 }; name = (codes "v25"); base = record { spot = record { line = 83; column = 3 }; frozen = false; obliv = false; kind = (base.Int I64) }; stars = 0; dims = [] }; init = (Some (roll-Expr (record { spot = record { line = 83; column = 19 }; node = (Choose' tt (more_of-Expr (record { line = 83; column = 19 }) (Number (record { kind = I32; value = 0; of_kind = refl })) end_of-Expr) tt (more_of-Expr (record { line = 83; column = 27 }) (Binary' Shr tt (more_of-Expr (record { line = 83; column = 27 }) (Number (record { kind = I32; value = 0; of_kind = refl })) end_of-Expr) tt (more_of-Expr (record { line = 83; column = 33 }) (Named (codes "v18")) end_of-Expr)) end_of-Expr) tt (more_of-Expr (record { line = 83; column = 40 }) (Call' (codes "fn6") ([]) end_of-Expr) end_of-Expr)) }))) }) ∷ [])) })) ∷ (roll-Stmt (record { spot = record { line = 84; column = 3 }; node = (Declare ((record { field = record { spot = record { line = 84; column = 17 }; name = (codes "r26"); base = record { spot = record { line = 84; column = 3 }; frozen = false; obliv = false; kind = (base.Int I64) }; stars = 0; dims = [] }; init = None }) ∷ [])) })) ∷ (roll-Stmt (record { spot = record { line = 85; column = 1 }; node = (Block' (tt ∷ tt ∷ []) (more_of-Stmt (record { line = 85; column = 3 }) (Declare ((record { field = record { spot = record { line = 85; column = 7 }; name = (codes "m"); base = record { spot = record { line = 85; column = 3 }; frozen = false; obliv = false; kind = (base.Int I32) }; stars = 0; dims = [] }; init = (Some (roll-Expr (record { spot = record { line = 85; column = 11 }; node = (Binary' Sub tt (more_of-Expr (record { line = 85; column = 11 }) (Unary' Neg tt (more_of-Expr (record { line = 85; column = 12 }) (Number (record { kind = I32; value = 2147483647; of_kind = refl })) end_of-Expr)) end_of-Expr) tt (more_of-Expr (record { line = 85; column = 25 }) (Number (record { kind = I32; value = 1; of_kind = refl })) end_of-Expr)) }))) }) ∷ [])) (more_of-Stmt (record { line = 85; column = 28 }) (Express (roll-Expr (record { spot = record { line = 85; column = 28 }; node = (Call' (codes "printf") (tt ∷ tt ∷ tt ∷ tt ∷ []) (more_of-Expr (record { line = 85; column = 35 }) (Text (37 ∷ 100 ∷ 32 ∷ 37 ∷ 100 ∷ 32 ∷ 37 ∷ 100 ∷ 10 ∷ [])) (more_of-Expr (record { line = 85; column = 49 }) (Binary' Div tt (more_of-Expr (record { line = 85; column = 49 }) (Named (codes "m")) end_of-Expr) tt (more_of-Expr (record { line = 85; column = 53 }) (Unary' Neg tt (more_of-Expr (record { line = 85; column = 54 }) (Number (record { kind = I32; value = 1; of_kind = refl })) end_of-Expr)) end_of-Expr)) (more_of-Expr (record { line = 85; column = 57 }) (Binary' Rem tt (more_of-Expr (record { line = 85; column = 57 }) (Named (codes "m")) end_of-Expr) tt (more_of-Expr (record { line = 85; column = 61 }) (Unary' Neg tt (more_of-Expr (record { line = 85; column = 62 }) (Number (record { kind = I32; value = 1; of_kind = refl })) end_of-Expr)) end_of-Expr)) (more_of-Expr (record { line = 85; column = 65 }) (Unary' Neg tt (more_of-Expr (record { line = 85; column = 66 }) (Named (codes "m")) end_of-Expr)) end_of-Expr))))) }))) end_of-Stmt))) })) ∷ (roll-Stmt (record { spot = record { line = 86; column = 3 }; node = (Express (roll-Expr (record { spot = record { line = 86; column = 3 }; node = (Call' (codes "revealOblivLLong") (tt ∷ tt ∷ tt ∷ []) (more_of-Expr (record { line = 86; column = 20 }) (Unary' Address tt (more_of-Expr (record { line = 86; column = 21 }) (Named (codes "r26")) end_of-Expr)) (more_of-Expr (record { line = 86; column = 27 }) (Assign' (Some Or) tt (more_of-Expr (record { line = 86; column = 27 }) (Named (codes "f16")) end_of-Expr) tt (more_of-Expr (record { line = 86; column = 34 }) (Named (codes "v22")) end_of-Expr)) (more_of-Expr (record { line = 86; column = 40 }) (Number (record { kind = I32; value = 0; of_kind = refl })) end_of-Expr)))) }))) })) ∷ (roll-Stmt (record { spot = record { line = 87; column = 3 }; node = (Express (roll-Expr (record { spot = record { line = 87; column = 3 }; node = (Call' (codes "printf") (tt ∷ tt ∷ []) (more_of-Expr (record { line = 87; column = 10 }) (Text (37 ∷ 108 ∷ 108 ∷ 100 ∷ 10 ∷ [])) (more_of-Expr (record { line = 87; column = 20 }) (Named (codes "r26")) end_of-Expr))) }))) })) ∷ (roll-Stmt (record { spot = record { line = 88; column = 3 }; node = (If' (roll-Expr (record { spot = record { line = 88; column = 7 }; node = (Cast' (record { base = record { spot = record { line = 88; column = 8 }; frozen = false; obliv = false; kind = (base.Int U64) }; stars = 0 }) tt (more_of-Expr (record { line = 88; column = 23 }) (Binary' NotEqual tt (more_of-Expr (record { line = 88; column = 23 }) (Named (codes "v18")) end_of-Expr) tt (more_of-Expr (record { line = 88; column = 30 }) (Named (codes "r26")) end_of-Expr)) end_of-Expr)) })) tt (more_of-Stmt (record { line = 89; column = 3 }) (Block' (tt ∷ tt ∷ tt ∷ []) (more_of-Stmt (record { line = 90; column = 5 }) (Declare ((record { field = record { spot = record { line = 90; column = 23 }; name = (codes "v27"); base = record { spot = record { line = 90; column = 5 }; frozen = false; obliv = true; kind = (base.Int I8) }; stars = 0; dims = [] }; init = (Some (roll-Expr (record { spot = record { line = 90; column = 30 }; node = (Choose' tt (more_of-Expr (record { line = 90; column = 30 }) (Named (codes "w19")) end_of-Expr) tt (more_of-Expr (record { line = 90; column = 36 }) (Binary' Xor tt (more_of-Expr (record { line = 90; column = 36 }) (Named (codes "f16")) end_of-Expr) tt (more_of-Expr (record { line = 90; column = 42 }) (Named (codes "f24")) end_of-Expr)) end_of-Expr) tt (more_of-Expr (record { line = 90; column = 49 }) (Cast' (record { base = record { spot = record { line = 90; column = 50 }; frozen = false; obliv = true; kind = (base.Int I32) }; stars = 0 }) tt (more_of-Expr (record { line = 90; column = 63 }) (Named (codes "f17")) end_of-Expr)) end_of-Expr)) }))) }) ∷ [])) (more_of-Stmt (record { line = 91; column = 5 }) (Express (roll-Expr (record { spot = record { line = 91; column = 5 }; node = (Call' (codes "printf") (tt ∷ tt ∷ tt ∷ tt ∷ []) (more_of-Expr (record { line = 91; column = 12 }) (Text (34 ∷ 113 ∷ 34 ∷ 32 ∷ 37 ∷ 100 ∷ 32 ∷ 37 ∷ 108 ∷ 108 ∷ 100 ∷ 32 ∷ 37 ∷ 108 ∷ 108 ∷ 100 ∷ 10 ∷ [])) (more_of-Expr (record { line = 91; column = 36 }) (Named (codes "w19")) (more_of-Expr (record { line = 91; column = 41 }) (Named (codes "v25")) (more_of-Expr (record { line = 91; column = 46 }) (Named (codes "v25")) end_of-Expr))))) }))) (more_of-Stmt (record { line = 92; column = 5 }) (OblivIf' (roll-Expr (record { spot = record { line = 92; column = 15 }; node = (Logic' true tt (more_of-Expr (record { line = 92; column = 16 }) (Logic' true tt (more_of-Expr (record { line = 92; column = 16 }) (Named (codes "v27")) end_of-Expr) tt (more_of-Expr (record { line = 92; column = 23 }) (Named (codes "v25")) end_of-Expr)) end_of-Expr) tt (more_of-Expr (record { line = 92; column = 32 }) (Unary' Not tt (more_of-Expr (record { line = 92; column = 33 }) (Named (codes "f16")) end_of-Expr)) end_of-Expr)) })) tt (more_of-Stmt (record { line = 93; column = 5 }) (Block' (tt ∷ []) (more_of-Stmt (record { line = 94; column = 7 }) (Declare ((record { field = record { spot = record { line = 94; column = 30 }; name = (codes "a28"); base = record { spot = record { line = 94; column = 7 }; frozen = false; obliv = true; kind = (base.Int I64) }; stars = 0; dims = (1 ∷ []) }; init = None }) ∷ [])) end_of-Stmt)) end_of-Stmt) (Some' tt (more_of-Stmt (record { line = 97; column = 5 }) (Block' (tt ∷ tt ∷ []) (more_of-Stmt (record { line = 98; column = 7 }) (Express (roll-Expr (record { spot = record { line = 98; column = 7 }; node = (Assign' (Some And) tt (more_of-Expr (record { line = 98; column = 7 }) (Named (codes "v22")) end_of-Expr) tt (more_of-Expr (record { line = 98; column = 15 }) (Choose' tt (more_of-Expr (record { line = 98; column = 16 }) (Binary' Div tt (more_of-Expr (record { line = 98; column = 16 }) (Named (codes "v25")) end_of-Expr) tt (more_of-Expr (record { line = 98; column = 23 }) (Binary' Add tt (more_of-Expr (record { line = 98; column = 24 }) (Binary' And tt (more_of-Expr (record { line = 98; column = 24 }) (Named (codes "v25")) end_of-Expr) tt (more_of-Expr (record { line = 98; column = 30 }) (Number (record { kind = I32; value = 7; of_kind = refl })) end_of-Expr)) end_of-Expr) tt (more_of-Expr (record { line = 98; column = 35 }) (Number (record { kind = I32; value = 3; of_kind = refl })) end_of-Expr)) end_of-Expr)) end_of-Expr) tt (more_of-Expr (record { line = 98; column = 42 }) (Assign' (Some And) tt (more_of-Expr (record { line = 98; column = 42 }) (Named (codes "f16")) end_of-Expr) tt (more_of-Expr (record { line = 98; column = 49 }) (Named (codes "r26")) end_of-Expr)) end_of-Expr) tt (more_of-Expr (record { line = 98; column = 57 }) (Binary' Add tt (more_of-Expr (record { line = 98; column = 57 }) (Named (codes "w19")) end_of-Expr) tt (more_of-Expr (record { line = 98; column = 63 }) (Named (codes "r26")) end_of-Expr)) end_of-Expr)) end_of-Expr)) }))) (more_of-Stmt (record { line = 99; column = 7 }) (Express (roll-Expr (record { spot = record { line = 99; column = 7 }; node = (Assign' None tt (more_of-Expr (record { line = 99; column = 7 }) (Named (codes "f17")) end_of-Expr) tt (more_of-Expr (record { line = 99; column = 13 }) (Named (codes "v22")) end_of-Expr)) }))) end_of-Stmt))) end_of-Stmt))) end_of-Stmt)))) end_of-Stmt) None') })) ∷ (roll-Stmt (record { spot = record { line = 102; column = 3 }; node = (Declare ((record { field = record { spot = record { line = 102; column = 7 }; name = (codes "z29"); base = record { spot = record { line = 102; column = 3 }; frozen = false; obliv = false; kind = (base.Int I32) }; stars = 0; dims = [] }; init = None }) ∷ [])) })) ∷ (roll-Stmt (record { spot = record { line = 103; column = 3 }; node = (Express (roll-Expr (record { spot = record { line = 103; column = 3 }; node = (Call' (codes "revealOblivInt") (tt ∷ tt ∷ tt ∷ []) (more_of-Expr (record { line = 103; column = 18 }) (Unary' Address tt (more_of-Expr (record { line = 103; column = 19 }) (Named (codes "z29")) end_of-Expr)) (more_of-Expr (record { line = 103; column = 24 }) (Named (codes "f15")) (more_of-Expr (record { line = 103; column = 29 }) (Number (record { kind = I32; value = 0; of_kind = refl })) end_of-Expr)))) }))) })) ∷ (roll-Stmt (record { spot = record { line = 104; column = 3 }; node = (Express (roll-Expr (record { spot = record { line = 104; column = 3 }; node = (Call' (codes "printf") (tt ∷ tt ∷ []) (more_of-Expr (record { line = 104; column = 10 }) (Text (37 ∷ 100 ∷ 10 ∷ [])) (more_of-Expr (record { line = 104; column = 18 }) (Named (codes "z29")) end_of-Expr))) }))) })) ∷ (roll-Stmt (record { spot = record { line = 105; column = 3 }; node = (Declare ((record { field = record { spot = record { line = 105; column = 20 }; name = (codes "z30"); base = record { spot = record { line = 105; column = 3 }; frozen = false; obliv = false; kind = (base.Int I16) }; stars = 0; dims = [] }; init = None }) ∷ [])) })) ∷ (roll-Stmt (record { spot = record { line = 106; column = 3 }; node = (Express (roll-Expr (record { spot = record { line = 106; column = 3 }; node = (Call' (codes "revealOblivShort") (tt ∷ tt ∷ tt ∷ []) (more_of-Expr (record { line = 106; column = 20 }) (Unary' Address tt (more_of-Expr (record { line = 106; column = 21 }) (Named (codes "z30")) end_of-Expr)) (more_of-Expr (record { line = 106; column = 26 }) (Named (codes "f16")) (more_of-Expr (record { line = 106; column = 31 }) (Number (record { kind = I32; value = 0; of_kind = refl })) end_of-Expr)))) }))) })) ∷ (roll-Stmt (record { spot = record { line = 107; column = 3 }; node = (Express (roll-Expr (record { spot = record { line = 107; column = 3 }; node = (Call' (codes "printf") (tt ∷ tt ∷ []) (more_of-Expr (record { line = 107; column = 10 }) (Text (37 ∷ 100 ∷ 10 ∷ [])) (more_of-Expr (record { line = 107; column = 18 }) (Named (codes "z30")) end_of-Expr))) }))) })) ∷ (roll-Stmt (record { spot = record { line = 108; column = 3 }; node = (Declare ((record { field = record { spot = record { line = 108; column = 8 }; name = (codes "z31"); base = record { spot = record { line = 108; column = 3 }; frozen = false; obliv = false; kind = (base.Int I64) }; stars = 0; dims = [] }; init = None }) ∷ [])) })) ∷ (roll-Stmt (record { spot = record { line = 109; column = 1 }; node = (Block' (tt ∷ tt ∷ []) (more_of-Stmt (record { line = 109; column = 3 }) (Declare ((record { field = record { spot = record { line = 109; column = 7 }; name = (codes "a"); base = record { spot = record { line = 109; column = 3 }; frozen = false; obliv = false; kind = (base.Int I32) }; stars = 0; dims = (2 ∷ []) }; init = None }) ∷ [])) (more_of-Stmt (record { line = 109; column = 13 }) (Declare ((record { field = record { spot = record { line = 109; column = 17 }; name = (codes "x"); base = record { spot = record { line = 109; column = 13 }; frozen = false; obliv = false; kind = (base.Int I32) }; stars = 0; dims = [] }; init = (Some (roll-Expr (record { spot = record { line = 109; column = 21 }; node = (Index' tt (more_of-Expr (record { line = 109; column = 21 }) (Named (codes "a")) end_of-Expr) tt (more_of-Expr (record { line = 109; column = 23 }) (Binary' And tt (more_of-Expr (record { line = 109; column = 23 }) (Call' (codes "recur") (tt ∷ []) (more_of-Expr (record { line = 109; column = 29 }) (Number (record { kind = I32; value = 328; of_kind = refl })) end_of-Expr)) end_of-Expr) tt (more_of-Expr (record { line = 109; column = 36 }) (Number (record { kind = I32; value = 1; of_kind = refl })) end_of-Expr)) end_of-Expr)) }))) }) ∷ [])) end_of-Stmt))) })) ∷ (roll-Stmt (record { spot = record { line = 110; column = 3 }; node = (Express (roll-Expr (record { spot = record { line = 110; column = 3 }; node = (Call' (codes "revealOblivLLong") (tt ∷ tt ∷ tt ∷ []) (more_of-Expr (record { line = 110; column = 20 }) (Unary' Address tt (more_of-Expr (record { line = 110; column = 21 }) (Named (codes "z31")) end_of-Expr)) (more_of-Expr (record { line = 110; column = 26 }) (Named (codes "f17")) (more_of-Expr (record { line = 110; column = 31 }) (Number (record { kind = I32; value = 0; of_kind = refl })) end_of-Expr)))) }))) })) ∷ (roll-Stmt (record { spot = record { line = 111; column = 3 }; node = (Express (roll-Expr (record { spot = record { line = 111; column = 3 }; node = (Call' (codes "printf") (tt ∷ tt ∷ []) (more_of-Expr (record { line = 111; column = 10 }) (Text (37 ∷ 108 ∷ 108 ∷ 100 ∷ 10 ∷ [])) (more_of-Expr (record { line = 111; column = 20 }) (Named (codes "z31")) end_of-Expr))) }))) })) ∷ (roll-Stmt (record { spot = record { line = 112; column = 3 }; node = (Express (roll-Expr (record { spot = record { line = 112; column = 3 }; node = (Call' (codes "printf") (tt ∷ tt ∷ []) (more_of-Expr (record { line = 112; column = 10 }) (Text (37 ∷ 108 ∷ 108 ∷ 100 ∷ 10 ∷ [])) (more_of-Expr (record { line = 112; column = 20 }) (Named (codes "v18")) end_of-Expr))) }))) })) ∷ (roll-Stmt (record { spot = record { line = 113; column = 3 }; node = (Express (roll-Expr (record { spot = record { line = 113; column = 3 }; node = (Call' (codes "printf") (tt ∷ tt ∷ []) (more_of-Expr (record { line = 113; column = 10 }) (Text (37 ∷ 100 ∷ 10 ∷ [])) (more_of-Expr (record { line = 113; column = 18 }) (Named (codes "w19")) end_of-Expr))) }))) })) ∷ (roll-Stmt (record { spot = record { line = 114; column = 3 }; node = (Express (roll-Expr (record { spot = record { line = 114; column = 3 }; node = (Call' (codes "ocResult") (tt ∷ tt ∷ []) (more_of-Expr (record { line = 114; column = 12 }) (Named (codes "v22")) (more_of-Expr (record { line = 114; column = 17 }) (Number (record { kind = I32; value = 1; of_kind = refl })) end_of-Expr))) }))) })) ∷ (roll-Stmt (record { spot = record { line = 115; column = 3 }; node = (Declare ((record { field = record { spot = record { line = 115; column = 13 }; name = (codes "z32"); base = record { spot = record { line = 115; column = 3 }; frozen = false; obliv = false; kind = (base.Int I16) }; stars = 0; dims = [] }; init = None }) ∷ [])) })) ∷ (roll-Stmt (record { spot = record { line = 116; column = 3 }; node = (Express (roll-Expr (record { spot = record { line = 116; column = 3 }; node = (Call' (codes "revealOblivShort") (tt ∷ tt ∷ tt ∷ []) (more_of-Expr (record { line = 116; column = 20 }) (Unary' Address tt (more_of-Expr (record { line = 116; column = 21 }) (Named (codes "z32")) end_of-Expr)) (more_of-Expr (record { line = 116; column = 26 }) (Named (codes "v23")) (more_of-Expr (record { line = 116; column = 31 }) (Number (record { kind = I32; value = 0; of_kind = refl })) end_of-Expr)))) }))) })) ∷ (roll-Stmt (record { spot = record { line = 117; column = 3 }; node = (Express (roll-Expr (record { spot = record { line = 117; column = 3 }; node = (Call' (codes "printf") (tt ∷ tt ∷ []) (more_of-Expr (record { line = 117; column = 10 }) (Text (37 ∷ 100 ∷ 10 ∷ [])) (more_of-Expr (record { line = 117; column = 18 }) (Named (codes "z32")) end_of-Expr))) }))) })) ∷ (roll-Stmt (record { spot = record { line = 118; column = 3 }; node = (Declare ((record { field = record { spot = record { line = 118; column = 8 }; name = (codes "z33"); base = record { spot = record { line = 118; column = 3 }; frozen = false; obliv = false; kind = (base.Int KBool) }; stars = 0; dims = [] }; init = None }) ∷ [])) })) ∷ (roll-Stmt (record { spot = record { line = 119; column = 3 }; node = (Express (roll-Expr (record { spot = record { line = 119; column = 3 }; node = (Call' (codes "revealOblivBool") (tt ∷ tt ∷ tt ∷ []) (more_of-Expr (record { line = 119; column = 19 }) (Unary' Address tt (more_of-Expr (record { line = 119; column = 20 }) (Named (codes "z33")) end_of-Expr)) (more_of-Expr (record { line = 119; column = 25 }) (Named (codes "f24")) (more_of-Expr (record { line = 119; column = 30 }) (Number (record { kind = I32; value = 0; of_kind = refl })) end_of-Expr)))) }))) })) ∷ (roll-Stmt (record { spot = record { line = 120; column = 3 }; node = (Express (roll-Expr (record { spot = record { line = 120; column = 3 }; node = (Call' (codes "printf") (tt ∷ tt ∷ []) (more_of-Expr (record { line = 120; column = 10 }) (Text (37 ∷ 100 ∷ 10 ∷ [])) (more_of-Expr (record { line = 120; column = 18 }) (Named (codes "z33")) end_of-Expr))) }))) })) ∷ (roll-Stmt (record { spot = record { line = 121; column = 3 }; node = (Express (roll-Expr (record { spot = record { line = 121; column = 3 }; node = (Call' (codes "printf") (tt ∷ tt ∷ []) (more_of-Expr (record { line = 121; column = 10 }) (Text (37 ∷ 108 ∷ 108 ∷ 100 ∷ 10 ∷ [])) (more_of-Expr (record { line = 121; column = 20 }) (Named (codes "v25")) end_of-Expr))) }))) })) ∷ (roll-Stmt (record { spot = record { line = 122; column = 3 }; node = (Express (roll-Expr (record { spot = record { line = 122; column = 3 }; node = (Call' (codes "printf") (tt ∷ tt ∷ []) (more_of-Expr (record { line = 122; column = 10 }) (Text (37 ∷ 108 ∷ 108 ∷ 100 ∷ 10 ∷ [])) (more_of-Expr (record { line = 122; column = 20 }) (Named (codes "r26")) end_of-Expr))) }))) })) ∷ [])) }) ∷ []); end = record { line = 124; column = 1 } }

abbrev setup : ClearSetup
setup = record { public = ((pos 15) ∷ []); first = ((pos 127) ∷ (negsuc 2147483647) ∷ []); second = ((pos 127) ∷ (pos 4294967295) ∷ (pos 128) ∷ []); dealt = 1048576; budget = 3000 }

clear : Means (typed_program source) setup (Revealed I64 (pos 1) ∷ Printed (49 ∷ 10 ∷ []) ∷ Revealed I64 (pos 1) ∷ Printed (49 ∷ 10 ∷ []) ∷ Printed (45 ∷ 50 ∷ 49 ∷ 52 ∷ 55 ∷ 52 ∷ 56 ∷ 51 ∷ 54 ∷ 52 ∷ 56 ∷ 32 ∷ 48 ∷ 32 ∷ 45 ∷ 50 ∷ 49 ∷ 52 ∷ 55 ∷ 52 ∷ 56 ∷ 51 ∷ 54 ∷ 52 ∷ 56 ∷ 10 ∷ []) ∷ Revealed I64 (negsuc 0) ∷ Printed (45 ∷ 49 ∷ 10 ∷ []) ∷ Printed (34 ∷ 113 ∷ 34 ∷ 32 ∷ 45 ∷ 49 ∷ 32 ∷ 48 ∷ 32 ∷ 48 ∷ 10 ∷ []) ∷ Revealed I32 (pos 0) ∷ Printed (48 ∷ 10 ∷ []) ∷ Revealed I16 (negsuc 0) ∷ Printed (45 ∷ 49 ∷ 10 ∷ []) ∷ Revealed I64 (pos 0) ∷ Printed (48 ∷ 10 ∷ []) ∷ Printed (48 ∷ 10 ∷ []) ∷ Printed (45 ∷ 49 ∷ 10 ∷ []) ∷ Given 1 I16 (pos 0) ∷ Revealed I16 (pos 32767) ∷ Printed (51 ∷ 50 ∷ 55 ∷ 54 ∷ 55 ∷ 10 ∷ []) ∷ Revealed KBool (pos 1) ∷ Printed (49 ∷ 10 ∷ []) ∷ Printed (48 ∷ 10 ∷ []) ∷ Printed (45 ∷ 49 ∷ 10 ∷ []) ∷ []) Done
unfolding next typed_program typed_value typed_alone digits hidden-the_row-TExpr-0 hidden-the_row-TExpr-1 hidden-the_row-TPlace-2 hidden-the_row-TStmt-0 hidden-the_row-TStmt-1 hidden-the_row-CType-0 hidden
clear = (refl, refl)

events : Makes (typed_program source) setup ((pos 1) ∷ (pos 1) ∷ (negsuc 0) ∷ (pos 0) ∷ (negsuc 0) ∷ (pos 0) ∷ (pos 32767) ∷ (pos 1) ∷ [])
    (Feed 2 I32 2 ∷ Feed 1 I16 0 ∷ Feed 1 I64 1 ∷ Op And KBool (Fix KBool (pos 1)) (Fix KBool (pos 1)) ∷ Op Or I32 (Fix I32 (pos 1)) (Fix I32 (pos 64)) ∷ Pick I32 (Of 3) (Of 4) (Fix I32 (pos 1)) ∷ Op Or I32 (Of 5) (Fix I32 (pos 64)) ∷ Pick I32 (Of 3) (Of 6) (Of 5) ∷ Turn I32 U32 (Of 7) ∷ Op Sub U32 (Fix U32 (pos 1)) (Of 8) ∷ Op Shr I32 (Of 7) (Of 9) ∷ Pick I32 (Of 3) (Of 10) (Of 7) ∷ Pick I32 (Of 3) (Fix I32 (pos 0)) (Of 11) ∷ Op Xor KBool (Fix KBool (pos 1)) (Of 3) ∷ One one.Flip KBool (Fix KBool (pos 1)) ∷ Reveal I64 (Fix I64 (pos 1)) ∷ Print (49 ∷ 10 ∷ []) ∷ Reveal I64 (Fix I64 (pos 1)) ∷ Print (49 ∷ 10 ∷ []) ∷ Op And I32 (Fix I32 (pos 1)) (Fix I32 (pos 1)) ∷ Turn I32 U16 (Of 19) ∷ Turn U16 U32 (Of 20) ∷ Turn U32 I16 (Of 21) ∷ Feed 2 KBool 1 ∷ Turn I16 KBool (Of 22) ∷ Op Or KBool (Fix KBool (pos 0)) (Of 24) ∷ Turn KBool I32 (Of 25) ∷ One one.Neg I32 (Of 26) ∷ Op Add I32 (Fix I32 (pos 1)) (Of 27) ∷ Op Sub I64 (Of 2) (Fix I64 (pos 1)) ∷ Turn I16 I32 (Of 22) ∷ Op Add I32 (Of 30) (Fix I32 (pos 1)) ∷ Turn I32 I16 (Of 31) ∷ Turn I16 I32 (Of 32) ∷ Turn I16 I32 (Of 32) ∷ Op Mul I32 (Of 34) (Of 33) ∷ Turn I32 I16 (Of 35) ∷ Turn I16 I64 (Of 36) ∷ Op Or I64 (Of 37) (Fix I64 (pos 4294967295)) ∷ Turn I64 I16 (Of 38) ∷ Op And KBool (Fix KBool (pos 1)) (Fix KBool (pos 1)) ∷ Op Or I32 (Fix I32 (pos 1)) (Fix I32 (pos 64)) ∷ Pick I32 (Of 40) (Of 41) (Fix I32 (pos 1)) ∷ Op Or I32 (Of 42) (Fix I32 (pos 64)) ∷ Pick I32 (Of 40) (Of 43) (Of 42) ∷ Turn I32 U32 (Of 44) ∷ Op Sub U32 (Fix U32 (pos 1)) (Of 45) ∷ Op Shr I32 (Of 44) (Of 46) ∷ Pick I32 (Of 40) (Of 47) (Of 44) ∷ Pick I32 (Of 40) (Fix I32 (pos 0)) (Of 48) ∷ Op Xor KBool (Fix KBool (pos 1)) (Of 40) ∷ One one.Flip KBool (Fix KBool (pos 1)) ∷ Print (45 ∷ 50 ∷ 49 ∷ 52 ∷ 55 ∷ 52 ∷ 56 ∷ 51 ∷ 54 ∷ 52 ∷ 56 ∷ 32 ∷ 48 ∷ 32 ∷ 45 ∷ 50 ∷ 49 ∷ 52 ∷ 55 ∷ 52 ∷ 56 ∷ 51 ∷ 54 ∷ 52 ∷ 56 ∷ 10 ∷ []) ∷ Turn I16 I32 (Fix I16 (pos 0)) ∷ Turn I16 I32 (Of 39) ∷ Op Or I32 (Of 54) (Of 53) ∷ Turn I32 I16 (Of 55) ∷ Turn I16 I64 (Of 56) ∷ Reveal I64 (Of 57) ∷ Print (45 ∷ 49 ∷ 10 ∷ []) ∷ Turn I16 I32 (Of 56) ∷ Turn KBool I32 (Of 23) ∷ Op Xor I32 (Of 60) (Of 61) ∷ Turn I32 I8 (Of 62) ∷ Print (34 ∷ 113 ∷ 34 ∷ 32 ∷ 45 ∷ 49 ∷ 32 ∷ 48 ∷ 32 ∷ 48 ∷ 10 ∷ []) ∷ Turn I8 KBool (Of 63) ∷ Op And KBool (Of 65) (Fix KBool (pos 0)) ∷ Turn I16 KBool (Of 56) ∷ One one.Not KBool (Of 67) ∷ Op And KBool (Of 66) (Of 68) ∷ One one.Flip KBool (Of 69) ∷ Turn I16 I64 (Fix I16 (pos 0)) ∷ Op And I64 (Of 71) (Fix I64 (negsuc 1)) ∷ Turn I64 I16 (Of 72) ∷ Pick I16 (Of 70) (Of 73) (Fix I16 (pos 0)) ∷ Turn I16 I64 (Of 74) ∷ Pick I64 (Of 70) (Of 75) (Of 29) ∷ Reveal I32 (Of 28) ∷ Print (48 ∷ 10 ∷ []) ∷ Reveal I16 (Of 56) ∷ Print (45 ∷ 49 ∷ 10 ∷ []) ∷ Reveal I64 (Of 76) ∷ Print (48 ∷ 10 ∷ []) ∷ Print (48 ∷ 10 ∷ []) ∷ Print (45 ∷ 49 ∷ 10 ∷ []) ∷ Give 1 I16 (Of 74) ∷ Reveal I16 (Fix I16 (pos 32767)) ∷ Print (51 ∷ 50 ∷ 55 ∷ 54 ∷ 55 ∷ 10 ∷ []) ∷ Reveal KBool (Of 23) ∷ Print (49 ∷ 10 ∷ []) ∷ Print (48 ∷ 10 ∷ []) ∷ Print (45 ∷ 49 ∷ 10 ∷ []) ∷ []) Done
unfolding next typed_program typed_value typed_alone digits hidden-the_row-TExpr-0 hidden-the_row-TExpr-1 hidden-the_row-TPlace-2 hidden-the_row-TStmt-0 hidden-the_row-TStmt-1 hidden-the_row-CType-0 hidden
events = (refl, refl)

typed : Passes (typed_program source)
unfolding next typed_program typed_value typed_alone digits hidden-the_row-TExpr-0 hidden-the_row-TExpr-1 hidden-the_row-TPlace-2 hidden-the_row-TStmt-0 hidden-the_row-TStmt-1 hidden-the_row-CType-0 hidden
typed = refl
