-- A source whose run ends at an element out of its block.
-- What its run shows and its events were made by an independent model.
use Rattle.std.proofs.Common.{refl, pos, negsuc, [], ◌∷◌, Some, None, true, false}
use Rattle.std.specs.Prelude.{codes}
use Rattle.oc_values.specs.declared.integers.IntKind.TheVariants.{Bool as KBool, I16, U16, I32, U32, I64}
use Rattle.oc_values.specs.declared.integers.BinaryOp.TheVariants.{Add, Sub, Mul, Rem, Shl, Shr, And, Or, Xor, Less, LessEq, Greater, GreaterEq, Equal, NotEqual}
use Rattle.oc_cells.specs.declared.types.CType.TheBlock.{hidden-the_row-CType-0}
use denote.Hole.Carrier.{hidden}
use Rattle.oc_source.specs.declared.parsed.BaseKind.TheVariants as base
use Rattle.oc_source.specs.declared.parsed.ParamArray.TheVariants as array
use Rattle.oc_source.specs.declared.parsed.UnaryOp.TheVariants.{Neg, Not, Flip, Deref, Address}
use Rattle.oc_source.specs.declared.parsed.Expr.{roll-Expr}
use Rattle.oc_source.specs.declared.parsed.ExprNode.{Number, Text, Named, Unary', Bump', Binary', Logic', Choose', Assign', Index', Call', Cast', end_of-Expr, more_of-Expr}
use Rattle.oc_source.specs.declared.parsed.Stmt.{roll-Stmt}
use Rattle.oc_source.specs.declared.parsed.StmtNode.{Declare, Express, Block', If', OblivIf', While', Return, end_of-Stmt, more_of-Stmt, None', Some'}
use Rattle.oc_source.specs.declared.parsed.Program.{Program}
use Rattle.type_rules.specs.Judging.{next}
use Rattle.type_rules.specs.Rules.{typed_value, typed_alone}
use Rattle.type_rules.specs.ProgramRules.{typed_program}
use Rattle.std.specs.Fmt.{digits}
use Rattle.oc_values.specs.declared.integers.OneOp.TheVariants as one
use Rattle.oc_cells.specs.declared.trap.TrapKind.TheVariants.{M1}
use Rattle.oc_typed.specs.declared.typed.TExprNode.TheBlock.{hidden-the_row-TExpr-0, hidden-the_row-TExpr-1, hidden-the_row-TPlace-2}
use Rattle.oc_typed.specs.declared.typed.TStmtNode.TheBlock.{hidden-the_row-TStmt-0, hidden-the_row-TStmt-1}
use Rattle.oc_walk.specs.declared.run.ShownItem.TheVariants.{Print as Printed, Reveal as Revealed, Give as Given}
use Rattle.oc_walk.specs.declared.run.ClearSetup.{ClearSetup}
use Rattle.oc_walk.specs.declared.run.Outcome.TheVariants.{Trap}
use Rattle.oc_meanings.specs.Events.{Fix, Of, Feed, Op, One, Turn, ShiftBy, Pick, Reveal, Give, Print}
use Rattle.sampled_sources.proofs.Means.{Means, Makes, Passes}

abbrev source : Program
source = record { structs = ((record { spot = record { line = 4; column = 8 }; name = (codes "Q"); fields = ((record { spot = record { line = 4; column = 16 }; name = (codes "x"); base = record { spot = record { line = 4; column = 12 }; frozen = false; obliv = false; kind = (base.Int I32) }; stars = 0; dims = [] }) ∷ (record { spot = record { line = 4; column = 29 }; name = (codes "h"); base = record { spot = record { line = 4; column = 19 }; frozen = false; obliv = true; kind = (base.Int I32) }; stars = 0; dims = [] }) ∷ []) }) ∷ (record { spot = record { line = 5; column = 8 }; name = (codes "W"); fields = ((record { spot = record { line = 5; column = 17 }; name = (codes "p"); base = record { spot = record { line = 5; column = 12 }; frozen = false; obliv = false; kind = (base.Int I32) }; stars = 1; dims = [] }) ∷ (record { spot = record { line = 5; column = 30 }; name = (codes "h"); base = record { spot = record { line = 5; column = 20 }; frozen = false; obliv = true; kind = (base.Int I32) }; stars = 0; dims = [] }) ∷ []) }) ∷ (record { spot = record { line = 6; column = 8 }; name = (codes "V"); fields = ((record { spot = record { line = 6; column = 22 }; name = (codes "h"); base = record { spot = record { line = 6; column = 12 }; frozen = false; obliv = true; kind = (base.Int I32) }; stars = 0; dims = [] }) ∷ (record { spot = record { line = 6; column = 35 }; name = (codes "k"); base = record { spot = record { line = 6; column = 25 }; frozen = false; obliv = true; kind = (base.Int I32) }; stars = 0; dims = (2 ∷ []) }) ∷ []) }) ∷ []); functions = ((record { spot = record { line = 7; column = 5 }; name = (codes "one"); result = (Some (record { base = record { spot = record { line = 7; column = 1 }; frozen = false; obliv = false; kind = (base.Int I32) }; stars = 0 })); params = ((record { spot = record { line = 7; column = 13 }; name = (codes "a"); base = record { spot = record { line = 7; column = 9 }; frozen = false; obliv = false; kind = (base.Int I32) }; stars = 0; array = array.Plain }) ∷ []); obliv = false; body = (Some ((roll-Stmt (record { spot = record { line = 7; column = 18 }; node = (Return (Some (roll-Expr (record { spot = record { line = 7; column = 25 }; node = (Named (codes "a")) })))) })) ∷ [])) }) ∷ (record { spot = record { line = 8; column = 6 }; name = (codes "none"); result = None; params = []; obliv = false; body = (Some []) }) ∷ (record { spot = record { line = 9; column = 5 }; name = (codes "proto"); result = (Some (record { base = record { spot = record { line = 9; column = 1 }; frozen = false; obliv = false; kind = (base.Int I32) }; stars = 0 })); params = ((record { spot = record { line = 9; column = 15 }; name = (codes "a"); base = record { spot = record { line = 9; column = 11 }; frozen = false; obliv = false; kind = (base.Int I32) }; stars = 0; array = array.Plain }) ∷ []); obliv = false; body = None }) ∷ (record { spot = record { line = 10; column = 6 }; name = (codes "takes"); result = None; params = ((record { spot = record { line = 10; column = 17 }; name = (codes "p"); base = record { spot = record { line = 10; column = 12 }; frozen = false; obliv = false; kind = (base.Int I32) }; stars = 1; array = array.Plain }) ∷ []); obliv = false; body = (Some []) }) ∷ (record { spot = record { line = 11; column = 6 }; name = (codes "sees"); result = None; params = ((record { spot = record { line = 11; column = 23 }; name = (codes "p"); base = record { spot = record { line = 11; column = 11 }; frozen = true; obliv = false; kind = (base.Int I32) }; stars = 1; array = array.Plain }) ∷ []); obliv = false; body = (Some []) }) ∷ (record { spot = record { line = 12; column = 6 }; name = (codes "mark"); result = None; params = ((record { spot = record { line = 12; column = 16 }; name = (codes "p"); base = record { spot = record { line = 12; column = 11 }; frozen = false; obliv = false; kind = (base.Int I32) }; stars = 1; array = array.Plain }) ∷ []); obliv = true; body = (Some ((roll-Stmt (record { spot = record { line = 12; column = 27 }; node = (Express (roll-Expr (record { spot = record { line = 12; column = 27 }; node = (Assign' None tt (more_of-Expr (record { line = 12; column = 27 }) (Unary' Deref tt (more_of-Expr (record { line = 12; column = 28 }) (Named (codes "p")) end_of-Expr)) end_of-Expr) tt (more_of-Expr (record { line = 12; column = 32 }) (Number (record { kind = I32; value = 1; of_kind = refl })) end_of-Expr)) }))) })) ∷ [])) }) ∷ (record { spot = record { line = 13; column = 6 }; name = (codes "markh"); result = None; params = ((record { spot = record { line = 13; column = 23 }; name = (codes "p"); base = record { spot = record { line = 13; column = 12 }; frozen = false; obliv = true; kind = (base.Int I32) }; stars = 1; array = array.Plain }) ∷ []); obliv = true; body = (Some ((roll-Stmt (record { spot = record { line = 13; column = 34 }; node = (Express (roll-Expr (record { spot = record { line = 13; column = 34 }; node = (Assign' None tt (more_of-Expr (record { line = 13; column = 34 }) (Unary' Deref tt (more_of-Expr (record { line = 13; column = 35 }) (Named (codes "p")) end_of-Expr)) end_of-Expr) tt (more_of-Expr (record { line = 13; column = 39 }) (Number (record { kind = I32; value = 1; of_kind = refl })) end_of-Expr)) }))) })) ∷ [])) }) ∷ (record { spot = record { line = 14; column = 6 }; name = (codes "markv"); result = None; params = ((record { spot = record { line = 14; column = 22 }; name = (codes "p"); base = record { spot = record { line = 14; column = 12 }; frozen = false; obliv = true; kind = (base.Int I32) }; stars = 0; array = array.Plain }) ∷ []); obliv = true; body = (Some ((roll-Stmt (record { spot = record { line = 14; column = 33 }; node = (Express (roll-Expr (record { spot = record { line = 14; column = 33 }; node = (Assign' None tt (more_of-Expr (record { line = 14; column = 33 }) (Named (codes "p")) end_of-Expr) tt (more_of-Expr (record { line = 14; column = 37 }) (Number (record { kind = I32; value = 1; of_kind = refl })) end_of-Expr)) }))) })) ∷ [])) }) ∷ (record { spot = record { line = 15; column = 5 }; name = (codes "i0"); result = (Some (record { base = record { spot = record { line = 15; column = 1 }; frozen = false; obliv = false; kind = (base.Int I32) }; stars = 0 })); params = ((record { spot = record { line = 15; column = 12 }; name = (codes "n"); base = record { spot = record { line = 15; column = 8 }; frozen = false; obliv = false; kind = (base.Int I32) }; stars = 0; array = array.Plain }) ∷ []); obliv = false; body = (Some ((roll-Stmt (record { spot = record { line = 15; column = 17 }; node = (Return (Some (roll-Expr (record { spot = record { line = 15; column = 24 }; node = (Number (record { kind = I32; value = 0; of_kind = refl })) })))) })) ∷ [])) }) ∷ (record { spot = record { line = 16; column = 5 }; name = (codes "recur"); result = (Some (record { base = record { spot = record { line = 16; column = 1 }; frozen = false; obliv = false; kind = (base.Int I32) }; stars = 0 })); params = ((record { spot = record { line = 16; column = 15 }; name = (codes "n"); base = record { spot = record { line = 16; column = 11 }; frozen = false; obliv = false; kind = (base.Int I32) }; stars = 0; array = array.Plain }) ∷ []); obliv = false; body = (Some ((roll-Stmt (record { spot = record { line = 16; column = 20 }; node = (If' (roll-Expr (record { spot = record { line = 16; column = 24 }; node = (Binary' LessEq tt (more_of-Expr (record { line = 16; column = 24 }) (Named (codes "n")) end_of-Expr) tt (more_of-Expr (record { line = 16; column = 29 }) (Number (record { kind = I32; value = 0; of_kind = refl })) end_of-Expr)) })) tt (more_of-Stmt (record { line = 16; column = 32 }) (Return (Some (roll-Expr (record { spot = record { line = 16; column = 39 }; node = (Number (record { kind = I32; value = 0; of_kind = refl })) })))) end_of-Stmt) None') })) ∷ (roll-Stmt (record { spot = record { line = 16; column = 42 }; node = (Return (Some (roll-Expr (record { spot = record { line = 16; column = 49 }; node = (Binary' Add tt (more_of-Expr (record { line = 16; column = 49 }) (Number (record { kind = I32; value = 1; of_kind = refl })) end_of-Expr) tt (more_of-Expr (record { line = 16; column = 53 }) (Call' (codes "recur") (tt ∷ []) (more_of-Expr (record { line = 16; column = 59 }) (Binary' Sub tt (more_of-Expr (record { line = 16; column = 59 }) (Named (codes "n")) end_of-Expr) tt (more_of-Expr (record { line = 16; column = 63 }) (Number (record { kind = I32; value = 1; of_kind = refl })) end_of-Expr)) end_of-Expr)) end_of-Expr)) })))) })) ∷ [])) }) ∷ (record { spot = record { line = 17; column = 6 }; name = (codes "ocmark"); result = None; params = ((record { spot = record { line = 17; column = 24 }; name = (codes "p"); base = record { spot = record { line = 17; column = 13 }; frozen = false; obliv = true; kind = (base.Int I32) }; stars = 1; array = array.Plain }) ∷ []); obliv = true; body = (Some ((roll-Stmt (record { spot = record { line = 17; column = 35 }; node = (OblivIf' (roll-Expr (record { spot = record { line = 17; column = 45 }; node = (Binary' Greater tt (more_of-Expr (record { line = 17; column = 45 }) (Unary' Deref tt (more_of-Expr (record { line = 17; column = 46 }) (Named (codes "p")) end_of-Expr)) end_of-Expr) tt (more_of-Expr (record { line = 17; column = 50 }) (Number (record { kind = I32; value = 4; of_kind = refl })) end_of-Expr)) })) tt (more_of-Stmt (record { line = 17; column = 53 }) (Block' (tt ∷ []) (more_of-Stmt (record { line = 17; column = 55 }) (Express (roll-Expr (record { spot = record { line = 17; column = 55 }; node = (Assign' None tt (more_of-Expr (record { line = 17; column = 55 }) (Unary' Deref tt (more_of-Expr (record { line = 17; column = 56 }) (Named (codes "p")) end_of-Expr)) end_of-Expr) tt (more_of-Expr (record { line = 17; column = 60 }) (Binary' Add tt (more_of-Expr (record { line = 17; column = 60 }) (Unary' Deref tt (more_of-Expr (record { line = 17; column = 61 }) (Named (codes "p")) end_of-Expr)) end_of-Expr) tt (more_of-Expr (record { line = 17; column = 65 }) (Number (record { kind = I32; value = 10; of_kind = refl })) end_of-Expr)) end_of-Expr)) }))) end_of-Stmt)) end_of-Stmt) (Some' tt (more_of-Stmt (record { line = 17; column = 76 }) (Express (roll-Expr (record { spot = record { line = 17; column = 76 }; node = (Assign' None tt (more_of-Expr (record { line = 17; column = 76 }) (Unary' Deref tt (more_of-Expr (record { line = 17; column = 77 }) (Named (codes "p")) end_of-Expr)) end_of-Expr) tt (more_of-Expr (record { line = 17; column = 81 }) (Number (record { kind = I32; value = 0; of_kind = refl })) end_of-Expr)) }))) end_of-Stmt))) })) ∷ [])) }) ∷ (record { spot = record { line = 18; column = 5 }; name = (codes "fn1"); result = (Some (record { base = record { spot = record { line = 18; column = 1 }; frozen = false; obliv = false; kind = (base.Int I32) }; stars = 0 })); params = ((record { spot = record { line = 18; column = 13 }; name = (codes "x2"); base = record { spot = record { line = 18; column = 9 }; frozen = false; obliv = false; kind = (base.Int I32) }; stars = 0; array = array.Plain }) ∷ (record { spot = record { line = 18; column = 36 }; name = (codes "x3"); base = record { spot = record { line = 18; column = 17 }; frozen = false; obliv = true; kind = (base.Int U32) }; stars = 0; array = array.Plain }) ∷ []); obliv = false; body = (Some ((roll-Stmt (record { spot = record { line = 19; column = 3 }; node = (Declare ((record { field = record { spot = record { line = 19; column = 15 }; name = (codes "f4"); base = record { spot = record { line = 19; column = 3 }; frozen = false; obliv = true; kind = (base.Int KBool) }; stars = 0; dims = [] }; init = (Some (roll-Expr (record { spot = record { line = 19; column = 20 }; node = (Call' (codes "feedOblivBool") (tt ∷ tt ∷ []) (more_of-Expr (record { line = 19; column = 34 }) (Call' (codes "ocPrivate") (tt ∷ []) (more_of-Expr (record { line = 19; column = 44 }) (Number (record { kind = I32; value = 0; of_kind = refl })) end_of-Expr)) (more_of-Expr (record { line = 19; column = 48 }) (Number (record { kind = I32; value = 1; of_kind = refl })) end_of-Expr))) }))) }) ∷ [])) })) ∷ (roll-Stmt (record { spot = record { line = 20; column = 3 }; node = (Express (roll-Expr (record { spot = record { line = 20; column = 3 }; node = (Assign' None tt (more_of-Expr (record { line = 20; column = 3 }) (Named (codes "x2")) end_of-Expr) tt (more_of-Expr (record { line = 20; column = 8 }) (Named (codes "x2")) end_of-Expr)) }))) })) ∷ (roll-Stmt (record { spot = record { line = 21; column = 3 }; node = (Express (roll-Expr (record { spot = record { line = 21; column = 3 }; node = (Call' (codes "printf") (tt ∷ tt ∷ []) (more_of-Expr (record { line = 21; column = 10 }) (Text (34 ∷ 113 ∷ 34 ∷ 32 ∷ 37 ∷ 100 ∷ 32 ∷ 37 ∷ 37 ∷ 10 ∷ [])) (more_of-Expr (record { line = 21; column = 27 }) (Named (codes "x2")) end_of-Expr))) }))) })) ∷ (roll-Stmt (record { spot = record { line = 22; column = 3 }; node = (Express (roll-Expr (record { spot = record { line = 22; column = 3 }; node = (Assign' (Some Shl) tt (more_of-Expr (record { line = 22; column = 3 }) (Named (codes "x3")) end_of-Expr) tt (more_of-Expr (record { line = 22; column = 10 }) (Binary' Less tt (more_of-Expr (record { line = 22; column = 11 }) (Unary' Flip tt (more_of-Expr (record { line = 22; column = 12 }) (Named (codes "x3")) end_of-Expr)) end_of-Expr) tt (more_of-Expr (record { line = 22; column = 20 }) (Assign' None tt (more_of-Expr (record { line = 22; column = 20 }) (Named (codes "x2")) end_of-Expr) tt (more_of-Expr (record { line = 22; column = 25 }) (Named (codes "x2")) end_of-Expr)) end_of-Expr)) end_of-Expr)) }))) })) ∷ (roll-Stmt (record { spot = record { line = 23; column = 3 }; node = (Return (Some (roll-Expr (record { spot = record { line = 23; column = 10 }; node = (Number (record { kind = I32; value = 0; of_kind = refl })) })))) })) ∷ [])) }) ∷ (record { spot = record { line = 25; column = 16 }; name = (codes "fn5"); result = (Some (record { base = record { spot = record { line = 25; column = 1 }; frozen = false; obliv = false; kind = (base.Int U16) }; stars = 0 })); params = ((record { spot = record { line = 25; column = 33 }; name = (codes "x6"); base = record { spot = record { line = 25; column = 20 }; frozen = false; obliv = false; kind = (base.Int I16) }; stars = 0; array = array.Plain }) ∷ []); obliv = true; body = (Some ((roll-Stmt (record { spot = record { line = 26; column = 3 }; node = (Express (roll-Expr (record { spot = record { line = 26; column = 3 }; node = (Bump' false false tt (more_of-Expr (record { line = 26; column = 3 }) (Named (codes "x6")) end_of-Expr)) }))) })) ∷ (roll-Stmt (record { spot = record { line = 27; column = 3 }; node = (Return (Some (roll-Expr (record { spot = record { line = 27; column = 10 }; node = (Named (codes "x6")) })))) })) ∷ [])) }) ∷ (record { spot = record { line = 29; column = 6 }; name = (codes "oc_main"); result = None; params = []; obliv = false; body = (Some ((roll-Stmt (record { spot = record { line = 30; column = 3 }; node = (Declare ((record { field = record { spot = record { line = 30; column = 19 }; name = (codes "f7"); base = record { spot = record { line = 30; column = 3 }; frozen = false; obliv = true; kind = (base.Int I64) }; stars = 0; dims = [] }; init = (Some (roll-Expr (record { spot = record { line = 30; column = 24 }; node = (Call' (codes "feedOblivLLong") (tt ∷ tt ∷ []) (more_of-Expr (record { line = 30; column = 39 }) (Call' (codes "ocPrivate") (tt ∷ []) (more_of-Expr (record { line = 30; column = 49 }) (Number (record { kind = I32; value = 0; of_kind = refl })) end_of-Expr)) (more_of-Expr (record { line = 30; column = 53 }) (Number (record { kind = I32; value = 2; of_kind = refl })) end_of-Expr))) }))) }) ∷ [])) })) ∷ (roll-Stmt (record { spot = record { line = 31; column = 3 }; node = (Declare ((record { field = record { spot = record { line = 31; column = 7 }; name = (codes "a8"); base = record { spot = record { line = 31; column = 3 }; frozen = false; obliv = false; kind = (base.Int I32) }; stars = 0; dims = (2 ∷ []) }; init = None }) ∷ [])) })) ∷ (roll-Stmt (record { spot = record { line = 32; column = 3 }; node = (Express (roll-Expr (record { spot = record { line = 32; column = 3 }; node = (Call' (codes "ocResult") (tt ∷ tt ∷ []) (more_of-Expr (record { line = 32; column = 12 }) (Binary' Greater tt (more_of-Expr (record { line = 32; column = 13 }) (Binary' Less tt (more_of-Expr (record { line = 32; column = 13 }) (Index' tt (more_of-Expr (record { line = 32; column = 13 }) (Named (codes "a8")) end_of-Expr) tt (more_of-Expr (record { line = 32; column = 16 }) (Number (record { kind = I32; value = 0; of_kind = refl })) end_of-Expr)) end_of-Expr) tt (more_of-Expr (record { line = 32; column = 21 }) (Number (record { kind = I64; value = 9223372036854775807; of_kind = refl })) end_of-Expr)) end_of-Expr) tt (more_of-Expr (record { line = 32; column = 45 }) (Call' (codes "fn1") (tt ∷ tt ∷ []) (more_of-Expr (record { line = 32; column = 50 }) (Choose' tt (more_of-Expr (record { line = 32; column = 50 }) (Index' tt (more_of-Expr (record { line = 32; column = 50 }) (Named (codes "a8")) end_of-Expr) tt (more_of-Expr (record { line = 32; column = 53 }) (Number (record { kind = I32; value = 1; of_kind = refl })) end_of-Expr)) end_of-Expr) tt (more_of-Expr (record { line = 32; column = 58 }) (Number (record { kind = I32; value = 9; of_kind = refl })) end_of-Expr) tt (more_of-Expr (record { line = 32; column = 62 }) (Number (record { kind = I64; value = 2147483648; of_kind = refl })) end_of-Expr)) (more_of-Expr (record { line = 32; column = 77 }) (Binary' LessEq tt (more_of-Expr (record { line = 32; column = 77 }) (Number (record { kind = I32; value = 13; of_kind = refl })) end_of-Expr) tt (more_of-Expr (record { line = 32; column = 83 }) (Named (codes "f7")) end_of-Expr)) end_of-Expr))) end_of-Expr)) (more_of-Expr (record { line = 32; column = 89 }) (Number (record { kind = I32; value = 1; of_kind = refl })) end_of-Expr))) }))) })) ∷ (roll-Stmt (record { spot = record { line = 33; column = 3 }; node = (Express (roll-Expr (record { spot = record { line = 33; column = 3 }; node = (Assign' (Some Add) tt (more_of-Expr (record { line = 33; column = 3 }) (Index' tt (more_of-Expr (record { line = 33; column = 3 }) (Named (codes "a8")) end_of-Expr) tt (more_of-Expr (record { line = 33; column = 6 }) (Number (record { kind = I32; value = 0; of_kind = refl })) end_of-Expr)) end_of-Expr) tt (more_of-Expr (record { line = 33; column = 12 }) (Binary' Less tt (more_of-Expr (record { line = 33; column = 12 }) (Index' tt (more_of-Expr (record { line = 33; column = 12 }) (Named (codes "a8")) end_of-Expr) tt (more_of-Expr (record { line = 33; column = 15 }) (Number (record { kind = I32; value = 1; of_kind = refl })) end_of-Expr)) end_of-Expr) tt (more_of-Expr (record { line = 33; column = 21 }) (Unary' Neg tt (more_of-Expr (record { line = 33; column = 22 }) (Index' tt (more_of-Expr (record { line = 33; column = 22 }) (Named (codes "a8")) end_of-Expr) tt (more_of-Expr (record { line = 33; column = 25 }) (Number (record { kind = I32; value = 0; of_kind = refl })) end_of-Expr)) end_of-Expr)) end_of-Expr)) end_of-Expr)) }))) })) ∷ (roll-Stmt (record { spot = record { line = 34; column = 3 }; node = (Declare ((record { field = record { spot = record { line = 34; column = 13 }; name = (codes "a9"); base = record { spot = record { line = 34; column = 3 }; frozen = false; obliv = true; kind = (base.Int I32) }; stars = 0; dims = (2 ∷ []) }; init = None }) ∷ [])) })) ∷ (roll-Stmt (record { spot = record { line = 35; column = 3 }; node = (Declare ((record { field = record { spot = record { line = 35; column = 7 }; name = (codes "w10"); base = record { spot = record { line = 35; column = 3 }; frozen = false; obliv = false; kind = (base.Int I32) }; stars = 0; dims = [] }; init = (Some (roll-Expr (record { spot = record { line = 35; column = 13 }; node = (Number (record { kind = I32; value = 2; of_kind = refl })) }))) }) ∷ [])) })) ∷ (roll-Stmt (record { spot = record { line = 36; column = 3 }; node = (While' (roll-Expr (record { spot = record { line = 36; column = 10 }; node = (Binary' Greater tt (more_of-Expr (record { line = 36; column = 10 }) (Bump' false false tt (more_of-Expr (record { line = 36; column = 10 }) (Named (codes "w10")) end_of-Expr)) end_of-Expr) tt (more_of-Expr (record { line = 36; column = 18 }) (Number (record { kind = I32; value = 0; of_kind = refl })) end_of-Expr)) })) tt (more_of-Stmt (record { line = 37; column = 3 }) (Block' (tt ∷ []) (more_of-Stmt (record { line = 38; column = 5 }) (OblivIf' (roll-Expr (record { spot = record { line = 38; column = 15 }; node = (Cast' (record { base = record { spot = record { line = 38; column = 16 }; frozen = false; obliv = true; kind = (base.Int I64) }; stars = 0 }) tt (more_of-Expr (record { line = 38; column = 29 }) (Choose' tt (more_of-Expr (record { line = 38; column = 29 }) (Index' tt (more_of-Expr (record { line = 38; column = 29 }) (Named (codes "a8")) end_of-Expr) tt (more_of-Expr (record { line = 38; column = 32 }) (Number (record { kind = I32; value = 0; of_kind = refl })) end_of-Expr)) end_of-Expr) tt (more_of-Expr (record { line = 38; column = 37 }) (Number (record { kind = I32; value = 2; of_kind = refl })) end_of-Expr) tt (more_of-Expr (record { line = 38; column = 41 }) (Index' tt (more_of-Expr (record { line = 38; column = 41 }) (Named (codes "a8")) end_of-Expr) tt (more_of-Expr (record { line = 38; column = 44 }) (Number (record { kind = I32; value = 1; of_kind = refl })) end_of-Expr)) end_of-Expr)) end_of-Expr)) })) tt (more_of-Stmt (record { line = 39; column = 5 }) (Block' (tt ∷ tt ∷ []) (more_of-Stmt (record { line = 40; column = 7 }) (OblivIf' (roll-Expr (record { spot = record { line = 40; column = 17 }; node = (Cast' (record { base = record { spot = record { line = 40; column = 18 }; frozen = false; obliv = true; kind = (base.Int I32) }; stars = 0 }) tt (more_of-Expr (record { line = 40; column = 36 }) (Unary' Neg tt (more_of-Expr (record { line = 40; column = 37 }) (Index' tt (more_of-Expr (record { line = 40; column = 37 }) (Named (codes "a8")) end_of-Expr) tt (more_of-Expr (record { line = 40; column = 40 }) (Number (record { kind = I32; value = 1; of_kind = refl })) end_of-Expr)) end_of-Expr)) end_of-Expr)) })) tt (more_of-Stmt (record { line = 41; column = 7 }) (Block' (tt ∷ tt ∷ tt ∷ []) (more_of-Stmt (record { line = 42; column = 9 }) (Express (roll-Expr (record { spot = record { line = 42; column = 9 }; node = (Assign' None tt (more_of-Expr (record { line = 42; column = 9 }) (Named (codes "f7")) end_of-Expr) tt (more_of-Expr (record { line = 42; column = 14 }) (Binary' Shr tt (more_of-Expr (record { line = 42; column = 15 }) (Logic' false tt (more_of-Expr (record { line = 42; column = 16 }) (Binary' LessEq tt (more_of-Expr (record { line = 42; column = 16 }) (Index' tt (more_of-Expr (record { line = 42; column = 16 }) (Named (codes "a9")) end_of-Expr) tt (more_of-Expr (record { line = 42; column = 19 }) (Number (record { kind = I32; value = 0; of_kind = refl })) end_of-Expr)) end_of-Expr) tt (more_of-Expr (record { line = 42; column = 25 }) (Index' tt (more_of-Expr (record { line = 42; column = 25 }) (Named (codes "a9")) end_of-Expr) tt (more_of-Expr (record { line = 42; column = 28 }) (Number (record { kind = I32; value = 1; of_kind = refl })) end_of-Expr)) end_of-Expr)) end_of-Expr) tt (more_of-Expr (record { line = 42; column = 35 }) (Named (codes "f7")) end_of-Expr)) end_of-Expr) tt (more_of-Expr (record { line = 42; column = 43 }) (Index' tt (more_of-Expr (record { line = 42; column = 43 }) (Named (codes "a8")) end_of-Expr) tt (more_of-Expr (record { line = 42; column = 46 }) (Number (record { kind = I32; value = 1; of_kind = refl })) end_of-Expr)) end_of-Expr)) end_of-Expr)) }))) (more_of-Stmt (record { line = 43; column = 9 }) (Express (roll-Expr (record { spot = record { line = 43; column = 9 }; node = (Assign' None tt (more_of-Expr (record { line = 43; column = 9 }) (Index' tt (more_of-Expr (record { line = 43; column = 9 }) (Named (codes "a9")) end_of-Expr) tt (more_of-Expr (record { line = 43; column = 12 }) (Binary' And tt (more_of-Expr (record { line = 43; column = 13 }) (Binary' Add tt (more_of-Expr (record { line = 43; column = 13 }) (Named (codes "w10")) end_of-Expr) tt (more_of-Expr (record { line = 43; column = 20 }) (Index' tt (more_of-Expr (record { line = 43; column = 20 }) (Named (codes "a8")) end_of-Expr) tt (more_of-Expr (record { line = 43; column = 23 }) (Binary' Rem tt (more_of-Expr (record { line = 43; column = 23 }) (Cast' (record { base = record { spot = record { line = 43; column = 24 }; frozen = false; obliv = false; kind = (base.Int U32) }; stars = 0 }) tt (more_of-Expr (record { line = 43; column = 34 }) (Binary' Rem tt (more_of-Expr (record { line = 43; column = 34 }) (Number (record { kind = I32; value = 1; of_kind = refl })) end_of-Expr) tt (more_of-Expr (record { line = 43; column = 40 }) (Binary' Add tt (more_of-Expr (record { line = 43; column = 41 }) (Binary' And tt (more_of-Expr (record { line = 43; column = 41 }) (Index' tt (more_of-Expr (record { line = 43; column = 41 }) (Named (codes "a8")) end_of-Expr) tt (more_of-Expr (record { line = 43; column = 44 }) (Number (record { kind = I32; value = 0; of_kind = refl })) end_of-Expr)) end_of-Expr) tt (more_of-Expr (record { line = 43; column = 49 }) (Number (record { kind = I32; value = 7; of_kind = refl })) end_of-Expr)) end_of-Expr) tt (more_of-Expr (record { line = 43; column = 54 }) (Number (record { kind = I32; value = 1; of_kind = refl })) end_of-Expr)) end_of-Expr)) end_of-Expr)) end_of-Expr) tt (more_of-Expr (record { line = 43; column = 60 }) (Number (record { kind = U32; value = 2; of_kind = refl })) end_of-Expr)) end_of-Expr)) end_of-Expr)) end_of-Expr) tt (more_of-Expr (record { line = 43; column = 68 }) (Number (record { kind = I32; value = 1; of_kind = refl })) end_of-Expr)) end_of-Expr)) end_of-Expr) tt (more_of-Expr (record { line = 43; column = 73 }) (Binary' Add tt (more_of-Expr (record { line = 43; column = 74 }) (Binary' Equal tt (more_of-Expr (record { line = 43; column = 74 }) (Unary' Not tt (more_of-Expr (record { line = 43; column = 75 }) (Number (record { kind = I32; value = 3; of_kind = refl })) end_of-Expr)) end_of-Expr) tt (more_of-Expr (record { line = 43; column = 80 }) (Named (codes "w10")) end_of-Expr)) end_of-Expr) tt (more_of-Expr (record { line = 43; column = 88 }) (Index' tt (more_of-Expr (record { line = 43; column = 88 }) (Named (codes "a9")) end_of-Expr) tt (more_of-Expr (record { line = 43; column = 91 }) (Binary' And tt (more_of-Expr (record { line = 43; column = 92 }) (Logic' true tt (more_of-Expr (record { line = 43; column = 92 }) (Number (record { kind = I32; value = 5; of_kind = refl })) end_of-Expr) tt (more_of-Expr (record { line = 43; column = 97 }) (Number (record { kind = I32; value = 14; of_kind = refl })) end_of-Expr)) end_of-Expr) tt (more_of-Expr (record { line = 43; column = 103 }) (Number (record { kind = I32; value = 1; of_kind = refl })) end_of-Expr)) end_of-Expr)) end_of-Expr)) end_of-Expr)) }))) (more_of-Stmt (record { line = 44; column = 9 }) (Express (roll-Expr (record { spot = record { line = 44; column = 9 }; node = (Assign' (Some And) tt (more_of-Expr (record { line = 44; column = 9 }) (Index' tt (more_of-Expr (record { line = 44; column = 9 }) (Named (codes "a9")) end_of-Expr) tt (more_of-Expr (record { line = 44; column = 12 }) (Binary' And tt (more_of-Expr (record { line = 44; column = 13 }) (Number (record { kind = I32; value = 2; of_kind = refl })) end_of-Expr) tt (more_of-Expr (record { line = 44; column = 18 }) (Number (record { kind = I32; value = 1; of_kind = refl })) end_of-Expr)) end_of-Expr)) end_of-Expr) tt (more_of-Expr (record { line = 44; column = 24 }) (Cast' (record { base = record { spot = record { line = 44; column = 25 }; frozen = false; obliv = true; kind = (base.Int I64) }; stars = 0 }) tt (more_of-Expr (record { line = 44; column = 42 }) (Choose' tt (more_of-Expr (record { line = 44; column = 42 }) (Index' tt (more_of-Expr (record { line = 44; column = 42 }) (Named (codes "a8")) end_of-Expr) tt (more_of-Expr (record { line = 44; column = 45 }) (Number (record { kind = I32; value = 0; of_kind = refl })) end_of-Expr)) end_of-Expr) tt (more_of-Expr (record { line = 44; column = 50 }) (Index' tt (more_of-Expr (record { line = 44; column = 50 }) (Named (codes "a8")) end_of-Expr) tt (more_of-Expr (record { line = 44; column = 53 }) (Number (record { kind = I32; value = 1; of_kind = refl })) end_of-Expr)) end_of-Expr) tt (more_of-Expr (record { line = 44; column = 58 }) (Number (record { kind = I32; value = 7; of_kind = refl })) end_of-Expr)) end_of-Expr)) end_of-Expr)) }))) end_of-Stmt)))) end_of-Stmt) (Some' tt (more_of-Stmt (record { line = 47; column = 7 }) (Block' (tt ∷ []) (more_of-Stmt (record { line = 48; column = 9 }) (OblivIf' (roll-Expr (record { spot = record { line = 48; column = 19 }; node = (Cast' (record { base = record { spot = record { line = 48; column = 20 }; frozen = false; obliv = true; kind = (base.Int U16) }; stars = 0 }) tt (more_of-Expr (record { line = 48; column = 46 }) (Cast' (record { base = record { spot = record { line = 48; column = 47 }; frozen = false; obliv = true; kind = (base.Int U32) }; stars = 0 }) tt (more_of-Expr (record { line = 48; column = 62 }) (Index' tt (more_of-Expr (record { line = 48; column = 62 }) (Named (codes "a9")) end_of-Expr) tt (more_of-Expr (record { line = 48; column = 65 }) (Number (record { kind = I32; value = 0; of_kind = refl })) end_of-Expr)) end_of-Expr)) end_of-Expr)) })) tt (more_of-Stmt (record { line = 49; column = 9 }) (Block' (tt ∷ tt ∷ []) (more_of-Stmt (record { line = 50; column = 11 }) (Declare ((record { field = record { spot = record { line = 50; column = 30 }; name = (codes "p11"); base = record { spot = record { line = 50; column = 11 }; frozen = true; obliv = true; kind = (base.Int I64) }; stars = 1; dims = [] }; init = (Some (roll-Expr (record { spot = record { line = 50; column = 36 }; node = (Unary' Address tt (more_of-Expr (record { line = 50; column = 37 }) (Named (codes "f7")) end_of-Expr)) }))) }) ∷ [])) (more_of-Stmt (record { line = 51; column = 11 }) (Declare ((record { field = record { spot = record { line = 51; column = 30 }; name = (codes "v12"); base = record { spot = record { line = 51; column = 11 }; frozen = false; obliv = true; kind = (base.Int U32) }; stars = 0; dims = [] }; init = (Some (roll-Expr (record { spot = record { line = 51; column = 37 }; node = (Choose' tt (more_of-Expr (record { line = 51; column = 38 }) (Unary' Neg tt (more_of-Expr (record { line = 51; column = 39 }) (Index' tt (more_of-Expr (record { line = 51; column = 39 }) (Named (codes "a8")) end_of-Expr) tt (more_of-Expr (record { line = 51; column = 42 }) (Number (record { kind = I32; value = 1; of_kind = refl })) end_of-Expr)) end_of-Expr)) end_of-Expr) tt (more_of-Expr (record { line = 51; column = 48 }) (Number (record { kind = U32; value = 2147483648; of_kind = refl })) end_of-Expr) tt (more_of-Expr (record { line = 51; column = 64 }) (Binary' Rem tt (more_of-Expr (record { line = 51; column = 64 }) (Named (codes "w10")) end_of-Expr) tt (more_of-Expr (record { line = 51; column = 71 }) (Binary' Add tt (more_of-Expr (record { line = 51; column = 72 }) (Binary' And tt (more_of-Expr (record { line = 51; column = 72 }) (Named (codes "w10")) end_of-Expr) tt (more_of-Expr (record { line = 51; column = 78 }) (Number (record { kind = I32; value = 7; of_kind = refl })) end_of-Expr)) end_of-Expr) tt (more_of-Expr (record { line = 51; column = 83 }) (Number (record { kind = U32; value = 1; of_kind = refl })) end_of-Expr)) end_of-Expr)) end_of-Expr)) }))) }) ∷ [])) end_of-Stmt))) end_of-Stmt) (Some' tt (more_of-Stmt (record { line = 54; column = 9 }) (Block' (tt ∷ []) (more_of-Stmt (record { line = 55; column = 11 }) (Declare ((record { field = record { spot = record { line = 55; column = 15 }; name = (codes "v13"); base = record { spot = record { line = 55; column = 11 }; frozen = false; obliv = false; kind = (base.Int I32) }; stars = 0; dims = [] }; init = (Some (roll-Expr (record { spot = record { line = 55; column = 21 }; node = (Unary' Not tt (more_of-Expr (record { line = 55; column = 22 }) (Index' tt (more_of-Expr (record { line = 55; column = 22 }) (Named (codes "a8")) end_of-Expr) tt (more_of-Expr (record { line = 55; column = 25 }) (Binary' And tt (more_of-Expr (record { line = 55; column = 26 }) (Number (record { kind = I32; value = 17; of_kind = refl })) end_of-Expr) tt (more_of-Expr (record { line = 55; column = 32 }) (Number (record { kind = I32; value = 1; of_kind = refl })) end_of-Expr)) end_of-Expr)) end_of-Expr)) }))) }) ∷ [])) end_of-Stmt)) end_of-Stmt))) end_of-Stmt)) end_of-Stmt))) (more_of-Stmt (record { line = 58; column = 7 }) (OblivIf' (roll-Expr (record { spot = record { line = 58; column = 17 }; node = (Binary' Sub tt (more_of-Expr (record { line = 58; column = 17 }) (Index' tt (more_of-Expr (record { line = 58; column = 17 }) (Named (codes "a9")) end_of-Expr) tt (more_of-Expr (record { line = 58; column = 20 }) (Number (record { kind = I32; value = 0; of_kind = refl })) end_of-Expr)) end_of-Expr) tt (more_of-Expr (record { line = 58; column = 26 }) (Binary' Mul tt (more_of-Expr (record { line = 58; column = 26 }) (Index' tt (more_of-Expr (record { line = 58; column = 26 }) (Named (codes "a8")) end_of-Expr) tt (more_of-Expr (record { line = 58; column = 29 }) (Number (record { kind = I32; value = 1; of_kind = refl })) end_of-Expr)) end_of-Expr) tt (more_of-Expr (record { line = 58; column = 34 }) (Named (codes "w10")) end_of-Expr)) end_of-Expr)) })) tt (more_of-Stmt (record { line = 59; column = 7 }) (Block' (tt ∷ []) (more_of-Stmt (record { line = 60; column = 9 }) (Express (roll-Expr (record { spot = record { line = 60; column = 9 }; node = (Assign' None tt (more_of-Expr (record { line = 60; column = 9 }) (Index' tt (more_of-Expr (record { line = 60; column = 9 }) (Named (codes "a9")) end_of-Expr) tt (more_of-Expr (record { line = 60; column = 12 }) (Binary' Rem tt (more_of-Expr (record { line = 60; column = 12 }) (Cast' (record { base = record { spot = record { line = 60; column = 13 }; frozen = false; obliv = false; kind = (base.Int U32) }; stars = 0 }) tt (more_of-Expr (record { line = 60; column = 23 }) (Named (codes "w10")) end_of-Expr)) end_of-Expr) tt (more_of-Expr (record { line = 60; column = 30 }) (Number (record { kind = U32; value = 2; of_kind = refl })) end_of-Expr)) end_of-Expr)) end_of-Expr) tt (more_of-Expr (record { line = 60; column = 37 }) (Choose' tt (more_of-Expr (record { line = 60; column = 37 }) (Index' tt (more_of-Expr (record { line = 60; column = 37 }) (Named (codes "a8")) end_of-Expr) tt (more_of-Expr (record { line = 60; column = 40 }) (Number (record { kind = I32; value = 1; of_kind = refl })) end_of-Expr)) end_of-Expr) tt (more_of-Expr (record { line = 60; column = 45 }) (Logic' false tt (more_of-Expr (record { line = 60; column = 46 }) (Cast' (record { base = record { spot = record { line = 60; column = 47 }; frozen = false; obliv = true; kind = (base.Int I32) }; stars = 0 }) tt (more_of-Expr (record { line = 60; column = 57 }) (Index' tt (more_of-Expr (record { line = 60; column = 57 }) (Named (codes "a8")) end_of-Expr) tt (more_of-Expr (record { line = 60; column = 60 }) (Number (record { kind = I32; value = 0; of_kind = refl })) end_of-Expr)) end_of-Expr)) end_of-Expr) tt (more_of-Expr (record { line = 60; column = 68 }) (Binary' NotEqual tt (more_of-Expr (record { line = 60; column = 68 }) (Index' tt (more_of-Expr (record { line = 60; column = 68 }) (Named (codes "a9")) end_of-Expr) tt (more_of-Expr (record { line = 60; column = 71 }) (Number (record { kind = I32; value = 1; of_kind = refl })) end_of-Expr)) end_of-Expr) tt (more_of-Expr (record { line = 60; column = 77 }) (Index' tt (more_of-Expr (record { line = 60; column = 77 }) (Named (codes "a9")) end_of-Expr) tt (more_of-Expr (record { line = 60; column = 80 }) (Number (record { kind = I32; value = 0; of_kind = refl })) end_of-Expr)) end_of-Expr)) end_of-Expr)) end_of-Expr) tt (more_of-Expr (record { line = 60; column = 87 }) (Logic' false tt (more_of-Expr (record { line = 60; column = 88 }) (Cast' (record { base = record { spot = record { line = 60; column = 89 }; frozen = false; obliv = true; kind = (base.Int I32) }; stars = 0 }) tt (more_of-Expr (record { line = 60; column = 106 }) (Named (codes "f7")) end_of-Expr)) end_of-Expr) tt (more_of-Expr (record { line = 60; column = 114 }) (Binary' LessEq tt (more_of-Expr (record { line = 60; column = 114 }) (Number (record { kind = I32; value = 128; of_kind = refl })) end_of-Expr) tt (more_of-Expr (record { line = 60; column = 122 }) (Index' tt (more_of-Expr (record { line = 60; column = 122 }) (Named (codes "a9")) end_of-Expr) tt (more_of-Expr (record { line = 60; column = 125 }) (Number (record { kind = I32; value = 1; of_kind = refl })) end_of-Expr)) end_of-Expr)) end_of-Expr)) end_of-Expr)) end_of-Expr)) }))) end_of-Stmt)) end_of-Stmt) None') end_of-Stmt))) end_of-Stmt) (Some' tt (more_of-Stmt (record { line = 64; column = 5 }) (Block' (tt ∷ []) (more_of-Stmt (record { line = 65; column = 7 }) (Express (roll-Expr (record { spot = record { line = 65; column = 7 }; node = (Assign' None tt (more_of-Expr (record { line = 65; column = 7 }) (Named (codes "f7")) end_of-Expr) tt (more_of-Expr (record { line = 65; column = 12 }) (Binary' Sub tt (more_of-Expr (record { line = 65; column = 13 }) (Binary' GreaterEq tt (more_of-Expr (record { line = 65; column = 14 }) (Logic' false tt (more_of-Expr (record { line = 65; column = 14 }) (Named (codes "f7")) end_of-Expr) tt (more_of-Expr (record { line = 65; column = 20 }) (Index' tt (more_of-Expr (record { line = 65; column = 20 }) (Named (codes "a9")) end_of-Expr) tt (more_of-Expr (record { line = 65; column = 23 }) (Number (record { kind = I32; value = 0; of_kind = refl })) end_of-Expr)) end_of-Expr)) end_of-Expr) tt (more_of-Expr (record { line = 65; column = 32 }) (Assign' (Some Xor) tt (more_of-Expr (record { line = 65; column = 32 }) (Named (codes "f7")) end_of-Expr) tt (more_of-Expr (record { line = 65; column = 38 }) (Number (record { kind = I32; value = 16; of_kind = refl })) end_of-Expr)) end_of-Expr)) end_of-Expr) tt (more_of-Expr (record { line = 65; column = 47 }) (Unary' Not tt (more_of-Expr (record { line = 65; column = 48 }) (Named (codes "w10")) end_of-Expr)) end_of-Expr)) end_of-Expr)) }))) end_of-Stmt)) end_of-Stmt))) end_of-Stmt)) end_of-Stmt)) })) ∷ (roll-Stmt (record { spot = record { line = 68; column = 3 }; node = (Express (roll-Expr (record { spot = record { line = 68; column = 3 }; node = (Assign' (Some Shl) tt (more_of-Expr (record { line = 68; column = 3 }) (Named (codes "f7")) end_of-Expr) tt (more_of-Expr (record { line = 68; column = 10 }) (Logic' false tt (more_of-Expr (record { line = 68; column = 11 }) (Binary' Rem tt (more_of-Expr (record { line = 68; column = 11 }) (Index' tt (more_of-Expr (record { line = 68; column = 11 }) (Named (codes "a8")) end_of-Expr) tt (more_of-Expr (record { line = 68; column = 14 }) (Number (record { kind = I32; value = 1; of_kind = refl })) end_of-Expr)) end_of-Expr) tt (more_of-Expr (record { line = 68; column = 19 }) (Named (codes "f7")) end_of-Expr)) end_of-Expr) tt (more_of-Expr (record { line = 68; column = 26 }) (Named (codes "w10")) end_of-Expr)) end_of-Expr)) }))) })) ∷ (roll-Stmt (record { spot = record { line = 69; column = 3 }; node = (Express (roll-Expr (record { spot = record { line = 69; column = 3 }; node = (Call' (codes "printf") (tt ∷ tt ∷ []) (more_of-Expr (record { line = 69; column = 10 }) (Text (97 ∷ 9 ∷ 98 ∷ 32 ∷ 37 ∷ 100 ∷ 10 ∷ [])) (more_of-Expr (record { line = 69; column = 23 }) (Index' tt (more_of-Expr (record { line = 69; column = 23 }) (Named (codes "a8")) end_of-Expr) tt (more_of-Expr (record { line = 69; column = 26 }) (Binary' Rem tt (more_of-Expr (record { line = 69; column = 26 }) (Cast' (record { base = record { spot = record { line = 69; column = 27 }; frozen = false; obliv = false; kind = (base.Int U32) }; stars = 0 }) tt (more_of-Expr (record { line = 69; column = 38 }) (Assign' None tt (more_of-Expr (record { line = 69; column = 38 }) (Index' tt (more_of-Expr (record { line = 69; column = 38 }) (Named (codes "a8")) end_of-Expr) tt (more_of-Expr (record { line = 69; column = 41 }) (Binary' And tt (more_of-Expr (record { line = 69; column = 42 }) (Named (codes "w10")) end_of-Expr) tt (more_of-Expr (record { line = 69; column = 49 }) (Number (record { kind = I32; value = 1; of_kind = refl })) end_of-Expr)) end_of-Expr)) end_of-Expr) tt (more_of-Expr (record { line = 69; column = 54 }) (Number (record { kind = U32; value = 2147483648; of_kind = refl })) end_of-Expr)) end_of-Expr)) end_of-Expr) tt (more_of-Expr (record { line = 69; column = 71 }) (Number (record { kind = U32; value = 2; of_kind = refl })) end_of-Expr)) end_of-Expr)) end_of-Expr))) }))) })) ∷ (roll-Stmt (record { spot = record { line = 70; column = 3 }; node = (Declare ((record { field = record { spot = record { line = 70; column = 12 }; name = (codes "z14"); base = record { spot = record { line = 70; column = 3 }; frozen = false; obliv = false; kind = (base.Int I64) }; stars = 0; dims = [] }; init = None }) ∷ [])) })) ∷ (roll-Stmt (record { spot = record { line = 71; column = 3 }; node = (Express (roll-Expr (record { spot = record { line = 71; column = 3 }; node = (Call' (codes "revealOblivLLong") (tt ∷ tt ∷ tt ∷ []) (more_of-Expr (record { line = 71; column = 20 }) (Unary' Address tt (more_of-Expr (record { line = 71; column = 21 }) (Named (codes "z14")) end_of-Expr)) (more_of-Expr (record { line = 71; column = 26 }) (Named (codes "f7")) (more_of-Expr (record { line = 71; column = 30 }) (Number (record { kind = I32; value = 0; of_kind = refl })) end_of-Expr)))) }))) })) ∷ (roll-Stmt (record { spot = record { line = 72; column = 1 }; node = (Block' (tt ∷ tt ∷ []) (more_of-Stmt (record { line = 72; column = 3 }) (Declare ((record { field = record { spot = record { line = 72; column = 7 }; name = (codes "a"); base = record { spot = record { line = 72; column = 3 }; frozen = false; obliv = false; kind = (base.Int I32) }; stars = 0; dims = (3 ∷ []) }; init = None }) ∷ [])) (more_of-Stmt (record { line = 72; column = 13 }) (Express (roll-Expr (record { spot = record { line = 72; column = 13 }; node = (Index' tt (more_of-Expr (record { line = 72; column = 13 }) (Named (codes "a")) end_of-Expr) tt (more_of-Expr (record { line = 72; column = 15 }) (Unary' Neg tt (more_of-Expr (record { line = 72; column = 16 }) (Number (record { kind = I32; value = 1; of_kind = refl })) end_of-Expr)) end_of-Expr)) }))) end_of-Stmt))) })) ∷ (roll-Stmt (record { spot = record { line = 73; column = 3 }; node = (Express (roll-Expr (record { spot = record { line = 73; column = 3 }; node = (Call' (codes "printf") (tt ∷ tt ∷ []) (more_of-Expr (record { line = 73; column = 10 }) (Text (37 ∷ 108 ∷ 108 ∷ 100 ∷ 10 ∷ [])) (more_of-Expr (record { line = 73; column = 20 }) (Named (codes "z14")) end_of-Expr))) }))) })) ∷ (roll-Stmt (record { spot = record { line = 74; column = 3 }; node = (Express (roll-Expr (record { spot = record { line = 74; column = 3 }; node = (Call' (codes "printf") (tt ∷ tt ∷ []) (more_of-Expr (record { line = 74; column = 10 }) (Text (37 ∷ 100 ∷ 10 ∷ [])) (more_of-Expr (record { line = 74; column = 18 }) (Index' tt (more_of-Expr (record { line = 74; column = 18 }) (Named (codes "a8")) end_of-Expr) tt (more_of-Expr (record { line = 74; column = 21 }) (Number (record { kind = I32; value = 0; of_kind = refl })) end_of-Expr)) end_of-Expr))) }))) })) ∷ (roll-Stmt (record { spot = record { line = 75; column = 3 }; node = (Express (roll-Expr (record { spot = record { line = 75; column = 3 }; node = (Call' (codes "printf") (tt ∷ tt ∷ []) (more_of-Expr (record { line = 75; column = 10 }) (Text (37 ∷ 100 ∷ 10 ∷ [])) (more_of-Expr (record { line = 75; column = 18 }) (Index' tt (more_of-Expr (record { line = 75; column = 18 }) (Named (codes "a8")) end_of-Expr) tt (more_of-Expr (record { line = 75; column = 21 }) (Number (record { kind = I32; value = 1; of_kind = refl })) end_of-Expr)) end_of-Expr))) }))) })) ∷ (roll-Stmt (record { spot = record { line = 76; column = 3 }; node = (Express (roll-Expr (record { spot = record { line = 76; column = 3 }; node = (Call' (codes "ocResult") (tt ∷ tt ∷ []) (more_of-Expr (record { line = 76; column = 12 }) (Index' tt (more_of-Expr (record { line = 76; column = 12 }) (Named (codes "a9")) end_of-Expr) tt (more_of-Expr (record { line = 76; column = 15 }) (Number (record { kind = I32; value = 0; of_kind = refl })) end_of-Expr)) (more_of-Expr (record { line = 76; column = 19 }) (Number (record { kind = I32; value = 2; of_kind = refl })) end_of-Expr))) }))) })) ∷ (roll-Stmt (record { spot = record { line = 77; column = 3 }; node = (Declare ((record { field = record { spot = record { line = 77; column = 7 }; name = (codes "z15"); base = record { spot = record { line = 77; column = 3 }; frozen = false; obliv = false; kind = (base.Int I32) }; stars = 0; dims = [] }; init = None }) ∷ [])) })) ∷ (roll-Stmt (record { spot = record { line = 78; column = 3 }; node = (Express (roll-Expr (record { spot = record { line = 78; column = 3 }; node = (Call' (codes "revealOblivInt") (tt ∷ tt ∷ tt ∷ []) (more_of-Expr (record { line = 78; column = 18 }) (Unary' Address tt (more_of-Expr (record { line = 78; column = 19 }) (Named (codes "z15")) end_of-Expr)) (more_of-Expr (record { line = 78; column = 24 }) (Index' tt (more_of-Expr (record { line = 78; column = 24 }) (Named (codes "a9")) end_of-Expr) tt (more_of-Expr (record { line = 78; column = 27 }) (Number (record { kind = I32; value = 1; of_kind = refl })) end_of-Expr)) (more_of-Expr (record { line = 78; column = 31 }) (Number (record { kind = I32; value = 0; of_kind = refl })) end_of-Expr)))) }))) })) ∷ (roll-Stmt (record { spot = record { line = 79; column = 3 }; node = (Express (roll-Expr (record { spot = record { line = 79; column = 3 }; node = (Call' (codes "printf") (tt ∷ tt ∷ []) (more_of-Expr (record { line = 79; column = 10 }) (Text (37 ∷ 100 ∷ 10 ∷ [])) (more_of-Expr (record { line = 79; column = 18 }) (Named (codes "z15")) end_of-Expr))) }))) })) ∷ (roll-Stmt (record { spot = record { line = 80; column = 3 }; node = (Express (roll-Expr (record { spot = record { line = 80; column = 3 }; node = (Call' (codes "printf") (tt ∷ tt ∷ []) (more_of-Expr (record { line = 80; column = 10 }) (Text (37 ∷ 100 ∷ 10 ∷ [])) (more_of-Expr (record { line = 80; column = 18 }) (Named (codes "w10")) end_of-Expr))) }))) })) ∷ [])) }) ∷ []); end = record { line = 82; column = 1 } }

abbrev setup : ClearSetup
setup = record { public = ((pos 31) ∷ []); first = ((negsuc 9223372036854775807) ∷ []); second = ((pos 30) ∷ (pos 32768) ∷ []); dealt = 1048576; budget = 3000 }

clear : Means (typed_program source) setup (Printed (34 ∷ 113 ∷ 34 ∷ 32 ∷ 45 ∷ 50 ∷ 49 ∷ 52 ∷ 55 ∷ 52 ∷ 56 ∷ 51 ∷ 54 ∷ 52 ∷ 56 ∷ 32 ∷ 37 ∷ 10 ∷ []) ∷ Given 1 I32 (pos 1) ∷ Printed (97 ∷ 9 ∷ 98 ∷ 32 ∷ 48 ∷ 10 ∷ []) ∷ Revealed I64 (negsuc 1) ∷ []) (Trap M1 (record { line = 72; column = 13 }))
unfolding next typed_program typed_value typed_alone digits hidden-the_row-TExpr-0 hidden-the_row-TExpr-1 hidden-the_row-TPlace-2 hidden-the_row-TStmt-0 hidden-the_row-TStmt-1 hidden-the_row-CType-0 hidden
clear = (refl, refl)

events : Makes (typed_program source) setup ((negsuc 1) ∷ [])
    (Feed 2 I64 0 ∷ Op LessEq I64 (Fix I64 (pos 13)) (Of 0) ∷ Turn KBool U32 (Of 1) ∷ Feed 1 KBool 0 ∷ Print (34 ∷ 113 ∷ 34 ∷ 32 ∷ 45 ∷ 50 ∷ 49 ∷ 52 ∷ 55 ∷ 52 ∷ 56 ∷ 51 ∷ 54 ∷ 52 ∷ 56 ∷ 32 ∷ 37 ∷ 10 ∷ []) ∷ One one.Flip U32 (Of 2) ∷ Op Less U32 (Of 5) (Fix U32 (pos 2147483648)) ∷ Turn KBool I32 (Of 6) ∷ Op Shl U32 (Of 2) (Of 7) ∷ Give 1 I32 (Fix I32 (pos 1)) ∷ Turn I64 KBool (Fix I64 (pos 0)) ∷ Turn I32 KBool (Fix I32 (pos 0)) ∷ Op And KBool (Of 10) (Of 11) ∷ Op LessEq I32 (Fix I32 (pos 0)) (Fix I32 (pos 0)) ∷ Turn I64 KBool (Of 0) ∷ Op Or KBool (Of 13) (Of 14) ∷ Turn KBool I32 (Of 15) ∷ ShiftBy Shr I32 (Of 16) (pos 0) ∷ Turn I32 I64 (Of 17) ∷ Pick I64 (Of 12) (Of 18) (Of 0) ∷ Op Add I32 (Fix I32 (pos 0)) (Fix I32 (pos 0)) ∷ Pick I32 (Of 12) (Of 20) (Fix I32 (pos 0)) ∷ Turn I32 I64 (Fix I32 (pos 0)) ∷ Op And I64 (Of 22) (Fix I64 (pos 7)) ∷ Turn I64 I32 (Of 23) ∷ Pick I32 (Of 12) (Of 24) (Fix I32 (pos 0)) ∷ Op Xor KBool (Of 10) (Of 12) ∷ Turn I32 U32 (Of 25) ∷ Turn U32 U16 (Of 27) ∷ Turn U16 KBool (Of 28) ∷ Op And KBool (Of 26) (Of 29) ∷ Op Xor KBool (Of 26) (Of 30) ∷ Op Sub I32 (Of 25) (Fix I32 (pos 0)) ∷ Turn I32 KBool (Of 32) ∷ Op And KBool (Of 10) (Of 33) ∷ Turn I64 I32 (Of 19) ∷ Turn I32 KBool (Of 35) ∷ Op LessEq I32 (Fix I32 (pos 128)) (Of 21) ∷ Op Or KBool (Of 36) (Of 37) ∷ Turn KBool I32 (Of 38) ∷ Pick I32 (Of 34) (Of 39) (Of 21) ∷ Op Xor KBool (Of 10) (Of 34) ∷ One one.Flip KBool (Of 10) ∷ Turn I64 KBool (Of 19) ∷ Turn I32 KBool (Of 25) ∷ Op Or KBool (Of 43) (Of 44) ∷ Turn KBool I64 (Of 45) ∷ Op Xor I64 (Of 19) (Fix I64 (pos 16)) ∷ Pick I64 (Of 42) (Of 47) (Of 19) ∷ Op GreaterEq I64 (Of 46) (Of 48) ∷ Turn KBool I32 (Of 49) ∷ Op Sub I32 (Of 50) (Fix I32 (pos 0)) ∷ Turn I32 I64 (Of 51) ∷ Pick I64 (Of 42) (Of 52) (Of 48) ∷ Turn I64 KBool (Fix I64 (pos 0)) ∷ Turn I32 KBool (Fix I32 (pos 0)) ∷ Op And KBool (Of 54) (Of 55) ∷ Op LessEq I32 (Of 25) (Of 40) ∷ Turn I64 KBool (Of 53) ∷ Op Or KBool (Of 57) (Of 58) ∷ Turn KBool I32 (Of 59) ∷ ShiftBy Shr I32 (Of 60) (pos 0) ∷ Turn I32 I64 (Of 61) ∷ Pick I64 (Of 56) (Of 62) (Of 53) ∷ Op Add I32 (Fix I32 (pos 1)) (Of 40) ∷ Pick I32 (Of 56) (Of 64) (Of 25) ∷ Turn I32 I64 (Of 65) ∷ Op And I64 (Of 66) (Fix I64 (pos 7)) ∷ Turn I64 I32 (Of 67) ∷ Pick I32 (Of 56) (Of 68) (Of 65) ∷ Op Xor KBool (Of 54) (Of 56) ∷ Turn I32 U32 (Of 69) ∷ Turn U32 U16 (Of 71) ∷ Turn U16 KBool (Of 72) ∷ Op And KBool (Of 70) (Of 73) ∷ Op Xor KBool (Of 70) (Of 74) ∷ Op Sub I32 (Of 69) (Fix I32 (pos 0)) ∷ Turn I32 KBool (Of 76) ∷ Op And KBool (Of 54) (Of 77) ∷ Turn I64 I32 (Of 63) ∷ Turn I32 KBool (Of 79) ∷ Op LessEq I32 (Fix I32 (pos 128)) (Of 40) ∷ Op Or KBool (Of 80) (Of 81) ∷ Turn KBool I32 (Of 82) ∷ Pick I32 (Of 78) (Of 83) (Of 69) ∷ Op Xor KBool (Of 54) (Of 78) ∷ One one.Flip KBool (Of 54) ∷ Turn I64 KBool (Of 63) ∷ Turn I32 KBool (Of 84) ∷ Op Or KBool (Of 87) (Of 88) ∷ Turn KBool I64 (Of 89) ∷ Op Xor I64 (Of 63) (Fix I64 (pos 16)) ∷ Pick I64 (Of 86) (Of 91) (Of 63) ∷ Op GreaterEq I64 (Of 90) (Of 92) ∷ Turn KBool I32 (Of 93) ∷ Op Sub I32 (Of 94) (Fix I32 (pos 1)) ∷ Turn I32 I64 (Of 95) ∷ Pick I64 (Of 86) (Of 96) (Of 92) ∷ Op Rem I64 (Fix I64 (pos 0)) (Of 97) ∷ Turn I64 KBool (Of 98) ∷ Op Or KBool (Of 99) (Fix KBool (pos 1)) ∷ Turn KBool I32 (Of 100) ∷ Op Shl I64 (Of 97) (Of 101) ∷ Print (97 ∷ 9 ∷ 98 ∷ 32 ∷ 48 ∷ 10 ∷ []) ∷ Reveal I64 (Of 102) ∷ []) (Trap M1 (record { line = 72; column = 13 }))
unfolding next typed_program typed_value typed_alone digits hidden-the_row-TExpr-0 hidden-the_row-TExpr-1 hidden-the_row-TPlace-2 hidden-the_row-TStmt-0 hidden-the_row-TStmt-1 hidden-the_row-CType-0 hidden
events = (refl, refl)

typed : Passes (typed_program source)
unfolding next typed_program typed_value typed_alone digits hidden-the_row-TExpr-0 hidden-the_row-TExpr-1 hidden-the_row-TPlace-2 hidden-the_row-TStmt-0 hidden-the_row-TStmt-1 hidden-the_row-CType-0 hidden
typed = refl
