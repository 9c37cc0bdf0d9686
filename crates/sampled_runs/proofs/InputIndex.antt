-- A program whose run ends at an index out of the private words.
-- What its runs show, their events and what they leave were made by an independent model.
use Rattle.std.proofs.Common.{pos, negsuc, List, [], ◌∷◌, Some, None, true, false, refl}
use Rattle.std.specs.Fmt.{digits}
use Rattle.oc_values.specs.declared.integers.IntKind.TheVariants.{I8, I32, I64}
use Rattle.oc_values.specs.declared.integers.BinaryOp.TheVariants.{Sub, Or}
use Rattle.oc_cells.specs.declared.types.CType.{Int, Pointer, Nothing}
use Rattle.oc_cells.specs.declared.types.StructType.{StructType}
use Rattle.oc_cells.specs.declared.trap.TrapKind.TheVariants.{I1}
use Rattle.oc_typed.specs.declared.typed.TExprNode.{Number, Read, AddressOf, Assign, Update, Convert, Builtin as Known}
use Rattle.oc_typed.specs.declared.typed.TExprNode.TheBlock.{hidden-the_row-TExpr-0, hidden-the_row-TExpr-1, hidden-the_row-TPlace-2}
use Rattle.oc_typed.specs.declared.typed.TStmtNode.TheBlock.{hidden-the_row-TStmt-0, hidden-the_row-TStmt-1}
use Rattle.oc_cells.specs.declared.types.CType.TheBlock.{hidden-the_row-CType-0}
use denote.Hole.Carrier.{hidden}
use Rattle.oc_typed.specs.declared.typed.TPlaceNode.{Slot, Index}
use Rattle.oc_typed.specs.declared.typed.Builtin.TheVariants.{Private, Feed as Feeds, Reveal as Reveals, Give as Gives, PublicCount, PublicWord, Print as Prints}
use Rattle.oc_typed.specs.declared.typed.PrintPiece.TheVariants.{Text, Decimal}
use Rattle.oc_typed.specs.declared.typed.TStmtNode.{Declare, Express}
use Rattle.oc_typed.specs.declared.typed.TypedFunction.{TypedFunction}
use Rattle.oc_walk.specs.declared.run.ClearSetup.{ClearSetup}
use Rattle.oc_walk.specs.declared.run.Outcome.TheVariants.{Trap}
use Rattle.oc_meanings.specs.Clear.{Clear, known_of, clear_walk}
use Rattle.oc_meanings.specs.Events.{events_walk}
use Rattle.sampled_runs.proofs.Small.{Ends, Left}

abbrev structs : List StructType
structs = []

abbrev functions : List TypedFunction
functions = (record { name = []; result = Nothing; params = 0; slots = (record { ty = (Int I32 true); frozen = false } ∷ record { ty = (Int I8 true); frozen = false } ∷ record { ty = (Int I64 true); frozen = false } ∷ record { ty = (Pointer false (Int I8 true)); frozen = false } ∷ record { ty = (Int I32 false); frozen = false } ∷ record { ty = (Int I8 false); frozen = false } ∷ []); obliv = false; body = (record { spot = record { line = 6; column = 3 }; node = Declare (record { spot = record { line = 6; column = 16 }; slot = 0; init = Some (record { spot = record { line = 6; column = 21 }; ty = (Int I32 true); node = Known (Feeds I32 2) (record { spot = record { line = 6; column = 34 }; ty = (Int I32 true); node = Convert (record { spot = record { line = 6; column = 34 }; ty = (Int I64 false); node = Known PublicWord (record { spot = record { line = 6; column = 43 }; ty = (Int I32 false); node = Number (pos 1) } ∷ []) }) } ∷ []) }) } ∷ []) } ∷ record { spot = record { line = 7; column = 3 }; node = Declare (record { spot = record { line = 7; column = 21 }; slot = 1; init = Some (record { spot = record { line = 7; column = 26 }; ty = (Int I8 true); node = Known (Feeds I8 1) (record { spot = record { line = 7; column = 40 }; ty = (Int I32 false); node = Known Private (record { spot = record { line = 7; column = 50 }; ty = (Int I32 false); node = Number (pos 2) } ∷ []) } ∷ []) }) } ∷ []) } ∷ record { spot = record { line = 8; column = 3 }; node = Declare (record { spot = record { line = 8; column = 23 }; slot = 2; init = Some (record { spot = record { line = 8; column = 28 }; ty = (Int I64 true); node = Known (Feeds I64 1) (record { spot = record { line = 8; column = 43 }; ty = (Int I32 false); node = Known Private (record { spot = record { line = 8; column = 53 }; ty = (Int I32 false); node = Number (pos 0) } ∷ []) } ∷ []) }) } ∷ []) } ∷ record { spot = record { line = 9; column = 3 }; node = Express (record { spot = record { line = 9; column = 3 }; ty = Nothing; node = Known (Prints (Text (120 ∷ 32 ∷ 10 ∷ []) ∷ [])) [] }) } ∷ record { spot = record { line = 10; column = 3 }; node = Declare (record { spot = record { line = 10; column = 29 }; slot = 3; init = Some (record { spot = record { line = 10; column = 34 }; ty = (Pointer false (Int I8 true)); node = Convert (record { spot = record { line = 10; column = 34 }; ty = (Pointer false (Int I8 true)); node = AddressOf (record { spot = record { line = 10; column = 35 }; ty = (Int I8 true); node = Slot 1 }) }) }) } ∷ []) } ∷ record { spot = record { line = 11; column = 3 }; node = Express (record { spot = record { line = 11; column = 3 }; ty = (Int I32 true); node = Update Or (record { spot = record { line = 11; column = 3 }; ty = (Int I32 true); node = Slot 0 }) (record { spot = record { line = 11; column = 9 }; ty = (Int I32 true); node = Convert (record { spot = record { line = 11; column = 9 }; ty = (Int I32 false); node = Known PublicCount [] }) }) false }) } ∷ record { spot = record { line = 12; column = 3 }; node = Express (record { spot = record { line = 12; column = 3 }; ty = Nothing; node = Known (Prints (Text (34 ∷ 113 ∷ 34 ∷ 32 ∷ 10 ∷ []) ∷ [])) [] }) } ∷ record { spot = record { line = 13; column = 3 }; node = Express (record { spot = record { line = 13; column = 3 }; ty = Nothing; node = Known (Prints (Text (34 ∷ 113 ∷ 34 ∷ 32 ∷ 10 ∷ []) ∷ [])) [] }) } ∷ record { spot = record { line = 14; column = 3 }; node = Express (record { spot = record { line = 14; column = 3 }; ty = (Int I8 true); node = Update Sub (record { spot = record { line = 14; column = 3 }; ty = (Int I8 true); node = Slot 1 }) (record { spot = record { line = 14; column = 3 }; ty = (Int I32 true); node = Convert (record { spot = record { line = 14; column = 3 }; ty = (Int I32 false); node = Number (pos 1) }) }) true }) } ∷ record { spot = record { line = 15; column = 3 }; node = Express (record { spot = record { line = 15; column = 3 }; ty = (Int I8 true); node = Assign (record { spot = record { line = 15; column = 3 }; ty = (Int I8 true); node = Index (record { spot = record { line = 15; column = 3 }; ty = (Pointer false (Int I8 true)); node = Read (record { spot = record { line = 15; column = 3 }; ty = (Pointer false (Int I8 true)); node = Slot 3 }) }) (record { spot = record { line = 15; column = 6 }; ty = (Int I32 false); node = Number (pos 0) }) }) (record { spot = record { line = 15; column = 11 }; ty = (Int I8 true); node = Convert (record { spot = record { line = 15; column = 11 }; ty = (Int I32 true); node = Read (record { spot = record { line = 15; column = 11 }; ty = (Int I32 true); node = Slot 0 }) }) }) }) } ∷ record { spot = record { line = 16; column = 3 }; node = Declare (record { spot = record { line = 16; column = 14 }; slot = 4; init = None } ∷ []) } ∷ record { spot = record { line = 17; column = 3 }; node = Express (record { spot = record { line = 17; column = 3 }; ty = Nothing; node = Known (Reveals I32) (record { spot = record { line = 17; column = 18 }; ty = (Pointer false (Int I32 false)); node = Convert (record { spot = record { line = 17; column = 18 }; ty = (Pointer false (Int I32 false)); node = AddressOf (record { spot = record { line = 17; column = 19 }; ty = (Int I32 false); node = Slot 4 }) }) } ∷ record { spot = record { line = 17; column = 23 }; ty = (Int I32 true); node = Read (record { spot = record { line = 17; column = 23 }; ty = (Int I32 true); node = Slot 0 }) } ∷ []) }) } ∷ record { spot = record { line = 18; column = 3 }; node = Express (record { spot = record { line = 18; column = 3 }; ty = Nothing; node = Known (Prints (Decimal I32 ∷ Text (10 ∷ []) ∷ [])) (record { spot = record { line = 18; column = 18 }; ty = (Int I32 false); node = Read (record { spot = record { line = 18; column = 18 }; ty = (Int I32 false); node = Slot 4 }) } ∷ []) }) } ∷ record { spot = record { line = 19; column = 3 }; node = Declare (record { spot = record { line = 19; column = 15 }; slot = 5; init = None } ∷ []) } ∷ record { spot = record { line = 20; column = 3 }; node = Express (record { spot = record { line = 20; column = 3 }; ty = Nothing; node = Known (Reveals I8) (record { spot = record { line = 20; column = 19 }; ty = (Pointer false (Int I8 false)); node = Convert (record { spot = record { line = 20; column = 19 }; ty = (Pointer false (Int I8 false)); node = AddressOf (record { spot = record { line = 20; column = 20 }; ty = (Int I8 false); node = Slot 5 }) }) } ∷ record { spot = record { line = 20; column = 24 }; ty = (Int I8 true); node = Read (record { spot = record { line = 20; column = 24 }; ty = (Int I8 true); node = Slot 1 }) } ∷ []) }) } ∷ record { spot = record { line = 21; column = 3 }; node = Express (record { spot = record { line = 21; column = 3 }; ty = Nothing; node = Known (Prints (Decimal I32 ∷ Text (10 ∷ []) ∷ [])) (record { spot = record { line = 21; column = 18 }; ty = (Int I32 false); node = Convert (record { spot = record { line = 21; column = 18 }; ty = (Int I8 false); node = Read (record { spot = record { line = 21; column = 18 }; ty = (Int I8 false); node = Slot 5 }) }) } ∷ []) }) } ∷ record { spot = record { line = 22; column = 3 }; node = Express (record { spot = record { line = 22; column = 3 }; ty = Nothing; node = Known (Gives I64 2) (record { spot = record { line = 22; column = 12 }; ty = (Int I64 true); node = Read (record { spot = record { line = 22; column = 12 }; ty = (Int I64 true); node = Slot 2 }) } ∷ []) }) } ∷ []) } ∷ [])

abbrev setup : ClearSetup
setup = record { public = ((negsuc 128) ∷ (pos 255) ∷ []); first = ((pos 9223372036854775807) ∷ []); second = ((pos 96) ∷ []); dealt = 1048576; budget = 3000 }

clear : Clear structs functions 0 setup [] (Trap I1 (record { line = 7; column = 40 }))
unfolding digits hidden-the_row-TExpr-0 hidden-the_row-TExpr-1 hidden-the_row-TPlace-2 hidden-the_row-TStmt-0 hidden-the_row-TStmt-1 hidden-the_row-CType-0 hidden
clear = (refl, refl)

left : Left (clear_walk structs functions 0 setup) 2998 1048576
unfolding digits hidden-the_row-TExpr-0 hidden-the_row-TExpr-1 hidden-the_row-TPlace-2 hidden-the_row-TStmt-0 hidden-the_row-TStmt-1 hidden-the_row-CType-0 hidden
left = (refl, refl)

events : Ends (events_walk structs functions 0 (known_of setup) 1048576 [] 3000)
    [] (Trap I1 (record { line = 7; column = 40 }))
unfolding digits hidden-the_row-TExpr-0 hidden-the_row-TExpr-1 hidden-the_row-TPlace-2 hidden-the_row-TStmt-0 hidden-the_row-TStmt-1 hidden-the_row-CType-0 hidden
events = (refl, refl)
