-- A program whose run ends for want of steps.
-- What its runs show, their events and what they leave were made by an independent model.
use Rattle.std.proofs.Common.{pos, negsuc, List, [], ◌∷◌, Some, None, true, false, refl}
use Rattle.std.specs.Fmt.{digits}
use Rattle.oc_values.specs.declared.integers.IntKind.TheVariants.{Bool as KBool, I8, U8, U16, I32, U32, I64}
use Rattle.oc_values.specs.declared.integers.BinaryOp.TheVariants.{Add, Sub, Mul, Div, Shl, And, Or, Less, Greater, NotEqual}
use Rattle.oc_values.specs.declared.integers.OneOp.TheVariants.{Neg, Not}
use Rattle.oc_cells.specs.declared.types.CType.{Int, Pointer, Nothing}
use Rattle.oc_cells.specs.declared.types.StructType.{StructType}
use Rattle.oc_typed.specs.declared.typed.TExprNode.{Number, Read, AddressOf, Unary, Binary, Logic, Choose, Assign, Update, Convert, Builtin as Known}
use Rattle.oc_typed.specs.declared.typed.TExprNode.TheBlock.{hidden-the_row-TExpr-0, hidden-the_row-TExpr-1, hidden-the_row-TPlace-2}
use Rattle.oc_typed.specs.declared.typed.TStmtNode.TheBlock.{hidden-the_row-TStmt-0, hidden-the_row-TStmt-1}
use Rattle.oc_cells.specs.declared.types.CType.TheBlock.{hidden-the_row-CType-0}
use denote.Hole.Carrier.{hidden}
use Rattle.oc_typed.specs.declared.typed.TPlaceNode.{Slot, Deref, Index}
use Rattle.oc_typed.specs.declared.typed.Builtin.TheVariants.{Private, Feed as Feeds, Reveal as Reveals, Give as Gives, PublicWord, Print as Prints}
use Rattle.oc_typed.specs.declared.typed.PrintPiece.TheVariants.{Text, Decimal}
use Rattle.oc_typed.specs.declared.typed.TForInit.TheVariants.{Declare as ForDeclare}
use Rattle.oc_typed.specs.declared.typed.TStmtNode.{Declare, Express, Block, If, For, Return}
use Rattle.oc_typed.specs.declared.typed.TypedFunction.{TypedFunction}
use Rattle.oc_walk.specs.declared.run.ShownItem.TheVariants.{Print as Printed, Reveal as Revealed}
use Rattle.oc_walk.specs.declared.run.ClearSetup.{ClearSetup}
use Rattle.oc_walk.specs.declared.run.Outcome.TheVariants.{StepsSpent}
use Rattle.oc_meanings.specs.Clear.{Clear, known_of, clear_walk}
use Rattle.oc_meanings.specs.Events.{Fix, Of, Feed, Op, One, Turn, Reveal, Print, events_walk}
use Rattle.sampled_runs.proofs.Small.{Ends, Left}

abbrev structs : List StructType
structs = []

abbrev functions : List TypedFunction
functions = (record { name = []; result = (Int I32 false); params = 1; slots = (record { ty = (Pointer false (Int I8 true)); frozen = false } ∷ record { ty = (Int I64 true); frozen = false } ∷ record { ty = (Int U8 false); frozen = false } ∷ []); obliv = false; body = (record { spot = record { line = 5; column = 3 }; node = Express (record { spot = record { line = 5; column = 3 }; ty = (Int I8 true); node = Assign (record { spot = record { line = 5; column = 4 }; ty = (Int I8 true); node = Deref (record { spot = record { line = 5; column = 5 }; ty = (Pointer false (Int I8 true)); node = Read (record { spot = record { line = 5; column = 5 }; ty = (Pointer false (Int I8 true)); node = Slot 0 }) }) }) (record { spot = record { line = 5; column = 11 }; ty = (Int I8 true); node = Convert (record { spot = record { line = 5; column = 11 }; ty = (Int KBool true); node = Unary Not (record { spot = record { line = 5; column = 14 }; ty = (Int KBool true); node = Convert (record { spot = record { line = 5; column = 14 }; ty = (Int I8 true); node = Update Or (record { spot = record { line = 5; column = 14 }; ty = (Int I8 true); node = Index (record { spot = record { line = 5; column = 14 }; ty = (Pointer false (Int I8 true)); node = Read (record { spot = record { line = 5; column = 14 }; ty = (Pointer false (Int I8 true)); node = Slot 0 }) }) (record { spot = record { line = 5; column = 17 }; ty = (Int I32 false); node = Number (pos 0) }) }) (record { spot = record { line = 5; column = 23 }; ty = (Int I32 true); node = Binary Add (record { spot = record { line = 5; column = 23 }; ty = (Int I32 true); node = Convert (record { spot = record { line = 5; column = 23 }; ty = (Int I32 false); node = Number (pos 63) }) }) (record { spot = record { line = 5; column = 31 }; ty = (Int I32 true); node = Convert (record { spot = record { line = 5; column = 31 }; ty = (Int I8 true); node = Read (record { spot = record { line = 5; column = 31 }; ty = (Int I8 true); node = Deref (record { spot = record { line = 5; column = 32 }; ty = (Pointer false (Int I8 true)); node = Read (record { spot = record { line = 5; column = 32 }; ty = (Pointer false (Int I8 true)); node = Slot 0 }) }) }) }) }) }) false }) }) }) }) }) } ∷ record { spot = record { line = 6; column = 3 }; node = If (record { spot = record { line = 6; column = 7 }; ty = (Int U32 false); node = Convert (record { spot = record { line = 6; column = 21 }; ty = (Int I32 false); node = Number (pos 4) }) }) (record { spot = record { line = 7; column = 3 }; node = Block (record { spot = record { line = 8; column = 5 }; node = Express (record { spot = record { line = 8; column = 5 }; ty = Nothing; node = Known (Gives I64 2) (record { spot = record { line = 8; column = 14 }; ty = (Int I64 true); node = Convert (record { spot = record { line = 8; column = 14 }; ty = (Int I64 false); node = Known PublicWord (record { spot = record { line = 8; column = 23 }; ty = (Int I32 false); node = Number (pos 0) } ∷ []) }) } ∷ []) }) } ∷ []) }) (Some (record { spot = record { line = 11; column = 3 }; node = Block (record { spot = record { line = 12; column = 5 }; node = Declare (record { spot = record { line = 12; column = 16 }; slot = 1; init = Some (record { spot = record { line = 12; column = 21 }; ty = (Int I64 true); node = Known (Feeds I64 2) (record { spot = record { line = 12; column = 36 }; ty = (Int I32 false); node = Known Private (record { spot = record { line = 12; column = 46 }; ty = (Int I32 false); node = Number (pos 1) } ∷ []) } ∷ []) }) } ∷ []) } ∷ record { spot = record { line = 13; column = 5 }; node = Express (record { spot = record { line = 13; column = 5 }; ty = (Int I64 true); node = Assign (record { spot = record { line = 13; column = 5 }; ty = (Int I64 true); node = Slot 1 }) (record { spot = record { line = 13; column = 10 }; ty = (Int I64 true); node = Convert (record { spot = record { line = 13; column = 10 }; ty = (Int I64 false); node = Known PublicWord (record { spot = record { line = 13; column = 19 }; ty = (Int I32 false); node = Number (pos 0) } ∷ []) }) }) }) } ∷ record { spot = record { line = 14; column = 5 }; node = Declare (record { spot = record { line = 14; column = 19 }; slot = 2; init = Some (record { spot = record { line = 14; column = 24 }; ty = (Int U8 false); node = Convert (record { spot = record { line = 14; column = 24 }; ty = (Int I32 false); node = Binary Div (record { spot = record { line = 14; column = 26 }; ty = (Int I32 false); node = Choose (record { spot = record { line = 14; column = 26 }; ty = (Int I32 false); node = Number (pos 8) }) (record { spot = record { line = 14; column = 30 }; ty = (Int I32 false); node = Number (pos 9) }) (record { spot = record { line = 14; column = 34 }; ty = (Int I32 false); node = Number (pos 0) }) }) (record { spot = record { line = 14; column = 40 }; ty = (Int I32 false); node = Number (pos 6) }) }) }) } ∷ []) } ∷ []) })) } ∷ record { spot = record { line = 16; column = 3 }; node = Return (Some (record { spot = record { line = 16; column = 10 }; ty = (Int I32 false); node = Logic true (record { spot = record { line = 16; column = 10 }; ty = (Int KBool false); node = Convert (record { spot = record { line = 16; column = 10 }; ty = (Int I32 false); node = Number (pos 14) }) }) (record { spot = record { line = 16; column = 16 }; ty = (Int KBool false); node = Convert (record { spot = record { line = 16; column = 16 }; ty = (Int I32 false); node = Convert (record { spot = record { line = 16; column = 22 }; ty = (Int I32 false); node = Number (pos 34) }) }) }) })) } ∷ []) } ∷ record { name = []; result = (Int I8 true); params = 1; slots = (record { ty = (Int U8 false); frozen = false } ∷ record { ty = (Int I32 false); frozen = false } ∷ []); obliv = true; body = (record { spot = record { line = 19; column = 3 }; node = For (ForDeclare (record { spot = record { line = 19; column = 12 }; slot = 1; init = Some (record { spot = record { line = 19; column = 17 }; ty = (Int I32 false); node = Number (pos 0) }) } ∷ [])) (Some (record { spot = record { line = 19; column = 20 }; ty = (Int I32 false); node = Binary Less (record { spot = record { line = 19; column = 20 }; ty = (Int I32 false); node = Read (record { spot = record { line = 19; column = 20 }; ty = (Int I32 false); node = Slot 1 }) }) (record { spot = record { line = 19; column = 25 }; ty = (Int I32 false); node = Number (pos 0) }) })) (Some (record { spot = record { line = 19; column = 28 }; ty = (Int I32 false); node = Update Add (record { spot = record { line = 19; column = 28 }; ty = (Int I32 false); node = Slot 1 }) (record { spot = record { line = 19; column = 34 }; ty = (Int I32 false); node = Number (pos 1) }) false })) (record { spot = record { line = 20; column = 3 }; node = Block (record { spot = record { line = 21; column = 5 }; node = Express (record { spot = record { line = 21; column = 5 }; ty = (Int U8 false); node = Assign (record { spot = record { line = 21; column = 5 }; ty = (Int U8 false); node = Slot 0 }) (record { spot = record { line = 21; column = 11 }; ty = (Int U8 false); node = Convert (record { spot = record { line = 21; column = 11 }; ty = (Int I32 false); node = Choose (record { spot = record { line = 21; column = 11 }; ty = (Int U16 false); node = Convert (record { spot = record { line = 21; column = 32 }; ty = (Int I32 false); node = Binary Greater (record { spot = record { line = 21; column = 32 }; ty = (Int I32 false); node = Convert (record { spot = record { line = 21; column = 32 }; ty = (Int U8 false); node = Read (record { spot = record { line = 21; column = 32 }; ty = (Int U8 false); node = Slot 0 }) }) }) (record { spot = record { line = 21; column = 37 }; ty = (Int I32 false); node = Convert (record { spot = record { line = 21; column = 37 }; ty = (Int U8 false); node = Read (record { spot = record { line = 21; column = 37 }; ty = (Int U8 false); node = Slot 0 }) }) }) }) }) (record { spot = record { line = 21; column = 43 }; ty = (Int I32 false); node = Binary Shl (record { spot = record { line = 21; column = 43 }; ty = (Int I32 false); node = Convert (record { spot = record { line = 21; column = 43 }; ty = (Int U8 false); node = Read (record { spot = record { line = 21; column = 43 }; ty = (Int U8 false); node = Slot 0 }) }) }) (record { spot = record { line = 21; column = 49 }; ty = (Int I32 false); node = Binary Add (record { spot = record { line = 21; column = 50 }; ty = (Int I32 false); node = Number (pos 63) }) (record { spot = record { line = 21; column = 59 }; ty = (Int I32 false); node = Unary Not (record { spot = record { line = 21; column = 60 }; ty = (Int KBool false); node = Convert (record { spot = record { line = 21; column = 60 }; ty = (Int U8 false); node = Read (record { spot = record { line = 21; column = 60 }; ty = (Int U8 false); node = Slot 0 }) }) }) }) }) }) (record { spot = record { line = 21; column = 66 }; ty = (Int I32 false); node = Read (record { spot = record { line = 21; column = 66 }; ty = (Int I32 false); node = Slot 1 }) }) }) }) }) } ∷ []) }) } ∷ record { spot = record { line = 23; column = 3 }; node = Return (Some (record { spot = record { line = 23; column = 10 }; ty = (Int I8 true); node = Convert (record { spot = record { line = 23; column = 10 }; ty = (Int U8 false); node = Update Sub (record { spot = record { line = 23; column = 10 }; ty = (Int U8 false); node = Slot 0 }) (record { spot = record { line = 23; column = 10 }; ty = (Int I32 false); node = Number (pos 1) }) true }) })) } ∷ []) } ∷ record { name = []; result = Nothing; params = 0; slots = (record { ty = (Int I32 true); frozen = false } ∷ record { ty = (Int I64 true); frozen = false } ∷ record { ty = (Int I32 true); frozen = false } ∷ record { ty = (Int U32 true); frozen = false } ∷ record { ty = (Int I32 true); frozen = false } ∷ record { ty = (Int U8 true); frozen = false } ∷ record { ty = (Int I32 false); frozen = false } ∷ record { ty = (Int I64 false); frozen = false } ∷ record { ty = (Int I32 false); frozen = false } ∷ record { ty = (Int I64 false); frozen = false } ∷ record { ty = (Int I64 false); frozen = false } ∷ []); obliv = false; body = (record { spot = record { line = 26; column = 3 }; node = Declare (record { spot = record { line = 26; column = 13 }; slot = 0; init = Some (record { spot = record { line = 26; column = 18 }; ty = (Int I32 true); node = Known (Feeds I32 1) (record { spot = record { line = 26; column = 31 }; ty = (Int I32 false); node = Known Private (record { spot = record { line = 26; column = 41 }; ty = (Int I32 false); node = Number (pos 1) } ∷ []) } ∷ []) }) } ∷ []) } ∷ record { spot = record { line = 27; column = 3 }; node = Declare (record { spot = record { line = 27; column = 14 }; slot = 1; init = Some (record { spot = record { line = 27; column = 20 }; ty = (Int I64 true); node = Known (Feeds I64 1) (record { spot = record { line = 27; column = 35 }; ty = (Int I64 true); node = Convert (record { spot = record { line = 27; column = 35 }; ty = (Int I32 false); node = Logic false (record { spot = record { line = 27; column = 35 }; ty = (Int KBool false); node = Convert (record { spot = record { line = 27; column = 35 }; ty = (Int I32 false); node = Number (pos 17) }) }) (record { spot = record { line = 27; column = 41 }; ty = (Int KBool false); node = Convert (record { spot = record { line = 27; column = 41 }; ty = (Int I32 false); node = Number (pos 17) }) }) }) } ∷ []) }) } ∷ []) } ∷ record { spot = record { line = 28; column = 3 }; node = Declare (record { spot = record { line = 28; column = 16 }; slot = 2; init = Some (record { spot = record { line = 28; column = 22 }; ty = (Int I32 true); node = Known (Feeds I32 1) (record { spot = record { line = 28; column = 35 }; ty = (Int I32 false); node = Known Private (record { spot = record { line = 28; column = 45 }; ty = (Int I32 false); node = Number (pos 0) } ∷ []) } ∷ []) }) } ∷ []) } ∷ record { spot = record { line = 29; column = 3 }; node = Express (record { spot = record { line = 29; column = 3 }; ty = (Int I64 true); node = Update Mul (record { spot = record { line = 29; column = 3 }; ty = (Int I64 true); node = Slot 1 }) (record { spot = record { line = 29; column = 10 }; ty = (Int I64 true); node = Unary Neg (record { spot = record { line = 29; column = 13 }; ty = (Int I64 true); node = Choose (record { spot = record { line = 29; column = 13 }; ty = (Int I32 false); node = Number (pos 0) }) (record { spot = record { line = 29; column = 17 }; ty = (Int I64 true); node = Convert (record { spot = record { line = 29; column = 17 }; ty = (Int I32 true); node = Read (record { spot = record { line = 29; column = 17 }; ty = (Int I32 true); node = Slot 0 }) }) }) (record { spot = record { line = 29; column = 22 }; ty = (Int I64 true); node = Read (record { spot = record { line = 29; column = 22 }; ty = (Int I64 true); node = Slot 1 }) }) }) }) false }) } ∷ record { spot = record { line = 30; column = 3 }; node = Express (record { spot = record { line = 30; column = 3 }; ty = (Int I64 true); node = Assign (record { spot = record { line = 30; column = 3 }; ty = (Int I64 true); node = Slot 1 }) (record { spot = record { line = 30; column = 9 }; ty = (Int I64 true); node = Convert (record { spot = record { line = 30; column = 9 }; ty = (Int I32 true); node = Binary And (record { spot = record { line = 30; column = 10 }; ty = (Int I32 true); node = Convert (record { spot = record { line = 30; column = 10 }; ty = (Int KBool true); node = Binary NotEqual (record { spot = record { line = 30; column = 10 }; ty = (Int I32 true); node = Convert (record { spot = record { line = 30; column = 10 }; ty = (Int U8 true); node = Convert (record { spot = record { line = 30; column = 31 }; ty = (Int I32 true); node = Read (record { spot = record { line = 30; column = 31 }; ty = (Int I32 true); node = Slot 0 }) }) }) }) (record { spot = record { line = 30; column = 38 }; ty = (Int I32 true); node = Convert (record { spot = record { line = 30; column = 38 }; ty = (Int KBool true); node = Logic true (record { spot = record { line = 30; column = 38 }; ty = (Int KBool true); node = Convert (record { spot = record { line = 30; column = 38 }; ty = (Int I32 true); node = Read (record { spot = record { line = 30; column = 38 }; ty = (Int I32 true); node = Slot 2 }) }) }) (record { spot = record { line = 30; column = 45 }; ty = (Int KBool true); node = Convert (record { spot = record { line = 30; column = 45 }; ty = (Int I32 true); node = Read (record { spot = record { line = 30; column = 45 }; ty = (Int I32 true); node = Slot 0 }) }) }) }) }) }) }) (record { spot = record { line = 30; column = 53 }; ty = (Int I32 true); node = Convert (record { spot = record { line = 30; column = 53 }; ty = (Int I32 false); node = Binary Less (record { spot = record { line = 30; column = 53 }; ty = (Int I64 false); node = Convert (record { spot = record { line = 30; column = 53 }; ty = (Int I32 false); node = Number (pos 10) }) }) (record { spot = record { line = 30; column = 58 }; ty = (Int I64 false); node = Number (pos 7) }) }) }) }) }) }) } ∷ record { spot = record { line = 31; column = 3 }; node = Express (record { spot = record { line = 31; column = 3 }; ty = (Int I32 true); node = Assign (record { spot = record { line = 31; column = 3 }; ty = (Int I32 true); node = Slot 2 }) (record { spot = record { line = 31; column = 10 }; ty = (Int I32 true); node = Update Add (record { spot = record { line = 31; column = 12 }; ty = (Int I32 true); node = Slot 0 }) (record { spot = record { line = 31; column = 10 }; ty = (Int I32 true); node = Convert (record { spot = record { line = 31; column = 10 }; ty = (Int I32 false); node = Number (pos 1) }) }) false }) }) } ∷ record { spot = record { line = 32; column = 3 }; node = Declare (record { spot = record { line = 32; column = 22 }; slot = 3; init = None } ∷ []) } ∷ record { spot = record { line = 33; column = 3 }; node = Express (record { spot = record { line = 33; column = 3 }; ty = Nothing; node = Known (Prints (Text (120 ∷ 32 ∷ 10 ∷ []) ∷ [])) [] }) } ∷ record { spot = record { line = 34; column = 3 }; node = Declare (record { spot = record { line = 34; column = 13 }; slot = 4; init = Some (record { spot = record { line = 34; column = 19 }; ty = (Int I32 true); node = Known (Feeds I32 1) (record { spot = record { line = 34; column = 32 }; ty = (Int I32 false); node = Known Private (record { spot = record { line = 34; column = 42 }; ty = (Int I32 false); node = Number (pos 1) } ∷ []) } ∷ []) }) } ∷ []) } ∷ record { spot = record { line = 35; column = 3 }; node = Declare (record { spot = record { line = 35; column = 23 }; slot = 5; init = Some (record { spot = record { line = 35; column = 29 }; ty = (Int U8 true); node = Convert (record { spot = record { line = 35; column = 29 }; ty = (Int I32 true); node = Unary Neg (record { spot = record { line = 35; column = 31 }; ty = (Int I32 true); node = Convert (record { spot = record { line = 35; column = 31 }; ty = (Int KBool true); node = Convert (record { spot = record { line = 35; column = 44 }; ty = (Int U32 true); node = Read (record { spot = record { line = 35; column = 44 }; ty = (Int U32 true); node = Slot 3 }) }) }) }) }) }) } ∷ []) } ∷ record { spot = record { line = 36; column = 3 }; node = Declare (record { spot = record { line = 36; column = 10 }; slot = 6; init = None } ∷ []) } ∷ record { spot = record { line = 37; column = 3 }; node = Express (record { spot = record { line = 37; column = 3 }; ty = Nothing; node = Known (Reveals I32) (record { spot = record { line = 37; column = 18 }; ty = (Pointer false (Int I32 false)); node = Convert (record { spot = record { line = 37; column = 18 }; ty = (Pointer false (Int I32 false)); node = AddressOf (record { spot = record { line = 37; column = 19 }; ty = (Int I32 false); node = Slot 6 }) }) } ∷ record { spot = record { line = 37; column = 24 }; ty = (Int I32 true); node = Read (record { spot = record { line = 37; column = 24 }; ty = (Int I32 true); node = Slot 0 }) } ∷ []) }) } ∷ record { spot = record { line = 38; column = 3 }; node = Express (record { spot = record { line = 38; column = 3 }; ty = Nothing; node = Known (Prints (Decimal I32 ∷ Text (10 ∷ []) ∷ [])) (record { spot = record { line = 38; column = 18 }; ty = (Int I32 false); node = Read (record { spot = record { line = 38; column = 18 }; ty = (Int I32 false); node = Slot 6 }) } ∷ []) }) } ∷ record { spot = record { line = 39; column = 3 }; node = Declare (record { spot = record { line = 39; column = 8 }; slot = 7; init = None } ∷ []) } ∷ record { spot = record { line = 40; column = 3 }; node = Express (record { spot = record { line = 40; column = 3 }; ty = Nothing; node = Known (Reveals I64) (record { spot = record { line = 40; column = 20 }; ty = (Pointer false (Int I64 false)); node = Convert (record { spot = record { line = 40; column = 20 }; ty = (Pointer false (Int I64 false)); node = AddressOf (record { spot = record { line = 40; column = 21 }; ty = (Int I64 false); node = Slot 7 }) }) } ∷ record { spot = record { line = 40; column = 26 }; ty = (Int I64 true); node = Read (record { spot = record { line = 40; column = 26 }; ty = (Int I64 true); node = Slot 1 }) } ∷ []) }) } ∷ record { spot = record { line = 41; column = 3 }; node = Express (record { spot = record { line = 41; column = 3 }; ty = Nothing; node = Known (Prints (Decimal I64 ∷ Text (10 ∷ []) ∷ [])) (record { spot = record { line = 41; column = 20 }; ty = (Int I64 false); node = Read (record { spot = record { line = 41; column = 20 }; ty = (Int I64 false); node = Slot 7 }) } ∷ []) }) } ∷ record { spot = record { line = 42; column = 3 }; node = Declare (record { spot = record { line = 42; column = 7 }; slot = 8; init = None } ∷ []) } ∷ record { spot = record { line = 43; column = 3 }; node = Express (record { spot = record { line = 43; column = 3 }; ty = Nothing; node = Known (Reveals I32) (record { spot = record { line = 43; column = 18 }; ty = (Pointer false (Int I32 false)); node = Convert (record { spot = record { line = 43; column = 18 }; ty = (Pointer false (Int I32 false)); node = AddressOf (record { spot = record { line = 43; column = 19 }; ty = (Int I32 false); node = Slot 8 }) }) } ∷ record { spot = record { line = 43; column = 24 }; ty = (Int I32 true); node = Read (record { spot = record { line = 43; column = 24 }; ty = (Int I32 true); node = Slot 2 }) } ∷ []) }) } ∷ record { spot = record { line = 44; column = 3 }; node = Express (record { spot = record { line = 44; column = 3 }; ty = Nothing; node = Known (Prints (Decimal I32 ∷ Text (10 ∷ []) ∷ [])) (record { spot = record { line = 44; column = 18 }; ty = (Int I32 false); node = Read (record { spot = record { line = 44; column = 18 }; ty = (Int I32 false); node = Slot 8 }) } ∷ []) }) } ∷ record { spot = record { line = 45; column = 3 }; node = Declare (record { spot = record { line = 45; column = 20 }; slot = 9; init = None } ∷ []) } ∷ record { spot = record { line = 46; column = 3 }; node = Express (record { spot = record { line = 46; column = 3 }; ty = Nothing; node = Known (Reveals I64) (record { spot = record { line = 46; column = 20 }; ty = (Pointer false (Int I64 false)); node = Convert (record { spot = record { line = 46; column = 20 }; ty = (Pointer false (Int I64 false)); node = AddressOf (record { spot = record { line = 46; column = 21 }; ty = (Int I64 false); node = Slot 9 }) }) } ∷ record { spot = record { line = 46; column = 26 }; ty = (Int I64 true); node = Convert (record { spot = record { line = 46; column = 26 }; ty = (Int U32 true); node = Read (record { spot = record { line = 46; column = 26 }; ty = (Int U32 true); node = Slot 3 }) }) } ∷ []) }) } ∷ record { spot = record { line = 47; column = 3 }; node = Express (record { spot = record { line = 47; column = 3 }; ty = Nothing; node = Known (Prints (Decimal I64 ∷ Text (10 ∷ []) ∷ [])) (record { spot = record { line = 47; column = 20 }; ty = (Int I64 false); node = Read (record { spot = record { line = 47; column = 20 }; ty = (Int I64 false); node = Slot 9 }) } ∷ []) }) } ∷ record { spot = record { line = 48; column = 3 }; node = Express (record { spot = record { line = 48; column = 3 }; ty = Nothing; node = Known (Gives I32 2) (record { spot = record { line = 48; column = 12 }; ty = (Int I32 true); node = Read (record { spot = record { line = 48; column = 12 }; ty = (Int I32 true); node = Slot 4 }) } ∷ []) }) } ∷ record { spot = record { line = 49; column = 3 }; node = Declare (record { spot = record { line = 49; column = 20 }; slot = 10; init = None } ∷ []) } ∷ record { spot = record { line = 50; column = 3 }; node = Express (record { spot = record { line = 50; column = 3 }; ty = Nothing; node = Known (Reveals I64) (record { spot = record { line = 50; column = 20 }; ty = (Pointer false (Int I64 false)); node = Convert (record { spot = record { line = 50; column = 20 }; ty = (Pointer false (Int I64 false)); node = AddressOf (record { spot = record { line = 50; column = 21 }; ty = (Int I64 false); node = Slot 10 }) }) } ∷ record { spot = record { line = 50; column = 26 }; ty = (Int I64 true); node = Convert (record { spot = record { line = 50; column = 26 }; ty = (Int U8 true); node = Read (record { spot = record { line = 50; column = 26 }; ty = (Int U8 true); node = Slot 5 }) }) } ∷ []) }) } ∷ record { spot = record { line = 51; column = 3 }; node = Express (record { spot = record { line = 51; column = 3 }; ty = Nothing; node = Known (Prints (Decimal I64 ∷ Text (10 ∷ []) ∷ [])) (record { spot = record { line = 51; column = 20 }; ty = (Int I64 false); node = Read (record { spot = record { line = 51; column = 20 }; ty = (Int I64 false); node = Slot 10 }) } ∷ []) }) } ∷ []) } ∷ [])

abbrev setup : ClearSetup
setup = record { public = ((negsuc 9223372036854775807) ∷ []); first = ((pos 2147483647) ∷ (pos 256) ∷ (pos 15) ∷ (pos 31) ∷ []); second = ((pos 23) ∷ (negsuc 64) ∷ []); dealt = 1048576; budget = 22 }

clear : Clear structs functions 2 setup (Printed (120 ∷ 32 ∷ 10 ∷ []) ∷ Revealed I32 (pos 257) ∷ Printed (50 ∷ 53 ∷ 55 ∷ 10 ∷ []) ∷ Revealed I64 (pos 0) ∷ Printed (48 ∷ 10 ∷ []) ∷ Revealed I32 (pos 257) ∷ Printed (50 ∷ 53 ∷ 55 ∷ 10 ∷ []) ∷ Revealed I64 (pos 0) ∷ Printed (48 ∷ 10 ∷ []) ∷ []) StepsSpent
unfolding digits hidden-the_row-TExpr-0 hidden-the_row-TExpr-1 hidden-the_row-TPlace-2 hidden-the_row-TStmt-0 hidden-the_row-TStmt-1 hidden-the_row-CType-0 hidden
clear = (refl, refl)

left : Left (clear_walk structs functions 2 setup) 0 1048576
unfolding digits hidden-the_row-TExpr-0 hidden-the_row-TExpr-1 hidden-the_row-TPlace-2 hidden-the_row-TStmt-0 hidden-the_row-TStmt-1 hidden-the_row-CType-0 hidden
left = (refl, refl)

events : Ends (events_walk structs functions 2 (known_of setup) 1048576 ((pos 257) ∷ (pos 0) ∷ (pos 257) ∷ (pos 0) ∷ []) 22)
    (Feed 1 I32 1 ∷ Feed 1 I32 0 ∷ One Neg I64 (Fix I64 (pos 1)) ∷ Op Mul I64 (Fix I64 (pos 1)) (Of 2) ∷ Turn I32 U8 (Of 0) ∷ Turn U8 I32 (Of 4) ∷ Turn I32 KBool (Of 1) ∷ Turn I32 KBool (Of 0) ∷ Op And KBool (Of 6) (Of 7) ∷ Turn KBool I32 (Of 8) ∷ Op NotEqual I32 (Of 5) (Of 9) ∷ Turn KBool I32 (Of 10) ∷ Op And I32 (Of 11) (Fix I32 (pos 0)) ∷ Turn I32 I64 (Of 12) ∷ Op Add I32 (Of 0) (Fix I32 (pos 1)) ∷ Print (120 ∷ 32 ∷ 10 ∷ []) ∷ Feed 1 I32 1 ∷ Turn U32 KBool (Fix U32 (pos 0)) ∷ Turn KBool I32 (Of 17) ∷ One Neg I32 (Of 18) ∷ Turn I32 U8 (Of 19) ∷ Reveal I32 (Of 14) ∷ Print (50 ∷ 53 ∷ 55 ∷ 10 ∷ []) ∷ Reveal I64 (Of 13) ∷ Print (48 ∷ 10 ∷ []) ∷ Reveal I32 (Of 14) ∷ Print (50 ∷ 53 ∷ 55 ∷ 10 ∷ []) ∷ Turn U32 I64 (Fix U32 (pos 0)) ∷ Reveal I64 (Of 27) ∷ Print (48 ∷ 10 ∷ []) ∷ []) StepsSpent
unfolding digits hidden-the_row-TExpr-0 hidden-the_row-TExpr-1 hidden-the_row-TPlace-2 hidden-the_row-TStmt-0 hidden-the_row-TStmt-1 hidden-the_row-CType-0 hidden
events = (refl, refl)
